use Rattle.std.proofs.Common.{◌≡◌, ◌∙◌, ℕ, ◌+◌, ◌-◌, ◌<◌, Bool, true, false, List, [], ◌∷◌, ◌++◌, length, ap, sym, subst, arith, rules}
use Rattle.lot_types.specs.declared.seg.Seg.{Seg}
use Rattle.lot_types.specs.Curve.{AreVertices}
use Rattle.lot_geom.specs.Path.{curve_between, vertex_at, segs_of, vertices_of}
use Rattle.lot_geom.proofs.VertexLists.{AreMade, one_more, left_open, closes}
use Rattle.lot_geom.proofs.path.curves.Goals as goal
use Rattle.lot_geom.proofs.path.curves.Goals.{then-b+in_ok-push-2, else-b}

pub loop-to-preserved : goal.loop-to-preserved
loop-to-preserved c =
    let are_vertices : AreVertices c.args.b.now.v c.args.b.now.i c.args.b.now.o = search rules in
    let long : length c.items-n.result.now ≡ length c.args.b.now.v = search rules in
    let pushed : c.push.new.self ≡ c.loop-to.made ++ c.curve_between.result ∷ [] = search rules in
    let curve : c.curve_between.result
    ≡ curve_between (vertex_at c.args.b.now (c.loop-to.to - 1)) (vertex_at c.args.b.now c.loop-to.to) = search rules in
    subst (λ (made : List Seg). AreMade c.args.b.now made (c.loop-to.to + 1)) (sym pushed)
    (one_more c.args.b.now c.loop-to.made c.loop-to.to c.curve_between.result
    are_vertices (omega arith) (omega arith) curve c.loop-to.invariant)

pub returns : goal.returns
returns c =
    let are_vertices : AreVertices c.args.b.now.v c.args.b.now.i c.args.b.now.o = search rules in
    let long : length c.items-n.result.now ≡ length c.args.b.now.v = search rules in
    let n = length c.items-n.result.now in
    let some : 0 < n = omega (arith, long, c.requires) in
    let end : c.loop-to.to ≡ n = omega arith in
    let made = subst (λ (to : ℕ). AreMade c.args.b.now c.loop-to.made to) end c.loop-to.invariant in
    elim c.if-b.branch [
      | then-b+in_ok-push-2 w ↦
          let closed : c.args.b.now.closed ≡ true = search rules in
          let pushed : w.push-then-b.new.self ≡ c.loop-to.made ++ w.curve_between-then-b.result ∷ [] = search rules in
          let curve : w.curve_between-then-b.result
          ≡ curve_between (vertex_at c.args.b.now (n - 1)) (vertex_at c.args.b.now 0) = search rules in
          w.made-is ∙ pushed
          ∙ closes c.args.b.now c.loop-to.made n w.curve_between-then-b.result are_vertices some long curve made
          ∙ ap (λ (x : Bool). segs_of x (vertices_of c.args.b.now)) (sym closed)
      | else-b w ↦
          let open_path : c.args.b.now.closed ≡ false = search rules in
          w.made-is
          ∙ left_open c.args.b.now c.loop-to.made n are_vertices some long made
          ∙ ap (λ (x : Bool). segs_of x (vertices_of c.args.b.now)) (sym open_path)
    ]
