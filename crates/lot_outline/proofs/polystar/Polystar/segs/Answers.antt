use Rattle.std.proofs.Common.{◌≡◌, ◌+◌, ◌-◌, ◌∙◌, ◌++◌, ◌∷◌, [], ℕ, map, ap, sym, arith, rules}
use Rattle.std.specs.List.{range_with_len}
use Rattle.lot_outline.specs.Polystar.{vertex, seg_from, segment_between}
use Rattle.lot_outline.proofs.Neighbours.{to_next, to_first}
use Rattle.lot_outline.proofs.polystar.Polystar.segs.Goals as goal

pub loop-j-preserved : goal.loop-j-preserved
loop-j-preserved c =
    let here : c.loop-j.j + 1 - 1 ≡ c.loop-j.j = omega arith in
    let to : c.vertex-to.result ≡ vertex c.args.self.now c.loop-j.j = search rules in
    let seg : c.curve_between.result ≡ segment_between c.loop-j.from c.vertex-to.result = search rules in
    let pushed : c.push.new.self ≡ c.loop-j.made ++ c.curve_between.result ∷ [] = search rules in
    record {
      from = to ∙ ap (vertex c.args.self.now) (sym here);
      made =
          pushed
          ∙ to_next c.args.self.now c.loop-j.made c.loop-j.from c.vertex-to.result c.curve_between.result c.loop-j.j
          (omega arith) (omega arith) c.loop-j.invariant.from to seg c.loop-j.invariant.made
          ∙ ap (λ (n : ℕ). map (seg_from c.args.self.now) (range_with_len 0 n)) (sym here);
    }

pub returns : goal.returns
returns c =
    let end : c.loop-j.j ≡ c.args.self.now.vertices = omega (arith, c.requires.some) in
    let seg : c.curve_between-2.result ≡ segment_between c.loop-j.from c.args.first.now = search rules in
    let pushed : c.push-2.new.self ≡ c.loop-j.made ++ c.curve_between-2.result ∷ [] = search rules in
    pushed
    ∙ to_first c.args.self.now c.loop-j.made c.loop-j.from c.args.first.now c.curve_between-2.result c.loop-j.j
    (omega arith) end c.loop-j.invariant.from c.requires.first seg c.loop-j.invariant.made
