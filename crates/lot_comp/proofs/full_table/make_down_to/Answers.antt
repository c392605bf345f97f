use Rattle.std.proofs.Common.{◌≡◌, ℕ, ◌<◌, [], ◌∷◌, length, reverse, Some, ap, ◌∙◌, subst, arith}
use Rattle.std.proofs.lemmas.List.{reverse-append}
use Rattle.std.proofs.lemmas.List.Elements.{All-pop}
use Rattle.lot_comp.specs.FullTable.{IsLeft}
use Rattle.lot_refs.specs.Linked.{layers_of}
use Rattle.lot_comp.proofs.FullTable.{stays_full, stays_made, next_left}
use Rattle.lot_comp.proofs.full_table.make_down_to.Goals as goal

pub loop-k-preserved : goal.loop-k-preserved
loop-k-preserved c =
    let layers = layers_of c.args.d.now c.args.c in
    let k : ℕ = c.in-Some.k in
    let m = c.full_below-m.result in
    let turned : reverse c.loop-k.left ≡ k ∷ reverse c.pop.new.self =
    ap reverse c.in-Some.ensures.last ∙ reverse-append c.pop.new.self (k ∷ []) in
    let left : IsLeft layers c.loop-k.made c.args.l c.loop-k.invariant.left.0 (k ∷ reverse c.pop.new.self) =
    subst (IsLeft layers c.loop-k.made c.args.l c.loop-k.invariant.left.0) turned c.loop-k.invariant.left.1 in
    let parts = All-pop (λ (j : ℕ). j < length layers) c.loop-k.left c.pop.new.self (Some k) c.in-Some.ensures.last c.loop-k.invariant.within in
    let less : k < length c.loop-k.made = omega (arith, parts.1, c.loop-k.invariant.full.count) in
    record {
      full = stays_full c.args.d.now c.args.c c.args.t c.loop-k.made k m less c.full_below-m.ensures c.loop-k.invariant.full;
      left = (Some k, next_left layers c.loop-k.made c.args.l k c.loop-k.invariant.left.0 (reverse c.pop.new.self) m less left);
      within = parts.0;
      kept = λ j is. stays_made c.loop-k.made k m less j (c.loop-k.invariant.kept j is);
    }
