use Rattle.std.proofs.Common.{◌≡◌, ℕ, List, [], ◌∷◌, ◌++◌, ◌-◌, length, take, reverse, get_or, ap, sym, ◌∙◌, arith}
use Rattle.std.proofs.lemmas.List.{take_more, reverse-append}
use Rattle.lot_comp.specs.Frame.{nodes}
use Rattle.lot_play.specs.Walk.{after_frame}
use Rattle.lot_types.specs.Frame.{visits}
use Rattle.lot_play.proofs.frame.write_drawn.Goals as goal

pub loop-i-preserved : goal.loop-i-preserved
loop-i-preserved g c =
    let drawn : List ℕ = c.drawn_layers-drawn.result.now in
    let i : ℕ = c.loop-i.i in
    let more : take i drawn ≡ take (i - 1) drawn ++ get_or drawn (i - 1) 0 ∷ [] =
    ap (λ (n : ℕ). take n drawn) (omega (arith, c.loop-i-test.true)) ∙ take_more drawn (i - 1) 0 (omega (arith, c.loop-i-test.true, c.loop-i.invariant.within)) in
    let next : reverse (take i drawn) ≡ get_or drawn (i - 1) 0 ∷ reverse (take (i - 1) drawn) =
    ap reverse more ∙ reverse-append (take (i - 1) drawn) (get_or drawn (i - 1) 0 ∷ []) in
    let same_count : length (visits (nodes c.args.d.now c.args.c c.args.t (reverse (take i drawn))))
    ≡ length (visits (nodes c.args.d.now c.args.c c.args.t (get_or drawn (i - 1) 0 ∷ reverse (take (i - 1) drawn)))) =
    ap (λ (ls : List ℕ). length (visits (nodes c.args.d.now c.args.c c.args.t ls))) next in
    record {
      within = omega (arith, c.loop-i.invariant.within);
      left = c.in_ok-write_layer.ensures.written (reverse (take (i - 1) drawn))
          ∙ ap (λ (ls : List ℕ). after_frame c.args.d.now (nodes c.args.d.now c.args.c c.args.t ls) c.loop-i.w) (sym next)
          ∙ c.loop-i.invariant.left;
      evaluated = omega (arith, c.loop-i.invariant.evaluated, same_count, c.write_layer.ensures.evaluated (reverse (take (i - 1) drawn)));
      counted = omega (arith, c.loop-i.invariant.counted, c.write_layer.ensures.counted, c.loop-i-test.true);
    }
