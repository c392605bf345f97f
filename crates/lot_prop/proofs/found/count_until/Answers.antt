use Rattle.std.proofs.Common.{rules, of_calls, int_le, List, sym, subst, arith}
use Rattle.std.proofs.lemmas.Fn.{always_returns_same}
use Rattle.lot_types.specs.declared.key.Key.{Key}
use Rattle.lot_types.specs.Keyframes.{IsTimeline}
use Rattle.lot_prop.specs.Found.{IsCount}
use Rattle.lot_prop.proofs.Timeline.{partitioned}
use Rattle.lot_prop.proofs.found.count_until.Goals as goal

pub returns : goal.returns
returns g c =
    let line = subst (λ (keys : List (Key g.row.T.Denot)). IsTimeline keys) (sym c.items.ensures.value) c.items.ensures.timeline in
    let point = c.partition_point.ensures.partitioned (λ key. int_le key.t c.args.t) (always_returns_same _ _ _ (λ a r f k. search (rules, of_calls))) (partitioned c.items.result.now c.args.t line) in
    subst (λ (keys : List (Key g.row.T.Denot)). IsCount keys c.args.t c.partition_point.result) c.items.ensures.value (record {
      within = c.partition_point.ensures.bound;
      until = λ k other h. point.0 k other (omega arith) h;
      after = λ k other h i. point.1 k other h i;
    })
