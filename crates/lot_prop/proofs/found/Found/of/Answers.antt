use Rattle.std.proofs.Common.{◌≡◌, ℕ, ◌+◌, ◌-◌, length, List, subst, ap, ◌∙◌, arith, slice_index_or, true, false}
use Rattle.lot_types.specs.declared.key.Key.{Key}
use Rattle.lot_prop.specs.Found.{IsCount}
use Rattle.lot_prop.proofs.Founds.{held_before, held_last, held_on, is_between}
use Rattle.lot_prop.proofs.found.Found.of.Goals as goal

pub returns-then-count-eq0 : goal.returns-then-count-eq0
returns-then-count-eq0 g c =
    held_before c.args.keys.now c.args.t c.items-items.ensures.timeline.some
    (subst (λ (n : ℕ). IsCount c.args.keys.now c.args.t n) c.if-count-eq0.true c.count_until-count.ensures)

pub returns-then-count-items : goal.returns-then-count-items
returns-then-count-items g c =
    let some = c.if-count-eq0.false in
    let after : c.count_until-count.result ≡ (c.count_until-count.result - 1) + 1 = omega arith in
    let all : c.count_until-count.result ≡ length c.args.keys.now = c.if-count-items.true ∙ ap length c.items-items.ensures.value in
    held_last c.args.keys.now c.args.t (c.count_until-count.result - 1)
    (subst (λ (n : ℕ). IsCount c.args.keys.now c.args.t n) after c.count_until-count.ensures) (omega arith)

pub returns-then-items-k : goal.returns-then-items-k
returns-then-items-k g c =
    let some = c.if-count-eq0.false in
    let after : c.count_until-count.result ≡ (c.count_until-count.result - 1) + 1 = omega arith in
    let within = c.count_until-count.ensures.within in
    let long = ap length c.items-items.ensures.value in
    let not_all = c.if-count-items.false in
    held_on c.args.keys.now c.args.t (c.count_until-count.result - 1)
    (subst (λ (n : ℕ). IsCount c.args.keys.now c.args.t n) after c.count_until-count.ensures)
    (omega arith) c.index-items-k.result
    (subst (λ (keys : List (Key g.row.T.Denot)). (slice_index_or keys (c.count_until-count.result - 1) c.index-items-k.result).hold ≡ true) c.items-items.ensures.value c.if-items-k.true)

pub returns : goal.returns
returns g c =
    let some = c.if-count-eq0.false in
    let after : c.count_until-count.result ≡ (c.count_until-count.result - 1) + 1 = omega arith in
    let within = c.count_until-count.ensures.within in
    let long = ap length c.items-items.ensures.value in
    let not_all = c.if-count-items.false in
    is_between c.args.keys.now c.args.t (c.count_until-count.result - 1)
    (subst (λ (n : ℕ). IsCount c.args.keys.now c.args.t n) after c.count_until-count.ensures)
    (omega arith) c.index-items-k.result
    (subst (λ (keys : List (Key g.row.T.Denot)). (slice_index_or keys (c.count_until-count.result - 1) c.index-items-k.result).hold ≡ false) c.items-items.ensures.value c.if-items-k.false)
