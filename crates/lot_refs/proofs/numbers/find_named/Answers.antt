use Rattle.std.proofs.Common.{rules, ℤ, w64, FitsSigned, ap, ◌∙◌, sym, Option}
use Rattle.std.proofs.lemmas.Int.{to_z-of_z}
use Rattle.std.specs.BTreeMap.{get}
use Rattle.std.specs.Option.{option_and_then}
use Rattle.std.specs.Ordering.{int_cmp}
use Rattle.lot_refs.proofs.numbers.find_named.Goals as goal

pub returns-in-Some : goal.returns-in-Some
returns-in-Some c =
    let fits : FitsSigned w64 c.get.result = search rules in
    c.find.ensures
    ∙ ap (λ (z : ℤ). get int_cmp c.args.index.now z) (to_z-of_z w64 c.get.result fits ∙ c.get.ensures.value)
    ∙ ap (λ (p : Option ℤ). option_and_then (λ n. get int_cmp c.args.index.now n) p) (sym c.in-Some.is)
