use Rattle.std.proofs.Common.{ℕ, List, refl, arith}
use Rattle.lot_json.specs.declared.tokens.code_unit.DigitPlace.TheVariants.{First, Second, Third, Fourth}
use Rattle.lot_json.specs.CodeUnit.{Digits, AfterLow, digits_after}
use Rattle.lot_json.proofs.CharacterMoves.{same_leads, same_digits}
use Rattle.lot_json.proofs.CharacterEnds.{low_ends_second, low_ends_third, low_ends_fourth}
use Rattle.lot_json.proofs.tokens.high_surrogate.HighSurrogate.with_low_digits.Goals as goal

pub returns-in-13 : goal.returns-in-13
returns-in-13 c =
    let h = c.args.self.unit in
    (same_digits c.args.place First 3 c.args.value (λ (x : List ℕ) (u : ℕ) (r : List ℕ). AfterLow h u r x) c.in-First.is refl, low_ends_second h c.args.value (omega arith))

pub returns-in-220-to-223 : goal.returns-in-220-to-223
returns-in-220-to-223 c =
    let h = c.args.self.unit in
    (same_digits c.args.place Second 2 c.args.value (λ (x : List ℕ) (u : ℕ) (r : List ℕ). AfterLow h u r x) c.in-Second.is refl, low_ends_third h c.args.value (omega arith))

pub returns-in-3520-to-3583 : goal.returns-in-3520-to-3583
returns-in-3520-to-3583 c =
    let h = c.args.self.unit in
    (same_digits c.args.place Third 1 c.args.value (λ (x : List ℕ) (u : ℕ) (r : List ℕ). AfterLow h u r x) c.in-Third.is refl, low_ends_fourth h c.args.value (omega arith))

pub returns-in-Fourth : goal.returns-in-Fourth
returns-in-Fourth c =
    let h = c.args.self.unit in
    same_leads
    (λ (t x : List ℕ). Digits (digits_after c.args.place) c.args.value t (λ (u : ℕ) (r : List ℕ). AfterLow h u r x))
    (λ (t x : List ℕ). AfterLow h c.args.value t x) c.end_low.result
    (same_digits c.args.place Fourth 0 c.args.value (λ (x : List ℕ) (u : ℕ) (r : List ℕ). AfterLow h u r x) c.in-Fourth.is refl) c.end_low.ensures
