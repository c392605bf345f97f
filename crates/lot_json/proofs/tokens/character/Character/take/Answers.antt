use Rattle.std.proofs.Common.{ℕ, List, ◌∷◌, sym, subst}
use Rattle.lot_json.specs.declared.tokens.character.Character.{Character}
use Rattle.lot_json.specs.Character.{CharacterRest, LeadsTo}
use Rattle.lot_json.proofs.tokens.character.Character.take.Goals as goal

pub returns-in-Unit : goal.returns-in-Unit
returns-in-Unit c = subst (λ (p : Character). LeadsTo (λ (t x : List ℕ). CharacterRest p (c.args.c ∷ t) x) c.take_digit.result) (sym c.in-Unit.is) c.take_digit.ensures

pub returns-in-High : goal.returns-in-High
returns-in-High c = subst (λ (p : Character). LeadsTo (λ (t x : List ℕ). CharacterRest p (c.args.c ∷ t) x) c.take_backslash.result) (sym c.in-High.is) c.take_backslash.ensures

pub returns-in-HighBackslash : goal.returns-in-HighBackslash
returns-in-HighBackslash c =
    subst (λ (p : Character). LeadsTo (λ (t x : List ℕ). CharacterRest p (c.args.c ∷ t) x) c.take_u.result) (sym c.in-HighBackslash.is) c.take_u.ensures

pub returns-in-Low : goal.returns-in-Low
returns-in-Low c = subst (λ (p : Character). LeadsTo (λ (t x : List ℕ). CharacterRest p (c.args.c ∷ t) x) c.take_low_digit.result) (sym c.in-Low.is) c.take_low_digit.ensures
