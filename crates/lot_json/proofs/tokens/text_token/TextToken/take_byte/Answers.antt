use Rattle.std.proofs.Common.{ℕ, List, [], ◌∷◌, ◌++◌, Some, refl, subst}
use Rattle.lot_json.specs.declared.tokens.character.Taken.{Taken}
use Rattle.lot_json.specs.declared.tokens.character.Taken.TheVariants.{Part, Whole, Quote}
use Rattle.std.specs.Char.{encode_utf8}
use Rattle.lot_json.specs.Characters.{close}
use Rattle.lot_json.specs.Character.{CharacterRest, LeadsTo}
use Rattle.lot_json.specs.TextRest.{TextRest}
use Rattle.lot_json.proofs.UnescapedRuns.{takes_one}
use Rattle.lot_json.proofs.Texts.{rest_continues, rest_with, rest_ends}
use Rattle.lot_json.proofs.tokens.text_token.TextToken.take_byte.Goals as goal

pub returns-in-Some-Part : goal.returns-in-Some-Part
unfolding TextRest
returns-in-Some-Part c =
    let k = c.args.self.now in
    let leads : LeadsTo (λ (t x : List ℕ). CharacterRest k.character (c.args.c ∷ t) x) (Some (Part c.in-Some-Part.character)) =
    subst (λ (z : Taken). LeadsTo (λ (t x : List ℕ). CharacterRest k.character (c.args.c ∷ t) x) (Some z)) c.in-Some-Part.field-0-is c.in-Some-Part.ensures in
    let e = leads.1 in (
      refl,
      takes_one c.args.c _ _
          (rest_continues (λ (t x : List ℕ). CharacterRest k.character (c.args.c ∷ t) x) (λ (t x : List ℕ). CharacterRest c.in-Some-Part.character t x) k.text leads.0)
          (e.0, k.text ++ e.1, (e.1, e.2, refl)),
    )

pub returns-in_ok-push-in-Some-Whole : goal.returns-in_ok-push-in-Some-Whole
unfolding TextRest
returns-in_ok-push-in-Some-Whole c =
    let k = c.args.self.now in
    let leads : LeadsTo (λ (t x : List ℕ). CharacterRest k.character (c.args.c ∷ t) x) (Some (Whole c.in-Some-Whole.character)) =
    subst (λ (z : Taken). LeadsTo (λ (t x : List ℕ). CharacterRest k.character (c.args.c ∷ t) x) (Some z)) c.in-Some-Whole.field-0-is c.in-Some-Whole.ensures in (
      refl,
      takes_one c.args.c _ _
          (rest_with (λ (t x : List ℕ). CharacterRest k.character (c.args.c ∷ t) x) k.text c.push.new.self (encode_utf8 c.in-Some-Whole.character) c.in_ok-push-in-Some-Whole.ensures.ok leads)
          (34 ∷ [], c.push.new.self ++ [], ([], close refl refl, refl)),
    )

pub returns-in-Some-Quote : goal.returns-in-Some-Quote
unfolding TextRest
returns-in-Some-Quote c =
    let k = c.args.self.now in
    let leads : LeadsTo (λ (t x : List ℕ). CharacterRest k.character (c.args.c ∷ t) x) (Some Quote) =
    subst (λ (z : Taken). LeadsTo (λ (t x : List ℕ). CharacterRest k.character (c.args.c ∷ t) x) (Some z)) c.in-Some-Quote.field-0-is c.in-Some-Quote.ensures in
    (refl, rest_ends (λ (t x : List ℕ). CharacterRest k.character (c.args.c ∷ t) x) k.text leads)

pub returns-in-None : goal.returns-in-None
unfolding TextRest
returns-in-None c = (refl, λ t s h. c.in-None.ensures t h.0 h.1)
