-- Where the text begins.
use Rattle.std.proofs.Common.{◌≡◌, ◌↔◌, ℕ, List, [], ◌∷◌, ◌++◌, reverse, refl, sym, ◌∙◌, ap, subst, inl, inr}
use Rattle.lot_json.specs.declared.tree.json.Json.{Json}
use Rattle.lot_json.specs.Pending as pending
use Rattle.lot_json.specs.declared.machine.container.Container.{Container}
use Rattle.lot_json.specs.Grammar.{JsonText}
use Rattle.lot_json.specs.Residual.{RestOfText}

-- Where nothing was read, what is left is a text.
text-ahead : (r : List ℕ) (x : Json) → JsonText r x → RestOfText pending.Start [] r x
text-ahead r x (inl h) = (h.element, h.spaces, x, inl h.is_element, h.spelled, (h.are_spaces, refl))
text-ahead r x (inr (t, e, h)) = (239 ∷ 187 ∷ 191 ∷ h.element, h.spaces, x, inr (h.element, refl, h.is_element), e ∙ ap (λ (z : List ℕ). 239 ∷ 187 ∷ 191 ∷ z) h.spelled, (h.are_spaces, refl))

text-back : (r : List ℕ) (x : Json) → RestOfText pending.Start [] r x → JsonText r x
text-back r x (b, s, y, inl h, e, (spaces, same)) = subst (λ (z : Json). JsonText r z) (sym same) (inl (record { element = b; spaces = s; is_element = h; are_spaces = spaces; spelled = e }))
text-back r x (b, s, y, inr (t, k, h), e, (spaces, same)) = subst (λ (z : Json). JsonText r z) (sym same) (inr (t ++ s, e ∙ ap (λ (z : List ℕ). z ++ s) k, record { element = t; spaces = s; is_element = h; are_spaces = spaces; spelled = refl }))

pub begins_text : (items : List Container) → items ≡ [] → (r : List ℕ) (x : Json) → JsonText r x ↔ RestOfText pending.Start (reverse items) r x
begins_text items e r x = subst (λ (z : List Container). JsonText r x ↔ RestOfText pending.Start (reverse z) r x) (sym e) (text-ahead r x, text-back r x)
