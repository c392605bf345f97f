-- The text of a string that was read, and the characters that follow.
use Rattle.std.proofs.Common.{◌≡◌, ◌↔◌, ℕ, List, [], ◌++◌, ap, sym, subst, ◌∙◌, refl, append_assoc, append-nil}
use Rattle.lot_json.specs.Characters.{Characters}

-- after the text, what R says
abbrev pub TextThen : (List ℕ → List ℕ → Type 0) → List ℕ → List ℕ → List ℕ → Type 0
TextThen R text t s = (x : List ℕ) × R t x × (s ≡ text ++ x)

pub rest_continues : (R S : List ℕ → List ℕ → Type 0) (text : List ℕ) → ((t x : List ℕ) → R t x ↔ S t x) → (t s : List ℕ) → TextThen R text t s ↔ TextThen S text t s
rest_continues R S text e t s = (λ h. (h.0, (e t h.0).0 h.1, h.2), λ h. (h.0, (e t h.0).1 h.1, h.2))

-- after the bytes, characters
abbrev pub CharactersAfter : List ℕ → List ℕ → List ℕ → Type 0
CharactersAfter bytes t x = (y : List ℕ) × Characters t y × (x ≡ bytes ++ y)

pub rest_with : (R : List ℕ → List ℕ → Type 0) (text longer bytes : List ℕ) → longer ≡ text ++ bytes → ((t x : List ℕ) → R t x ↔ CharactersAfter bytes t x) → (t s : List ℕ) → TextThen R text t s ↔ TextThen Characters longer t s
rest_with R text longer bytes l e t s = (
  (λ h. let k = (e t h.0).0 h.1 in
      (k.0, k.1, h.2 ∙ ap (λ (z : List ℕ). text ++ z) k.2 ∙ sym (append_assoc text bytes k.0) ∙ ap (λ (z : List ℕ). z ++ k.0) (sym l))),
  λ h. (bytes ++ h.0, (e t (bytes ++ h.0)).1 (h.0, h.1, refl), h.2 ∙ ap (λ (z : List ℕ). z ++ h.0) l ∙ append_assoc text bytes h.0),
)

pub rest_ends : (R : List ℕ → List ℕ → Type 0) (text : List ℕ) → ((t x : List ℕ) → R t x ↔ ((t ≡ []) × (x ≡ []))) → (t s : List ℕ) → TextThen R text t s ↔ ((t ≡ []) × (s ≡ text))
rest_ends R text e t s = (
  (λ h. let k = (e t h.0).0 h.1 in (k.0, h.2 ∙ ap (λ (z : List ℕ). text ++ z) k.1 ∙ append-nil text)),
  λ h. ([], (e t []).1 (h.0, refl), h.1 ∙ sym (append-nil text)),
)

pub rest_of_new : (text : List ℕ) → text ≡ [] → (t s : List ℕ) → Characters t s ↔ TextThen Characters text t s
rest_of_new text e t s = (
  (λ h. (s, h, ap (λ (z : List ℕ). z ++ s) (sym e))),
  λ h. subst (λ (z : List ℕ). Characters t z) (sym (h.2 ∙ ap (λ (z : List ℕ). z ++ h.0) e)) h.1,
)
