-- Two ways to cut one list of bytes into a prefix and a rest.
use Rattle.std.proofs.Common.{◌≡◌, ℕ, ◌≤◌, ◌⊎◌, List, [], ◌∷◌, ◌++◌, ap, sym, ◌∙◌, append_assoc}
use Rattle.lot_json.proofs.Utf8.{heads}

-- the same cut of the prefixes in other words
pub along : {b d f g : List ℕ} (r q : List ℕ) → b ≡ f → d ≡ g → b ++ r ≡ d ++ q → f ++ r ≡ g ++ q
along r q e h s = sym (ap (λ (z : List ℕ). z ++ r) e) ∙ s ∙ ap (λ (z : List ℕ). z ++ q) h

-- prefixes of two parts
pub regroup : (f g r q s t : List ℕ) → (f ++ r) ++ s ≡ (g ++ q) ++ t → f ++ (r ++ s) ≡ g ++ (q ++ t)
regroup f g r q s t e = sym (append_assoc f r s) ∙ e ∙ append_assoc g q t

pub same_rest : (a r q : List ℕ) → a ++ r ≡ a ++ q → r ≡ q
same_rest [] r q e = e
same_rest (c ∷ a) r q e = same_rest a r q (heads e).1

-- The list begins with no byte that makes a number token longer. White space, a comma or a closing bracket may stand
-- first.
abbrev pub Stops : List ℕ → Type 0
Stops [] = Unit {0}
Stops (c ∷ cs) = (c ≤ 44) ⊎ ((c ≡ 93) ⊎ (c ≡ 125))
