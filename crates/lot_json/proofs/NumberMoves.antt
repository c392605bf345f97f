-- What remains to be read of a number token, in other words; that there always is such a rest; and the room it needs.
use Rattle.std.proofs.Common.{◌≡◌, ◌↔◌, ℕ, ℤ, pos, ◌+◌, ◌≤◌, ◌⊎◌, inr, Bool, true, false, List, [], ◌∷◌, refl, sym, subst, arith}
use Rattle.lot_json.specs.declared.tree.number.Number.{Number}
use Rattle.lot_json.specs.declared.tokens.number_token.NumberToken.{NumberToken}
use Rattle.lot_json.specs.declared.tokens.number_token.NumberPlace.{NumberPlace}
use Rattle.lot_json.specs.declared.tokens.number_token.NumberPlace.TheVariants.{Start, Zero, Whole, Point, Fraction, Exponent, Sign, Power}
use Rattle.lot_json.specs.NumberToken.{IsExponent}
use Rattle.lot_json.specs.NumberRest.{NumberRest, RestAt, CanEndNumber, HasRoom, completed_number, signed_power}
use Rattle.lot_json.specs.NumberSteps.{ContinuesFrom, Takes}

pub heads : {c d : ℕ} {r s : List ℕ} → c ∷ r ≡ d ∷ s → (c ≡ d) × (r ≡ s)
heads e = (cc, cc)

-- ---- the same rest in other words

pub steps_along : (P Q : List ℕ → Number → Type 0) (c : ℕ) (s s' : NumberToken) → ((t : List ℕ) (m : Number) → P (c ∷ t) m ↔ Q (c ∷ t) m)
    → ContinuesFrom P c s s' → ContinuesFrom Q c s s'
steps_along P Q c s s' same h = record {
  continues = λ t m. (λ q. (h.continues t m).0 ((same t m).1 q), λ r. (same t m).0 ((h.continues t m).1 r));
  byte = h.byte;
  can_end = h.can_end;
  room = h.room;
}

pub along : (b : Bool) (P Q : List ℕ → Number → Type 0) (c : ℕ) (s s' : NumberToken) → ((t : List ℕ) (m : Number) → P (c ∷ t) m ↔ Q (c ∷ t) m)
    → Takes b P c s s' → Takes b Q c s s'
along true P Q c s s' same h = steps_along P Q c s s' same h
along false P Q c s s' same h = record { rejects = λ t m q. h.rejects t m ((same t m).1 q); same = h.same }

pub at_place : (p : NumberPlace) (s : NumberToken) → s.place ≡ p → (t : List ℕ) (m : Number) → RestAt p s t m ↔ NumberRest s t m
unfolding NumberRest
at_place p s e t m = (λ h. subst (λ (q : NumberPlace). RestAt q s t m) (sym e) h, λ h. subst (λ (q : NumberPlace). RestAt q s t m) e h)

-- ---- each token can be ended

end_at : (p : NumberPlace) (s : NumberToken) → (t : List ℕ) × (m : Number) × RestAt p s t m
end_at Start s = (48 ∷ [], completed_number s (48 ∷ []) [] (pos 0), (48 ∷ [], [], [], [], pos 0, (omega arith, omega arith), refl, refl, refl, refl))
end_at Zero s = ([], completed_number s [] [] (pos 0), ([], [], [], [], pos 0, refl, refl, refl, refl, refl))
end_at Whole s = ([], completed_number s [] [] (pos 0), ([], [], [], [], pos 0, tt, refl, refl, refl, refl))
end_at Point s = (48 ∷ [], completed_number s [] (48 ∷ []) (pos 0), (48 ∷ [], [], pos 0, ((omega arith, omega arith), tt), refl, refl, refl))
end_at Fraction s = ([], completed_number s [] [] (pos 0), ([], [], pos 0, tt, refl, refl, refl))
end_at Exponent s = (48 ∷ [], completed_number s [] [] (pos 0), (pos 0, inr (inr (((omega arith, omega arith), tt), refl)), refl))
end_at (Sign minus) s = (48 ∷ [], completed_number s [] [] (signed_power minus 0), (((omega arith, omega arith), tt), refl))
end_at (Power minus n) s = ([], completed_number s [] [] (signed_power minus n), (tt, refl))

pub can_end : (s : NumberToken) → CanEndNumber s
unfolding NumberRest
can_end s = end_at s.place s

-- ---- the first byte of the rest

pub exponent_byte : (c : ℕ) (t x : List ℕ) (e : ℤ) → IsExponent x e → c ∷ t ≡ x → (c ≡ 101) ⊎ (c ≡ 69)
exponent_byte c t [] e h is = absurd (cc)
exponent_byte c t (d ∷ x) e h is = subst (λ (z : ℕ). (z ≡ 101) ⊎ (z ≡ 69)) (sym (heads is).0) h.0

-- ---- room

pub HasRoom-le : (n k : ℕ) (s : NumberToken) → n ≤ k → HasRoom n s → HasRoom k s
unfolding HasRoom
HasRoom-le n k s le h = omega (arith, h)

-- Whether the byte was taken or not, one place more is enough.
pub room_after : (b : Bool) (P : List ℕ → Number → Type 0) (c : ℕ) (s s' : NumberToken) → Takes b P c s s'
    → (n : ℕ) → HasRoom n s → HasRoom (n + 1) s'
room_after true P c s s' h n room = h.room n room
room_after false P c s s' h n room = subst (HasRoom (n + 1)) (sym h.same) (HasRoom-le n (n + 1) s (omega arith) room)
