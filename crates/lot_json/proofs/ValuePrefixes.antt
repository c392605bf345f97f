-- What the parts of a JSON text begin with.
use Rattle.std.proofs.Common.{◌≡◌, ℕ, ◌≤◌, ◌<◌, ◌⊎◌, inl, inr, Bool, true, false, List, [], ◌∷◌, ◌++◌, ap, sym, subst, ◌∙◌, refl, arith, append_assoc, if◌then◌else◌}
use Rattle.lot_json.specs.declared.tree.number.Number.{Number}
use Rattle.lot_json.specs.declared.tree.json.Json.{Json}
use Rattle.lot_json.specs.NumberToken.{IsNumberToken, IsWholePart}
use Rattle.lot_json.specs.Grammar.{IsWhiteSpace, AreWhiteSpace, Value, null_value, true_value, false_value, number_value, text_value, array_value, object_value, Element, element_space, element_value, MoreItems, more_items_space, more_items_close, more_items_next, MoreMembers, more_members_space, more_members_close, more_members_next}
use Rattle.lot_json.proofs.Utf8.{heads}
use Rattle.lot_json.proofs.Prefixes.{along, Stops}

pub small : {c : ℕ} → IsWhiteSpace c → c ≤ 32
small s = omega (arith, s)

-- ---- the first byte of a number token

record First (f : List ℕ) (low high : ℕ) : Type 0 where
  pub byte : ℕ
  pub rest : List ℕ
  pub spelled : f ≡ byte ∷ rest
  pub above : low ≤ byte
  pub below : byte ≤ high

whole_first : (w t : List ℕ) → IsWholePart w → First (w ++ t) 45 57
whole_first [] t h = absurd h
whole_first (c ∷ []) t h = record { byte = c; rest = t; spelled = refl; above = omega (arith, h.0); below = h.1 }
whole_first (c ∷ d ∷ w) t h = record { byte = c; rest = d ∷ (w ++ t); spelled = refl; above = omega (arith, h.0); below = h.1 }

signed_first : (m : Bool) (f w t : List ℕ) → IsWholePart w → f ≡ (if m then 45 ∷ [] else []) ++ (w ++ t) → First f 45 57
signed_first true f w t h e = record { byte = 45; rest = w ++ t; spelled = e; above = omega arith; below = omega arith }
signed_first false f w t h e =
    let a = whole_first w t h in
    record { byte = a.byte; rest = a.rest; spelled = e ∙ a.spelled; above = a.above; below = a.below }

number_first : {f : List ℕ} {m : Number} → IsNumberToken f m → First f 45 57
number_first {f} t =
    signed_first t.minus f t.whole (t.fraction ++ t.exponent) t.is_whole
    (t.spelled ∙ ap (λ (z : List ℕ). z ++ t.whole ++ t.fraction ++ t.exponent) t.is_sign ∙ simp append_assoc)

-- ---- the first byte of a value

-- Its bounds. Those of two kinds of value are apart.
abbrev pub low : {n : ℕ} {b : List ℕ} {x : Json} → Value n b x → ℕ
low (null_value e h) = 110
low (true_value e h) = 116
low (false_value e h) = 102
low (number_value m t h) = 45
low (text_value r s c e h) = 34
low (array_value m r xs i d e h) = 91
low (object_value m r ps i d e h) = 123

abbrev pub high : {n : ℕ} {b : List ℕ} {x : Json} → Value n b x → ℕ
high (null_value e h) = 110
high (true_value e h) = 116
high (false_value e h) = 102
high (number_value m t h) = 57
high (text_value r s c e h) = 34
high (array_value m r xs i d e h) = 91
high (object_value m r ps i d e h) = 123

value_first : {n : ℕ} {b : List ℕ} {x : Json} (v : Value n b x) → First b (low v) (high v)
value_first (null_value e h) = record { byte = 110; rest = 117 ∷ 108 ∷ 108 ∷ []; spelled = e; above = omega arith; below = omega arith }
value_first (true_value e h) = record { byte = 116; rest = 114 ∷ 117 ∷ 101 ∷ []; spelled = e; above = omega arith; below = omega arith }
value_first (false_value e h) = record { byte = 102; rest = 97 ∷ 108 ∷ 115 ∷ 101 ∷ []; spelled = e; above = omega arith; below = omega arith }
value_first (number_value m t h) = number_first t
value_first (text_value r s c e h) = record { byte = 34; rest = r; spelled = e; above = omega arith; below = omega arith }
value_first (array_value m r xs i d e h) = record { byte = 91; rest = r; spelled = e; above = omega arith; below = omega arith }
value_first (object_value m r ps i d e h) = record { byte = 123; rest = r; spelled = e; above = omega arith; below = omega arith }

pub meets : {n m : ℕ} {f g : List ℕ} {x y : Json} (r q : List ℕ) (v : Value n f x) (w : Value m g y) → f ++ r ≡ g ++ q → (low v ≤ high w) × (low w ≤ high v)
meets r q v w e =
    let a = value_first v in
    let b = value_first w in
    let same : a.byte ≡ b.byte = (heads (along r q a.spelled b.spelled e)).0 in
    (omega (arith, same, a.above, b.below), omega (arith, same, b.above, a.below))

-- No value begins with white space, a closing bracket or a byte order mark.
bounds : {n : ℕ} {b : List ℕ} {x : Json} (v : Value n b x) → (34 ≤ low v) × (high v ≤ 123) × ((high v < 93) ⊎ (93 < low v))
bounds (null_value e h) = (omega arith, omega arith, inr (omega arith))
bounds (true_value e h) = (omega arith, omega arith, inr (omega arith))
bounds (false_value e h) = (omega arith, omega arith, inr (omega arith))
bounds (number_value m t h) = (omega arith, omega arith, inl (omega arith))
bounds (text_value r s c e h) = (omega arith, omega arith, inl (omega arith))
bounds (array_value m r xs i d e h) = (omega arith, omega arith, inl (omega arith))
bounds (object_value m r ps i d e h) = (omega arith, omega arith, inr (omega arith))

value_byte : {n : ℕ} {b : List ℕ} {x : Json} (c : ℕ) (r t : List ℕ) → Value n b x → b ++ r ≡ c ∷ t → (34 ≤ c) × (c ≤ 123) × ((c < 93) ⊎ (93 < c))
value_byte c r t v e =
    let a = value_first v in
    let k = bounds v in
    let same : a.byte ≡ c = (heads (sym (ap (λ (z : List ℕ). z ++ r) a.spelled) ∙ e)).0 in
    (omega (arith, same, a.above, k.0), omega (arith, same, a.below, k.1), by c a.byte (low v) (high v) same a.above a.below k.2)
  where
    by : (c d l h : ℕ) → d ≡ c → l ≤ d → d ≤ h → (h < 93) ⊎ (93 < l) → (c < 93) ⊎ (93 < c)
    by c d l h e a b (inl k) = inl (omega arith)
    by c d l h e a b (inr k) = inr (omega arith)

pub not_space : {n : ℕ} {b : List ℕ} {x : Json} (c : ℕ) (r t : List ℕ) → IsWhiteSpace c → Value n b x → b ++ r ≡ c ∷ t → ⊥
not_space c r t s v e = omega (arith, small s, (value_byte c r t v e).0)

pub not_close : {n : ℕ} {b : List ℕ} {x : Json} (r t : List ℕ) → Value n b x → b ++ r ≡ 93 ∷ t → ⊥
not_close r t v e = omega (arith, (value_byte 93 r t v e).2)

pub not_mark : {n : ℕ} {b : List ℕ} {x : Json} (r t : List ℕ) → Element n b x → b ++ r ≡ 239 ∷ t → ⊥
not_mark r t (element_space c f s i e) h = omega (arith, small s, (heads (sym (ap (λ (z : List ℕ). z ++ r) e) ∙ h)).0)
not_mark r t (element_value v) h = omega (arith, (value_byte 239 r t v h).1)

-- ---- what follows a value

pub items_stop : {n : ℕ} {b : List ℕ} {xs : List Json} (r : List ℕ) → MoreItems n b xs → Stops (b ++ r)
items_stop r (more_items_space c f s i e) = subst (λ (z : List ℕ). Stops (z ++ r)) (sym e) (inl (omega (arith, small s)))
items_stop r (more_items_close e h) = subst (λ (z : List ℕ). Stops (z ++ r)) (sym e) (inr (inl refl))
items_stop r (more_items_next f g y ys v i e h) = subst (λ (z : List ℕ). Stops (z ++ r)) (sym e) (inl (omega arith))

pub members_stop : {n : ℕ} {b : List ℕ} {ps : List (List ℕ × Json)} (r : List ℕ) → MoreMembers n b ps → Stops (b ++ r)
members_stop r (more_members_space c f s i e) = subst (λ (z : List ℕ). Stops (z ++ r)) (sym e) (inl (omega (arith, small s)))
members_stop r (more_members_close e h) = subst (λ (z : List ℕ). Stops (z ++ r)) (sym e) (inr (inr refl))
members_stop r (more_members_next f i e) = subst (λ (z : List ℕ). Stops (z ++ r)) (sym e) (inl (omega arith))

pub spaces_stop : (b : List ℕ) → AreWhiteSpace b → Stops b
spaces_stop [] h = tt
spaces_stop (c ∷ b) h = inl (omega (arith, small h.0))
