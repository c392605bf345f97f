-- What keeps the order of identifiers opens them in order, and refers to what has ended.
use Rattle.std.proofs.Common.{◌≡◌, ℕ, suc, ◌+◌, ◌<◌, ◌≤◌, ◌⊎◌, List, [], ◌∷◌, ◌++◌, refl, sym, ◌∙◌, ap, subst, inl, inr, arith}
use Rattle.std.specs.List.{Contains}
use Rattle.std.proofs.lemmas.Bool.{cases_lt}
use Rattle.std.proofs.lemmas.List.Elements.{Contains-append_left, Contains-append_right, Contains-push}
use Rattle.lot_svg.specs.Items.{Item, plain, opens, ends, refers, opened_by}
use Rattle.lot_svg.specs.Identifiers.{opened_numbers, ended_numbers, numbers, IsOrdered}
use Rattle.lot_svg.proofs.Order.{IsOneOf, Follows}

-- Of the numbers below n + 1 the last one is n.
is_last_or_before : (m n : ℕ) → m < n + 1 → (m ≡ n) ⊎ (m < n)
is_last_or_before m n lt = elim (cases_lt m n) [
  | inl below ↦ inr below
  | inr above ↦ inl (omega (arith, lt, above))
]

counted : (low n : ℕ) (done : List ℕ) (list : List Item)
    → Follows low n done list → opened_numbers list ≡ numbers n (opened_by list)
counted low n done [] h = refl
counted low n done (plain b ∷ after) h =
    let e : 0 + opened_by after ≡ opened_by after = omega arith in
    counted low n done after h ∙ ap (numbers n) (sym e)
counted low n done (opens b m ∷ after) h =
    let e : 1 + opened_by after ≡ suc (opened_by after) = omega arith in
    ap (λ (k : ℕ). k ∷ opened_numbers after) h.0
    ∙ ap (λ (ks : List ℕ). n ∷ ks) (counted low (n + 1) done after h.1)
    ∙ ap (numbers n) (sym e)
counted low n done (ends b m ∷ after) h =
    let e : 0 + opened_by after ≡ opened_by after = omega arith in
    counted low n (m ∷ done) after h.2 ∙ ap (numbers n) (sym e)
counted low n done (refers b m ∷ after) h =
    let e : 0 + opened_by after ≡ opened_by after = omega arith in
    counted low n done after h.1 ∙ ap (numbers n) (sym e)

-- A definition ended in these items, or before them.
ended_at : (low n : ℕ) (done : List ℕ) (before after : List Item) (b : List ℕ) (m : ℕ)
    → Follows low n done (before ++ refers b m ∷ after) → IsOneOf m (ended_numbers before) ⊎ IsOneOf m done
ended_at low n done [] after b m h = inr h.0
ended_at low n done (plain c ∷ more) after b m h = ended_at low n done more after b m h
ended_at low n done (opens c k ∷ more) after b m h = ended_at low (n + 1) done more after b m h.1
ended_at low n done (ends c k ∷ more) after b m h =
    elim (ended_at low n (k ∷ done) more after b m h.2) [
      | inl x ↦ inl (inr x)
      | inr x ↦ elim x [ inl e ↦ inl (inl e) | inr y ↦ inr y ]
    ]
ended_at low n done (refers c k ∷ more) after b m h = ended_at low n done more after b m h.1

-- A definition that ends in these items opened in them, or before them.
opened_at : (low n : ℕ) (done : List ℕ) (before after : List Item) (b : List ℕ) (m : ℕ)
    → Follows low n done (before ++ ends b m ∷ after)
    → IsOneOf m (opened_numbers before) ⊎ ((low ≤ m) × (m < n))
opened_at low n done [] after b m h = inr (h.0, h.1)
opened_at low n done (plain c ∷ more) after b m h = opened_at low n done more after b m h
opened_at low n done (opens c k ∷ more) after b m h =
    elim (opened_at low (n + 1) done more after b m h.1) [
      | inl x ↦ inl (inr x)
      | inr x ↦ elim (is_last_or_before m n x.1) [
        | inl e ↦ inl (inl (e ∙ sym h.0))
        | inr y ↦ inr (x.0, y)
      ]
    ]
opened_at low n done (ends c k ∷ more) after b m h = opened_at low n (k ∷ done) more after b m h.2
opened_at low n done (refers c k ∷ more) after b m h = opened_at low n done more after b m h.1

contains : (m : ℕ) (list : List ℕ) → IsOneOf m list → Contains list m
contains m [] h = absurd h
contains m (n ∷ more) (inl e) =
    subst (λ (k : ℕ). Contains (k ∷ more) m) e (Contains-append_left (m ∷ []) more m (Contains-push [] m))
contains m (n ∷ more) (inr h) = Contains-append_right (n ∷ []) more m (contains m more h)

pub in_order : (n : ℕ) (list : List Item) → Follows n n [] list → IsOrdered n list
in_order n list h = record {
  opened = counted n n [] list h;
  ended = λ before after b m e. elim (opened_at n n [] before after b m (subst (Follows n n []) e h)) [
    | inl x ↦ contains m (opened_numbers before) x
    | inr x ↦ absurd (omega (arith, x.0, x.1))
  ];
  referred = λ before after b m e. elim (ended_at n n [] before after b m (subst (Follows n n []) e h)) [
    | inl x ↦ contains m (ended_numbers before) x
    | inr x ↦ absurd x
  ];
}
