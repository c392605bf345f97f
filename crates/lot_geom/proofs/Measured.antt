-- The chords of a curve that are passed by a loop.
use Rattle.std.proofs.Common.{◌≡◌, ◌∙◌, ℕ, ◌+◌, ◌*◌, ◌<◌, ◌≤◌, ap, refl, subst, arith, inl, inr}
use Rattle.std.proofs.lemmas.Bool.{cases_lt}
use Rattle.lot_geom.specs.declared.cubic.Cubic.{Cubic}
use Rattle.lot_types.specs.declared.point.Point.{Point}
use Rattle.lot_geom.specs.Chords.{chord_end, length_of_chord, length_of_chords, max_chord_length}
use Rattle.lot_geom.proofs.Chords.{length_of_next}

-- The first k of n chords have this length, and the last of them ends at `at`.
pub record IsPassedUntil (c : Cubic) (n length : ℕ) (at : Point) (k : ℕ) : Type 0 where
  pub sum : length ≡ length_of_chords c n k
  pub small : length ≤ k * max_chord_length
  pub end : at ≡ chord_end c n k

pub none_passed : (c : Cubic) (n : ℕ) (at : Point) → at ≡ chord_end c n 0 → IsPassedUntil c n 0 at 0
unfolding length_of_chords
none_passed c n at start = record { sum = refl; small = omega arith; end = start }

pub one_passed : (c : Cubic) (n length x k : ℕ) (at end : Point) → IsPassedUntil c n length at k
    → x ≡ length_of_chord c n k → x ≤ max_chord_length → end ≡ chord_end c n (k + 1)
    → IsPassedUntil c n (length + x) end (k + 1)
one_passed c n length x k at end h long short there = record {
  sum = ap (λ (m : ℕ). m + x) h.sum ∙ ap (λ (m : ℕ). length_of_chords c n k + m) long ∙ length_of_next c n k;
  small = omega (arith, h.small, short);
  end = there;
}

-- None of the first k chords reaches the length x.
abbrev pub NoneReaches : Cubic → ℕ → ℕ → ℕ → Type 0
NoneReaches c n x k = (j : ℕ) → j < k → length_of_chords c n (j + 1) < x

pub none_reaches : (c : Cubic) (n x : ℕ) → NoneReaches c n x 0
none_reaches c n x j h = absurd (omega (arith, h))

pub one_more : (c : Cubic) (n x k before length : ℕ) → NoneReaches c n x k → before ≡ length_of_chords c n k
    → length ≡ length_of_chord c n k → before + length < x → NoneReaches c n x (k + 1)
one_more c n x k before length h sum long below j lt = elim (cases_lt j k) [
  | inl less ↦ h j less
  | inr more ↦
      let e : k ≡ j = omega (arith, lt, more) in
      subst (λ (i : ℕ). length_of_chords c n (i + 1) < x) e (omega (arith, below, sum, long, length_of_next c n k))
]

-- All chords have the whole length.
pub not_past_the_end : (c : Cubic) (n x : ℕ) → NoneReaches c (n + 1) x (n + 1) → x ≤ length_of_chords c (n + 1) (n + 1) → ⊥
not_past_the_end c n x h within = omega (arith, h n (omega arith), within)
