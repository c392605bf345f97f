-- Runs of is_unescaped characters.
use Rattle.std.proofs.Common.{◌≡◌, ◌↔◌, ℕ, Bool, true, false, ◌&&◌, List, [], ◌∷◌, ◌++◌, ◌⊎◌, inl, inr, ⊎_elim, ap, sym, subst, ◌∙◌, refl, append_assoc, arith}
use Rattle.std.specs.Char.{IsScalar, encode_utf8}
use Rattle.std.specs.Str.{IsUtf8, all_scalars, encode_utf8_all}
use Rattle.lot_json.specs.declared.tokens.character.Character.{Character}
use Rattle.lot_json.specs.declared.tokens.character.Character.TheVariants.{Nothing}
use Rattle.lot_json.specs.declared.tokens.text_token.TextToken.{TextToken}
use Rattle.lot_json.specs.Characters.{Characters, close, more, unescaped, IsUnescaped}
use Rattle.lot_json.specs.Characters.{FollowedBy}
use Rattle.lot_json.specs.Unescaped.{AreUnescapedBytes}
use Rattle.lot_json.specs.TextRest.{TextRest, CanEndText, TakesRun}
use Rattle.lot_json.proofs.Utf8.{heads, Shape, one, two, three, four, shape}
use Rattle.lot_json.proofs.SameCharacters.{same_spelling, not_quote}
use Rattle.lot_json.proofs.NeedsMore.{text_needs}
use Rattle.lot_json.proofs.Texts.{CharactersAfter, rest_with}
use Rattle.lot_json.proofs.Residual.{cut}

pub unescaped_append : (xs ys : List ℕ) → AreUnescapedBytes xs → AreUnescapedBytes ys → AreUnescapedBytes (xs ++ ys)
unescaped_append [] ys h k = k
unescaped_append (x ∷ xs) ys h k = (h.0, unescaped_append xs ys h.1 k)

pub unescaped_start : (xs ys : List ℕ) → AreUnescapedBytes (xs ++ ys) → AreUnescapedBytes xs
unescaped_start [] ys h = tt
unescaped_start (x ∷ xs) ys h = (h.0, unescaped_start xs ys h.1)

unescaped_rest : (xs ys : List ℕ) → AreUnescapedBytes (xs ++ ys) → AreUnescapedBytes ys
unescaped_rest [] ys h = h
unescaped_rest (x ∷ xs) ys h = unescaped_rest xs ys h.1

-- No string ends in unescaped bytes.
no_end : (b x : List ℕ) → Characters b x → AreUnescapedBytes b → ⊥
no_end b x (close e s) h = let k = subst AreUnescapedBytes e h in k.0.1 refl
no_end b x (more sp r y c is h split text) k = no_end r y h (unescaped_rest sp r (subst AreUnescapedBytes split k))

is_unescaped : (c : ℕ) (r : List ℕ) → IsScalar c → Shape c → AreUnescapedBytes (encode_utf8 c ++ r) → IsUnescaped c
is_unescaped c r s (one l e) h = let k = subst AreUnescapedBytes (ap (λ (z : List ℕ). z ++ r) e) h in (s, k.0.0, k.0.1, k.0.2)
is_unescaped c r s (two a b l u f k e) h = (s, omega arith, (λ z. omega (arith, z)), λ z. omega (arith, z))
is_unescaped c r s (three a b d l u f k m e) h = (s, omega arith, (λ z. omega (arith, z)), λ z. omega (arith, z))
is_unescaped c r s (four a b d g l u f k m n e) h = (s, omega arith, (λ z. omega (arith, z)), λ z. omega (arith, z))

-- One is_unescaped character, and those after it.
one_ahead : (c : ℕ) (t x : List ℕ) → IsUnescaped c → Characters (encode_utf8 c ++ t) x → FollowedBy c t x
one_ahead c t x is (close e s) = absurd (not_quote c t [] is e)
one_ahead c t x is (more sp r y d spells h split text) =
    let same = same_spelling t r (unescaped is refl) spells split in
    (y, subst (λ (z : List ℕ). Characters z y) (sym same.1) h, text ∙ ap (λ (z : ℕ). encode_utf8 z ++ y) (sym same.0))

one_back : (c : ℕ) (t x : List ℕ) → IsUnescaped c → FollowedBy c t x → Characters (encode_utf8 c ++ t) x
one_back c t x is h = more (encode_utf8 c) t h.0 c (unescaped is refl) h.1 refl h.2

both : (a b : Bool) → (a && b) ≡ true → (a ≡ true) × (b ≡ true)
both true b e = (refl, e)
both false b e = absurd cc

run : (cs : List ℕ) → all_scalars cs ≡ true → AreUnescapedBytes (encode_utf8_all cs) → (t x : List ℕ) → Characters (encode_utf8_all cs ++ t) x ↔ CharactersAfter (encode_utf8_all cs) t x
run [] s h t x = ((λ k. (x, k, refl)), λ k. subst (λ (z : List ℕ). Characters t z) (sym k.2) k.1)
run (c ∷ cs) s h t x =
    let e = encode_utf8 c in
    let f = encode_utf8_all cs in
    let q = both _ (all_scalars cs) s in
    let is = is_unescaped c f q.0 (shape c q.0) h in
    let on = run cs q.1 (unescaped_rest e f h) t in (
      (λ k. let p = one_ahead c (f ++ t) x is (subst (λ (z : List ℕ). Characters z x) (append_assoc e f t) k) in
          let w = (on p.0).0 p.1 in
          (w.0, w.1, p.2 ∙ ap (λ (z : List ℕ). e ++ z) w.2 ∙ sym (append_assoc e f w.0))),
      λ k. subst (λ (z : List ℕ). Characters z x) (sym (append_assoc e f t))
          (one_back c (f ++ t) x is (f ++ k.0, (on (f ++ k.0)).1 (k.0, k.1, refl), k.2 ∙ append_assoc e f k.0)),
    )

-- A run in UTF-8 and the characters after it.
utf8_run : (bytes : List ℕ) → IsUtf8 bytes → AreUnescapedBytes bytes → (t x : List ℕ) → Characters (bytes ++ t) x ↔ CharactersAfter bytes t x
utf8_run bytes u h = subst (λ (z : List ℕ). (t x : List ℕ) → Characters (z ++ t) x ↔ CharactersAfter z t x) u.1.1 (run u.0 u.1.0 (subst AreUnescapedBytes (sym u.1.1) h))

at_start : (text longer bytes : List ℕ) → longer ≡ text ++ bytes → IsUtf8 bytes → AreUnescapedBytes bytes → TakesRun bytes (record { text = text; character = Nothing }) (record { text = longer; character = Nothing })
unfolding TextRest
at_start text longer bytes e u h = record {
  same = rest_with (λ (t x : List ℕ). Characters (bytes ++ t) x) text longer bytes e (utf8_run bytes u h);
  whole = λ b v s is k. no_end b k.0 k.1 (unescaped_start b v (subst AreUnescapedBytes is h));
  can_end = λ _. (34 ∷ [], longer ++ [], ([], close refl refl, refl));
}

-- The token between characters takes a run.
pub takes_run : (p : Character) (text longer bytes : List ℕ) → p ≡ Nothing → longer ≡ text ++ bytes → IsUtf8 bytes → AreUnescapedBytes bytes → TakesRun bytes (record { text = text; character = p }) (record { text = longer; character = p })
takes_run p text longer bytes is e u h = subst (λ (z : Character). TakesRun bytes (record { text = text; character = z }) (record { text = longer; character = z })) (sym is) (at_start text longer bytes e u h)

none_of : (b v : List ℕ) → [] ≡ b ++ v → b ≡ []
none_of [] v e = refl
none_of (c ∷ b) v e = absurd cc

-- No bytes.
pub takes_nothing : (k : TextToken) → TakesRun [] k k
takes_nothing k = record {
  same = λ t s. ((λ h. h), λ h. h);
  whole = λ b v s e h. text_needs k s (subst (λ (z : List ℕ). TextRest k z s) (none_of b v e) h);
  can_end = λ h. h;
}

single : (c : ℕ) (b v : List ℕ) → c ∷ [] ≡ b ++ v → (b ≡ []) ⊎ (b ≡ c ∷ [])
single c [] v e = inl refl
single c (d ∷ []) v e = inr (ap (λ (z : ℕ). z ∷ []) (sym (heads e).0))
single c (d ∷ f ∷ b) v e = let h = (heads e).1 in absurd cc

-- One byte, after which the string continues.
pub takes_one : (c : ℕ) (old new : TextToken) → ((t s : List ℕ) → TextRest old (c ∷ t) s ↔ TextRest new t s) → CanEndText new → TakesRun (c ∷ []) old new
takes_one c old new same can = record {
  same = same;
  whole = λ b v s e h. ⊎_elim
      (λ none. text_needs old s (subst (λ (z : List ℕ). TextRest old z s) none h))
      (λ all. text_needs new s ((same [] s).0 (subst (λ (z : List ℕ). TextRest old z s) all h)))
      (single c b v e);
  can_end = λ _. can;
}

-- A run after another.
pub takes_both : (a b : List ℕ) (old mid new : TextToken) → TakesRun a old mid → TakesRun b mid new → TakesRun (a ++ b) old new
takes_both a b old mid new h k = record {
  same = λ t s. (
    (λ r. (k.same t s).0 ((h.same (b ++ t) s).0 (subst (λ (z : List ℕ). TextRest old z s) (append_assoc a b t) r))),
    λ r. subst (λ (z : List ℕ). TextRest old z s) (sym (append_assoc a b t)) ((h.same (b ++ t) s).1 ((k.same t s).1 r)),
  );
  whole = λ prefix v s e r. ⊎_elim
      (λ (q : (t : List ℕ) × (prefix ≡ a ++ t) × (b ≡ t ++ v)). k.whole q.0 v s q.2 ((h.same q.0 s).0 (subst (λ (z : List ℕ). TextRest old z s) q.1 r)))
      (λ (q : (w : List ℕ) × (a ≡ prefix ++ w)). h.whole prefix q.0 s q.1 r)
      (cut a b prefix v e);
  can_end = λ p. k.can_end (h.can_end p);
}
