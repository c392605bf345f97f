-- The lengths of a dash pattern, one after the other.
use Rattle.std.proofs.Common.{◌≡◌, ◌∙◌, ℕ, ℤ, ◌+◌, ◌<◌, ◌≤◌, Bool, cond, true, false, List, [], ◌∷◌, ◌++◌, drop, length, get_or, map, filter, Option, Some, ap, sym, append_assoc, append-nil}
use Rattle.std.proofs.lemmas.List.{at_drop_more, at_drop_all}
use Rattle.lot_types.specs.declared.dash.Dash.{Dash}
use Rattle.lot_types.specs.declared.doc.Doc.{Doc}
use Rattle.lot_types.specs.Options.{all_present, put_before}
use Rattle.lot_paint.specs.Dashes.{is_length, length_value, lengths_value}

-- What is made, and then what is left, is the whole.
abbrev pub AreMade : Doc → ℤ → List Dash → List ℤ → ℕ → Type 0
AreMade d t dashes made i =
    (rest : List ℤ) → lengths_value d t (drop i dashes) ≡ Some rest → lengths_value d t dashes ≡ Some (made ++ rest)

with_first : (d : Doc) (t : ℤ) (dash : Dash) (more : List Dash) (x : ℤ) (rest : List ℤ) → is_length dash ≡ true
    → length_value d t dash ≡ Some x → lengths_value d t more ≡ Some rest → lengths_value d t (dash ∷ more) ≡ Some (x ∷ rest)
with_first d t dash more x rest is value h =
    let others = all_present (map (length_value d t) (filter is_length more)) in
    ap (λ (b : Bool). all_present (map (length_value d t) (cond b (dash ∷ filter is_length more) (filter is_length more)))) is
    ∙ ap (λ (v : Option ℤ). put_before v others) value
    ∙ ap (put_before (Some x)) h

without_first : (d : Doc) (t : ℤ) (dash : Dash) (more : List Dash) → is_length dash ≡ false
    → lengths_value d t (dash ∷ more) ≡ lengths_value d t more
without_first d t dash more is =
    ap (λ (b : Bool). all_present (map (length_value d t) (cond b (dash ∷ filter is_length more) (filter is_length more)))) is

pub one_more : (d : Doc) (t : ℤ) (dashes : List Dash) (made : List ℤ) (i : ℕ) (dash : Dash) (x : ℤ)
    → i < length dashes → dash ≡ get_or dashes i dash → is_length dash ≡ true → length_value d t dash ≡ Some x
    → AreMade d t dashes made i → AreMade d t dashes (made ++ x ∷ []) (i + 1)
one_more d t dashes made i dash x lt at is value h rest e =
    h (x ∷ rest) (
    at_drop_more (lengths_value d t) dashes i dash lt
    ∙ ap (λ (first : Dash). lengths_value d t (first ∷ drop (i + 1) dashes)) (sym at)
    ∙ with_first d t dash (drop (i + 1) dashes) x rest is value e)
    ∙ ap Some (sym (append_assoc made (x ∷ []) rest))

pub passed : (d : Doc) (t : ℤ) (dashes : List Dash) (made : List ℤ) (i : ℕ) (dash : Dash)
    → i < length dashes → dash ≡ get_or dashes i dash → is_length dash ≡ false
    → AreMade d t dashes made i → AreMade d t dashes made (i + 1)
passed d t dashes made i dash lt at is h rest e =
    h rest (
    at_drop_more (lengths_value d t) dashes i dash lt
    ∙ ap (λ (first : Dash). lengths_value d t (first ∷ drop (i + 1) dashes)) (sym at)
    ∙ without_first d t dash (drop (i + 1) dashes) is
    ∙ e)

pub all_made : (d : Doc) (t : ℤ) (dashes : List Dash) (made : List ℤ) (i : ℕ) → length dashes ≤ i
    → AreMade d t dashes made i → lengths_value d t dashes ≡ Some made
all_made d t dashes made i le h =
    h [] (at_drop_all (lengths_value d t) dashes i le) ∙ ap Some (append-nil made)

pub ruleset evaluating = (one_more, passed)
