-- The value of a slot is that of its pair.
use Rattle.std.proofs.Common.{◌≡◌, ℕ, ◌+◌, suc, add-one, Bool, true, false, cond, List, [], ◌∷◌, fold, Option, Some, None, refl, ap, sym, subst, ◌∙◌}
use Rattle.std.specs.Option.{is_some, unwrap_or}
use Rattle.std.specs.List.{All, slice_get}
use Rattle.std.specs.Str.{bytes_eq}
use Rattle.std.proofs.lemmas.List.Elements.{All-get_or}
use Rattle.std.proofs.lemmas.Option.{slice_get_within, unwrap_or-slice_get}
use Rattle.lot_json.specs.declared.tree.json.Json.{Json}
use Rattle.lot_json.specs.Lookup.{is_null, unless_null, last_value, member}
use Rattle.lot_read.specs.Findings.{Pairs, ◌>>=◌}
use Rattle.lot_read.specs.SlotNames.{NamedPair, IsSlotOf, slot_value, value_at, later_or_here, last_pair}

abbrev pub Pair : Type 0
Pair = List ℕ × Json

abbrev step : List ℕ → Option Json → Pair → Option Json
step name found pair = cond (bytes_eq pair.0 name) (Some pair.1) found

-- Where no pair has the name, what was found before stays.
none_by : (last : Option ℕ) (b : Bool) (x : Json) (found : Option Json) → later_or_here last b ≡ None → (last ≡ None) × (cond b (Some x) found ≡ found)
none_by (Some i) b x found e = absurd (cc)
none_by None true x found e = absurd (cc)
none_by None false x found e = (refl, refl)

none_found : (name : List ℕ) (found : Option Json) (ps : Pairs) → last_pair name ps ≡ None → fold (step name) found ps ≡ found
none_found name found [] e = refl
none_found name found (p ∷ ps) e =
    let h = none_by (last_pair name ps) (bytes_eq p.0 name) p.1 found e in
    none_found name (step name found p) ps h.0 ∙ h.1

-- Where the last pair of the name has the index i, its value is what is found.
found_by : (name : List ℕ) (found : Option Json) (p : Pair) (ps : Pairs) (last : Option ℕ) (b : Bool) (i : ℕ)
    → last_pair name ps ≡ last → bytes_eq p.0 name ≡ b → later_or_here last b ≡ Some i
    → ((k : ℕ) → last ≡ Some k → fold (step name) (step name found p) ps ≡ value_at ps k)
    → fold (step name) (step name found p) ps ≡ value_at (p ∷ ps) i
found_by name found p ps (Some k) b i is here e later =
    let next : i ≡ suc k = let h : k + 1 ≡ i = cc in sym h ∙ add-one k in
    later k refl ∙ ap (λ (n : ℕ). value_at (p ∷ ps) n) (sym next)
found_by name found p ps None true i is here e later =
    let first : i ≡ 0 = let h : 0 ≡ i = cc in sym h in
    none_found name (step name found p) ps is
    ∙ ap (λ (b : Bool). cond b (Some p.1) found) here
    ∙ ap (λ (n : ℕ). value_at (p ∷ ps) n) (sym first)
found_by name found p ps None false i is here e later = absurd (cc)

found_at : (name : List ℕ) (found : Option Json) (ps : Pairs) (i : ℕ) → last_pair name ps ≡ Some i → fold (step name) found ps ≡ value_at ps i
found_at name found [] i e = absurd (cc)
found_at name found (p ∷ ps) i e =
    found_by name found p ps (last_pair name ps) (bytes_eq p.0 name) i refl refl e (found_at name (step name found p) ps)

kept_by : (b : Bool) (x : Json) → is_some (cond b None (Some x)) ≡ true → cond b None (Some x) ≡ Some x
kept_by true x e = absurd (cc)
kept_by false x e = refl

there_is : (o : Option Json) → is_some (unless_null o) ≡ true → unless_null o ≡ o
there_is None e = absurd (cc)
there_is (Some x) e = kept_by (is_null x) x e

-- The value of a slot is that of its pair.
pub pair_value : (ps : Pairs) (slot : NamedPair) → IsSlotOf ps slot → member slot.name ps ≡ value_at ps slot.pair
unfolding member
pair_value ps slot h = there_is (last_value slot.name ps) h.there ∙ found_at slot.name None ps slot.pair h.last

-- Each slot of a list is one of the members.
pub slot_at : (ps : Pairs) (slots : List NamedPair) (k : ℕ) (slot : NamedPair) → All (IsSlotOf ps) slots → slice_get slots k ≡ Some slot → IsSlotOf ps slot
slot_at ps slots k slot h e =
    subst (λ (s : NamedPair). IsSlotOf ps s)
    (sym (unwrap_or-slice_get slots k slot) ∙ ap (λ (o : Option NamedPair). unwrap_or o slot) e)
    (All-get_or (IsSlotOf ps) slots k slot (slice_get_within slots k slot e) h)

pub value_found : (ps : Pairs) (slots : List NamedPair) (n : ℕ) (slot : NamedPair) → All (IsSlotOf ps) slots → slice_get slots n ≡ Some slot
    → slot_value ps slots n ≡ value_at ps slot.pair
value_found ps slots n slot h e =
    ap (λ (o : Option NamedPair). ◌>>=◌ {A = NamedPair} {B = Json} o (λ s. member s.name ps)) e
    ∙ pair_value ps slot (slot_at ps slots n slot h e)
