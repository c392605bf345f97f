-- Which names are there: with one pair more, and by the table of members.
use Rattle.std.proofs.Common.{◌≡◌, ℕ, ◌+◌, add-one, length, Bool, true, false, not, ◌||◌, ◌&&◌, cond, List, [], ◌∷◌, ◌++◌, map, filter, fold, Option, Some, None, refl, ap, sym, ◌∙◌}
use Rattle.std.specs.Option.{is_some, unwrap_or}
use Rattle.std.specs.List.{All}
use Rattle.std.specs.Str.{bytes_eq}
use Rattle.std.proofs.lemmas.List.{map-append}
use Rattle.std.proofs.lemmas.List.Elements.{All-nil, All-cons}
use Rattle.std.proofs.lemmas.List.Sums.{fold-append}
use Rattle.indexmap.specs.IndexMap.{insert_entry}
use Rattle.lot_json.specs.declared.tree.json.Json.{Json}
use Rattle.lot_json.specs.Lookup.{is_null, unless_null, last_value, member}
use Rattle.lot_read.specs.declared.slot_names.LastPair.{LastPair}
use Rattle.lot_read.specs.SlotNames.{Names, NamedPair, IsSlotOf, first_come, all_names, is_there, among, later_or_here, last_pair, names_in}
use Rattle.lot_read.specs.Findings.{Pairs}
use Rattle.lot_read.specs.NameTable.{marked_last, marked_names}
use Rattle.lot_read.proofs.FirstCome.{SameBut, eq_self, equal_back, marked, put, first_come_more, first_come_apart, insert_marked, among_first_come, among_kept}

there_by : (x : Json) (b : Bool) → is_null x ≡ b → is_some (cond b None (Some x)) ≡ not b
there_by x true e = refl
there_by x false e = refl

pair_more : (ps : Pairs) (p : List ℕ × Json) (name : List ℕ) → last_value name (ps ++ p ∷ []) ≡ cond (bytes_eq p.0 name) (Some p.1) (last_value name ps)
pair_more ps p name = fold-append (λ (found : Option Json) (pair : List ℕ × Json). cond (bytes_eq pair.0 name) (Some pair.1) found) None ps (p ∷ [])

-- A name is there where the value of its last pair is.
there_more : (ps : Pairs) (p : List ℕ × Json) (name : List ℕ) (b : Bool) → bytes_eq p.0 name ≡ b → is_there (ps ++ p ∷ []) name ≡ cond b (not (is_null p.1)) (is_there ps name)
unfolding member
there_more ps p name true e =
    ap (λ (o : Option Json). is_some (unless_null o)) (pair_more ps p name)
    ∙ ap (λ (b : Bool). is_some (unless_null (cond b (Some p.1) (last_value name ps)))) e
    ∙ there_by p.1 (is_null p.1) refl
there_more ps p name false e =
    ap (λ (o : Option Json). is_some (unless_null o)) (pair_more ps p name)
    ∙ ap (λ (b : Bool). is_some (unless_null (cond b (Some p.1) (last_value name ps)))) e

all_names_more : (ps : Pairs) (p : List ℕ × Json) → all_names (ps ++ p ∷ []) ≡ put (all_names ps) p.0
all_names_more ps p = ap first_come (map-append (λ (q : List ℕ × Json). q.0) ps (p ∷ [])) ∙ first_come_more (map (λ q. q.0) ps) p.0

abbrev pub made_of : ℕ → Bool → LastPair
made_of index is_there = record { index = index; is_there = is_there }

both_by_case : (b : Bool) (n : ℕ) (now : Bool) (last : Option ℕ) (before : Bool)
    → made_of (unwrap_or (cond b (Some n) last) 0) (cond b now before) ≡ cond b (made_of n now) (made_of (unwrap_or last 0) before)
both_by_case true n now last before = refl
both_by_case false n now last before = refl

here_by : (b : Bool) → later_or_here None b ≡ cond b (Some 0) None
here_by true = refl
here_by false = refl

later_by : (b here : Bool) (n : ℕ) (before : Option ℕ) → later_or_here (cond b (Some n) before) here ≡ cond b (Some (n + 1)) (later_or_here before here)
later_by true here n before = refl
later_by false here n before = refl

-- The last pair of a name with one pair more.
last_more : (ps : Pairs) (p : List ℕ × Json) (name : List ℕ) → last_pair name (ps ++ p ∷ []) ≡ cond (bytes_eq p.0 name) (Some (length ps)) (last_pair name ps)
last_more [] p name = here_by (bytes_eq p.0 name)
last_more (q ∷ qs) p name =
    ap (λ (o : Option ℕ). later_or_here o (bytes_eq q.0 name)) (last_more qs p name)
    ∙ later_by (bytes_eq p.0 name) (bytes_eq q.0 name) (length qs) (last_pair name qs)
    ∙ ap (λ (n : ℕ). cond (bytes_eq p.0 name) (Some n) (last_pair name (q ∷ qs))) (add-one (length qs))

last_by : (ps : Pairs) (p : List ℕ × Json) (name : List ℕ) (b : Bool) → bytes_eq p.0 name ≡ b
    → marked_last (ps ++ p ∷ []) name ≡ cond b (record { index = length ps; is_there = not (is_null p.1) }) (marked_last ps name)
last_by ps p name b e =
    ap (λ (o : Option ℕ). made_of (unwrap_or o 0) (is_there (ps ++ p ∷ []) name)) (last_more ps p name)
    ∙ ap (λ (c : Bool). made_of (unwrap_or (cond c (Some (length ps)) (last_pair name ps)) 0) (is_there (ps ++ p ∷ []) name)) e
    ∙ ap (λ (c : Bool). made_of (unwrap_or (cond b (Some (length ps)) (last_pair name ps)) 0) c) (there_more ps p name b e)
    ∙ both_by_case b (length ps) (not (is_null p.1)) (last_pair name ps) (is_there ps name)

pub marked_more : (ps : Pairs) (p : List ℕ × Json)
    → insert_entry bytes_eq (marked_names ps) p.0 (made_of (length ps) (not (is_null p.1))) ≡ marked_names (ps ++ p ∷ [])
marked_more ps p =
    let itself : marked_last (ps ++ p ∷ []) p.0 ≡ made_of (length ps) (not (is_null p.1)) = last_by ps p p.0 true (eq_self p.0) in
    let same : SameBut p.0 (marked_last ps) (marked_last (ps ++ p ∷ [])) = λ z e. last_by ps p z false e in
    ap (λ (last : LastPair). insert_entry bytes_eq (marked_names ps) p.0 last) (sym itself)
    ∙ insert_marked (marked_last ps) (marked_last (ps ++ p ∷ [])) p.0 (all_names ps) same (first_come_apart (map (λ q. q.0) ps))
    ∙ ap (marked (marked_last (ps ++ p ∷ []))) (sym (all_names_more ps p))

or_true : (b c : Bool) → c ≡ true → (b || c) ≡ true
or_true true c e = refl
or_true false c e = e

either : (b c d : Bool) → (b || c) ≡ true → (b || (d || c)) ≡ true
either true c d e = refl
either false c d e = or_true d c e

some_or : (o : Option Json) → is_some o ≡ true → (is_some o || false) ≡ true
some_or (Some x) e = refl
some_or None e = absurd (cc)

found_by : (name : List ℕ) (p : List ℕ × Json) (found : Option Json) (after b : Bool) → bytes_eq p.0 name ≡ b → (is_some (cond b (Some p.1) found) || after) ≡ true
    → (is_some found || (bytes_eq name p.0 || after)) ≡ true
found_by name p found after true e h = or_true (is_some found) (bytes_eq name p.0 || after) (ap (λ (b : Bool). b || after) (equal_back p.0 name e))
found_by name p found after false e h = either (is_some found) after (bytes_eq name p.0) h

found_among : (name : List ℕ) (found : Option Json) (ps : Pairs) → is_some (fold (λ (found : Option Json) (pair : List ℕ × Json). cond (bytes_eq pair.0 name) (Some pair.1) found) found ps) ≡ true
    → (is_some found || among name (map (λ q. q.0) ps)) ≡ true
found_among name found [] h = some_or found h
found_among name found (p ∷ ps) h =
    found_by name p found (among name (map (λ q. q.0) ps)) (bytes_eq p.0 name) refl (found_among name (cond (bytes_eq p.0 name) (Some p.1) found) ps h)

some_unless_null : (o : Option Json) → is_some (unless_null o) ≡ true → is_some o ≡ true
some_unless_null (Some x) e = refl
some_unless_null None e = absurd (cc)

there_among : (ps : Pairs) (name : List ℕ) → is_there ps name ≡ true → among name (map (λ q. q.0) ps) ≡ true
unfolding member
there_among ps name h = found_among name None ps (some_unless_null (last_value name ps) h)

both_by : (b c : Bool) → (b ≡ true → c ≡ true) → (b && c) ≡ b
both_by true c h = h refl
both_by false c h = refl

-- A name is among the names of the members exactly where its member is there.
pub named_there : (ps : Pairs) (name : List ℕ) → among name (filter (is_there ps) (all_names ps)) ≡ is_there ps name
named_there ps name =
    among_kept name (is_there ps) (all_names ps)
    ∙ both_by (is_there ps name) (among name (all_names ps)) (λ h. among_first_come name (map (λ q. q.0) ps) ∙ there_among ps name h)

-- A name that is there has a last pair.
step_back : (last : Option ℕ) (b : Bool) (x : Json) (found : Option Json)
    → (is_some last || is_some (cond b (Some x) found)) ≡ (is_some (later_or_here last b) || is_some found)
step_back (Some i) b x found = refl
step_back None true x found = refl
step_back None false x found = refl

pair_found : (name : List ℕ) (found : Option Json) (ps : Pairs)
    → is_some (fold (λ (found : Option Json) (pair : List ℕ × Json). cond (bytes_eq pair.0 name) (Some pair.1) found) found ps) ≡ (is_some (last_pair name ps) || is_some found)
pair_found name found [] = refl
pair_found name found (p ∷ ps) =
    pair_found name (cond (bytes_eq p.0 name) (Some p.1) found) ps ∙ step_back (last_pair name ps) (bytes_eq p.0 name) p.1 found

or_none : (b : Bool) → (b || false) ≡ true → b ≡ true
or_none true e = refl
or_none false e = absurd (cc)

is_some_last : (last : Option ℕ) → is_some last ≡ true → last ≡ Some (unwrap_or last 0)
is_some_last (Some i) e = refl
is_some_last None e = absurd (cc)

there_last : (ps : Pairs) (name : List ℕ) → is_there ps name ≡ true → last_pair name ps ≡ Some (unwrap_or (last_pair name ps) 0)
unfolding member
there_last ps name h =
    is_some_last (last_pair name ps) (or_none (is_some (last_pair name ps)) (sym (pair_found name None ps) ∙ some_unless_null (last_value name ps) h))

-- The slots of marked names, and those of the names that are there.
abbrev slot_of : List ℕ × LastPair → NamedPair
slot_of e = record { name = e.0; pair = e.1.index }

abbrev pub slots_of : Pairs → Names → List NamedPair
slots_of ps names = map slot_of (marked (marked_last ps) names)

pub names_of_slots : (ps : Pairs) (names : Names) → names_in (slots_of ps names) ≡ names
names_of_slots ps [] = refl
names_of_slots ps (x ∷ xs) = ap (λ (zs : Names). x ∷ zs) (names_of_slots ps xs)

slot_kept_by : (ps : Pairs) (x : List ℕ) (b : Bool) (names : Names) → is_there ps x ≡ b → All (IsSlotOf ps) (slots_of ps names) → All (IsSlotOf ps) (slots_of ps (cond b (x ∷ names) names))
slot_kept_by ps x true names e h =
    All-cons (IsSlotOf ps) (slot_of (x, marked_last ps x)) (slots_of ps names) (record { there = e; last = there_last ps x e }) h
slot_kept_by ps x false names e h = h

pub slots_kept : (ps : Pairs) (names : Names) → All (IsSlotOf ps) (slots_of ps (filter (is_there ps) names))
slots_kept ps [] = All-nil (IsSlotOf ps)
slots_kept ps (x ∷ xs) = slot_kept_by ps x (is_there ps x) (filter (is_there ps) xs) refl (slots_kept ps xs)
