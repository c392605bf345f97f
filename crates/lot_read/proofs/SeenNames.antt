-- The table of names, seen as the bytes of its keys.
use Rattle.std.proofs.Common.{◌≡◌, ℕ, ◌+◌, suc, Bool, true, false, not, cond, nat_lt, List, [], ◌∷◌, length, map, filter, Some, None, position, refl, ap, ◌∙◌}
use Rattle.std.specs.declared.vec.Vec.{Vec}
use Rattle.std.specs.declared.alloc.Global.{Global}
use Rattle.std.specs.List.{position_or_len}
use Rattle.std.specs.Map.{keys_of}
use Rattle.std.specs.Str.{bytes_eq}
use Rattle.indexmap.specs.IndexMap.{insert_entry}
use Rattle.lot_read.specs.declared.slot_names.LastPair.{LastPair}
use Rattle.lot_read.specs.NameTable.{Entries, seen, slots_in}
use Rattle.lot_read.specs.SlotNames.{NamedPair, names_in}

same_length : (es : Entries) → length (keys_of es) ≡ length (names_in (slots_in es))
same_length [] = refl
same_length (e ∷ es) = ap (λ (n : ℕ). suc n) (same_length es)

same_place : (p : List ℕ → Bool) (es : Entries) → position_or_len (λ k. p k.items) (keys_of es) ≡ position_or_len p (names_in (slots_in es))
same_place p [] = refl
same_place p (e ∷ es) = ap (λ (n : ℕ). cond (not (p e.0.items)) (1 + n) 0) (same_place p es)

-- A name has the place of its key.
pub position_seen : (name : List ℕ) (es : Entries) → position (λ k. bytes_eq name k.items) (keys_of es) ≡ position (bytes_eq name) (names_in (slots_in es))
position_seen name es =
    let place = same_place (bytes_eq name) es in
    let long = same_length es in
    let names = names_in (slots_in es) in
    ap (λ (n : ℕ). cond (nat_lt n (length (keys_of es))) (Some n) None) place
    ∙ ap (λ (n : ℕ). cond (nat_lt (position_or_len (bytes_eq name) names) n) (Some (position_or_len (bytes_eq name) names)) None) long

-- The entry of a name is put where its key is.
abbrev same_key : Vec ℕ Global → Vec ℕ Global → Bool
same_key x y = bytes_eq x.items y.items

insert_by : (b : Bool) (e : Vec ℕ Global × LastPair) (es more : Entries) (put : List (List ℕ × LastPair)) (v : LastPair) → seen more ≡ put
    → seen (cond b ((e.0, v) ∷ es) (e ∷ more)) ≡ cond b ((e.0.items, v) ∷ seen es) ((e.0.items, e.1) ∷ put)
insert_by true e es more put v h = refl
insert_by false e es more put v h = ap (λ (z : List (List ℕ × LastPair)). (e.0.items, e.1) ∷ z) h

pub seen_insert : (es : Entries) (k : Vec ℕ Global) (v : LastPair) → seen (insert_entry same_key es k v) ≡ insert_entry bytes_eq (seen es) k.items v
seen_insert [] k v = refl
seen_insert (e ∷ es) k v = insert_by (bytes_eq k.items e.0.items) e es (insert_entry same_key es k v) (insert_entry bytes_eq (seen es) k.items v) v (seen_insert es k v)

-- The entries whose value is there.
kept_by : (b : Bool) (e : Vec ℕ Global × LastPair) (es : Entries) (kept : List (List ℕ × LastPair)) → seen es ≡ kept
    → seen (cond b (e ∷ es) es) ≡ cond b ((e.0.items, e.1) ∷ kept) kept
kept_by true e es kept h = ap (λ (z : List (List ℕ × LastPair)). (e.0.items, e.1) ∷ z) h
kept_by false e es kept h = h

pub seen_kept : (es : Entries) → seen (filter (λ e. e.1.is_there) es) ≡ filter (λ e. e.1.is_there) (seen es)
seen_kept [] = refl
seen_kept (e ∷ es) = kept_by e.1.is_there e (filter (λ e. e.1.is_there) es) (filter (λ e. e.1.is_there) (seen es)) (seen_kept es)

-- The slots of the entries.
pub slots_seen : (es : Entries) → slots_in es ≡ map (λ e. record { name = e.0; pair = e.1.index }) (seen es)
slots_seen [] = refl
slots_seen (e ∷ es) = ap (λ (zs : List NamedPair). record { name = e.0.items; pair = e.1.index } ∷ zs) (slots_seen es)
