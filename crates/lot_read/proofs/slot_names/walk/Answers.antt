use Rattle.std.proofs.Common.{◌≡◌, ℕ, ◌+◌, ◌<◌, ◌≤◌, List, Bool, true, false, not, [], ◌∷◌, ◌++◌, length, get_or, take, ap, sym, ◌∙◌, arith, add-one, if◌then◌else◌}
use Rattle.std.proofs.Math.Seq.{take-suc}
use Rattle.std.proofs.lemmas.List.{length-take-le}
use Rattle.std.specs.Option.{is_some}
use Rattle.std.specs.Str.{bytes_eq}
use Rattle.indexmap.specs.IndexMap.{insert_entry, index_map_len}
use Rattle.lot_json.specs.Lookup.{is_null}
use Rattle.lot_json.specs.declared.tree.json.Json.{Json}
use Rattle.lot_read.specs.declared.slot_names.LastPair.{LastPair}
use Rattle.lot_read.specs.Findings.{Pairs}
use Rattle.lot_read.specs.NameTable.{seen, marked_names}
use Rattle.lot_read.proofs.MarkedNames.{made_of, marked_more}
use Rattle.lot_read.proofs.SeenNames.{seen_insert}
use Rattle.lot_read.proofs.slot_names.walk.Goals as goal

-- The first i pairs and one more.
next : (ps : Pairs) (i : ℕ) (p : List ℕ × Json) → p ≡ get_or ps i p → i < length ps → take i ps ++ p ∷ [] ≡ take (i + 1) ps
next ps i p is less =
    ap (λ (q : List ℕ × Json). take i ps ++ q ∷ []) is
    ∙ sym (take-suc ps i p less)
    ∙ ap (λ (n : ℕ). take n ps) (sym (add-one i))

counted : (ps : Pairs) (i : ℕ) → i < length ps → i ≡ length (take i ps)
counted ps i less = let h : i ≤ length ps = omega (arith, less) in sym (length-take-le i ps h)

one_more : (b : Bool) (now before index : ℕ) → now ≡ before + (if b then 0 else 1) → before ≤ index → now ≤ index + 1
one_more true now before index e h = omega arith
one_more false now before index e h = omega arith

abbrev insert : List (List ℕ × LastPair) → List ℕ → LastPair → List (List ℕ × LastPair)
insert es k v = insert_entry bytes_eq es k v

pub loop-index-preserved : goal.loop-index-preserved
loop-index-preserved c =
    let i = c.loop-index.index in
    let pairs : Pairs = c.args.pairs.now in
    let item : List ℕ × Json = c.index-pairs-index.result in
    let name : c.in_ok-name.name.items ≡ item.0 = c.in_ok-name.ensures.items ∙ c.as_bytes.ensures.value ∙ c.as_str.ensures in
    let put : seen c.insert.new.self.entries ≡ insert (marked_names (take i pairs)) item.0 (made_of (length (take i pairs)) (not (is_null item.1))) =
    ap seen c.in_ok-insert.ensures.entries
    ∙ seen_insert c.loop-index.names.entries c.in_ok-name.name (made_of i c.is_there.result)
    ∙ ap (λ (z : List ℕ). insert (seen c.loop-index.names.entries) z (made_of i c.is_there.result)) name
    ∙ ap (λ (b : Bool). insert (seen c.loop-index.names.entries) item.0 (made_of i b)) c.is_there.ensures
    ∙ ap (λ (es : List (List ℕ × LastPair)). insert es item.0 (made_of i (not (is_null item.1)))) c.loop-index.invariant.0
    ∙ ap (λ (n : ℕ). insert (marked_names (take i pairs)) item.0 (made_of n (not (is_null item.1)))) (counted pairs i c.loop-index-test.true) in (
      put
          ∙ marked_more (take i pairs) item
          ∙ ap marked_names (next pairs i item c.index-pairs-index.is c.loop-index-test.true),
      one_more (is_some c.in_ok-insert.field-0) (index_map_len c.insert.new.self) (index_map_len c.loop-index.names) i c.in_ok-insert.ensures.len c.loop-index.invariant.1,
    )
