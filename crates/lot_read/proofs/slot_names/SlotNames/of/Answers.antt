use Rattle.std.proofs.Common.{◌≡◌, ℕ, List, map, filter, ap, sym, subst, ◌∙◌, rules}
use Rattle.std.specs.List.{All}
use Rattle.indexmap.proofs.CallerLemmas.{filter-RetainsPairs}
use Rattle.lot_json.specs.declared.tree.json.JsonMembers.{out-JsonMembers}
use Rattle.lot_read.specs.declared.slot_names.LastPair.{LastPair}
use Rattle.lot_read.specs.Findings.{Pairs}
use Rattle.lot_read.specs.NameTable.{slots_in, marked_last}
use Rattle.lot_read.specs.SlotNames.{NamedPair, IsSlotOf, names_of, names_in, all_names, is_there, among}
use Rattle.lot_read.proofs.FirstCome.{marked_kept}
use Rattle.lot_read.proofs.MarkedNames.{named_there, slots_of, names_of_slots, slots_kept}
use Rattle.lot_read.proofs.SeenNames.{seen_kept, slots_seen}
use Rattle.lot_read.proofs.slot_names.SlotNames.of.Goals as goal

pub returns : goal.returns
unfolding names_of
returns c =
    let pairs : Pairs = (out-JsonMembers c.args.slots.now).pairs in
    let kept : c.retain.new.self.entries ≡ filter (λ e. e.1.is_there) c.in_ok-names.names.entries =
    filter-RetainsPairs _ (λ e. e.1.is_there) _ (λ k v b w g call. search rules) _ _ c.retain.ensures.filtered in
    let slots : slots_in c.retain.new.self.entries ≡ slots_of pairs (filter (is_there pairs) (all_names pairs)) =
    ap slots_in kept
    ∙ slots_seen (filter (λ e. e.1.is_there) c.in_ok-names.names.entries)
    ∙ ap (λ (z : List (List ℕ × LastPair)). map (λ e. record { name = e.0; pair = e.1.index }) z) (
    seen_kept c.in_ok-names.names.entries
    ∙ ap (λ (z : List (List ℕ × LastPair)). filter (λ e. e.1.is_there) z) c.in_ok-names.ensures.names
    ∙ marked_kept (marked_last c.pairs.result.now) (λ (last : LastPair). last.is_there) (all_names c.pairs.result.now))
    ∙ ap (λ (z : Pairs). slots_of z (filter (is_there z) (all_names z))) c.pairs.ensures in
    let names : names_in (slots_in c.retain.new.self.entries) ≡ filter (is_there pairs) (all_names pairs) =
    ap names_in slots ∙ names_of_slots pairs (filter (is_there pairs) (all_names pairs)) in
    record {
      names = names;
      slots = subst (λ (z : List NamedPair). All (IsSlotOf pairs) z) (sym slots) (slots_kept pairs (all_names pairs));
      there = λ name. ap (among name) names ∙ named_there pairs name;
    }
