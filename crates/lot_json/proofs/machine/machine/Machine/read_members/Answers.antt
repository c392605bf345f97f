use Rattle.std.proofs.Common.{◌≡◌, List, [], ◌∷◌, length, get_or, refl, ap, subst, ◌∙◌}
use Rattle.lot_json.specs.declared.tree.json.Json.{Json}
use Rattle.lot_json.specs.declared.progress.Progress.TheVariants as progress
use Rattle.lot_json.specs.declared.machine.mode.Mode.TheVariants as mode
use Rattle.lot_json.specs.declared.machine.container.Container.{Container}
use Rattle.lot_json.specs.declared.machine.container.Container.TheVariants as container
use Rattle.lot_json.specs.Pending as pending
use Rattle.lot_json.specs.Pending.{State, at, state_in, stack_of, state_of}
use Rattle.lot_json.specs.Residual.{Advances, PlacesValue, object_of}
use Rattle.lot_json.proofs.Residual.{steps_within, steps_placed, yes_of}
use Rattle.lot_json.proofs.Moves.{moves, leaves, same_from}
use Rattle.lot_json.proofs.Values.{members_can}
use Rattle.lot_json.proofs.Objects.{Pairs, members_spaced, members_closed, members_next, object_is}
use Rattle.lot_json.proofs.Advances.{first_continues, advances_same}
use Rattle.lot_json.proofs.machine.machine.Machine.read_members.Goals as goal

pub returns-then-is_white_space : goal.returns-then-is_white_space
returns-then-is_white_space c =
    let old = c.args.self.now in
    let stack = stack_of old in
    let first = get_or c.args.bytes.now 0 0 in
    first_continues c.args.bytes.now (state_of old) (state_of old) c.requires.some
    (moves (first ∷ []) old old mode.Members mode.Members stack c.requires.mode c.requires.mode refl
    (steps_within first pending.Members pending.Members stack (members_spaced (length stack) first (yes_of _ _ c.is_white_space.ensures c.if-is_white_space.true)) (members_can (length stack))))

pub returns-in_ok-read-in-34 : goal.returns-in_ok-read-in-34
returns-in_ok-read-in-34 c =
    let old = c.args.self.now in
    let stack = stack_of old in
    let bytes = c.args.bytes.now in
    let first = get_or bytes 0 0 in
    let new = state_of c.begin_name.new.self in
    let opens : stack_of c.push_container.new.self ≡ container.Object [] c.new-in-34.result ∷ stack = c.in_ok-push_container-in-34.ensures.stack ∙ ap (λ (z : Pairs). container.Object z c.new-in-34.result ∷ stack) c.new.ensures in
    let reads : Advances (progress.Continues c.in_ok-read-in-34.read) bytes (at (pending.NextMember []) stack) new = subst (λ (z : List Container). Advances (progress.Continues c.in_ok-read-in-34.read) bytes (state_in mode.NextMember z) new) opens c.in_ok-read-in-34.ensures in
    advances_same (progress.Continues c.in_ok-read-in-34.read) bytes (state_of old) (at (pending.NextMember []) stack) new c.requires.some
    (same_from first old mode.Members (at (pending.NextMember []) stack) c.requires.mode (members_next first stack c.in-34.is)) reads

pub returns-in_ok-place_value-in-125 : goal.returns-in_ok-place_value-in-125
returns-in_ok-place_value-in-125 c =
    let old = c.args.self.now in
    let stack = stack_of old in
    let first = get_or c.args.bytes.now 0 0 in
    let new = state_of c.place_value.new.self in
    first_continues c.args.bytes.now (state_of old) new c.requires.some
    (leaves (first ∷ []) old mode.Members stack new c.requires.mode refl
    (steps_placed first pending.Members stack new (object_of []) (members_closed (length stack) first c.in-125.is)
    (subst (λ (z : Json). PlacesValue z stack new) (object_is c.of.result [] (c.of.ensures ∙ c.new-in-125.ensures)) c.in_ok-place_value-in-125.ensures.places)))
