use Rattle.std.proofs.Common.{◌-◌, List, [], ◌∷◌, length, get_or, refl, sym, ap, subst, ◌∙◌}
use Rattle.lot_json.specs.declared.tree.json.Json.{Json}
use Rattle.lot_json.specs.declared.tree.json.Json.TheVariants as tree
use Rattle.lot_json.specs.declared.machine.mode.Mode.TheVariants as mode
use Rattle.lot_json.specs.declared.machine.container.Container.TheVariants as container
use Rattle.lot_json.specs.Pending as pending
use Rattle.lot_json.specs.Pending.{at, stack_of, state_of}
use Rattle.lot_json.specs.Residual.{Completes}
use Rattle.lot_json.proofs.Residual.{Ends, steps_within, steps_placed, same_by, yes_of, no_of}
use Rattle.lot_json.proofs.Moves.{moves, leaves, same}
use Rattle.lot_json.proofs.Values.{items_can, element_can}
use Rattle.lot_json.proofs.Arrays.{items_spaced, items_closed, items_item-ahead, items_item-back}
use Rattle.lot_json.proofs.Advances.{first_continues, advances_same}
use Rattle.lot_json.proofs.machine.machine.Machine.read_items.Goals as goal

pub returns-then-is_white_space : goal.returns-then-is_white_space
returns-then-is_white_space c =
    let old = c.args.self.now in
    let stack = stack_of old in
    let first = get_or c.args.bytes.now 0 0 in
    first_continues c.args.bytes.now (state_of old) (state_of old) c.requires.some
    (moves (first ∷ []) old old mode.Items mode.Items stack c.requires.mode c.requires.mode refl
    (steps_within first pending.Items pending.Items stack (items_spaced (length stack) first (yes_of _ _ c.is_white_space.ensures c.if-is_white_space.true)) (items_can (length stack))))

pub returns-then-c-eq93 : goal.returns-then-c-eq93
returns-then-c-eq93 c =
    let old = c.args.self.now in
    let stack = stack_of old in
    let first = get_or c.args.bytes.now 0 0 in
    let new = state_of c.place_value.new.self in
    first_continues c.args.bytes.now (state_of old) new c.requires.some
    (leaves (first ∷ []) old mode.Items stack new c.requires.mode refl
    (steps_placed first pending.Items stack new (tree.Items c.new.result)
    (subst (λ (z : List Json). Ends first (Completes pending.Items (length stack)) (tree.Items z)) (sym c.new.ensures) (items_closed (length stack) first c.if-c-eq93.true)) c.in_ok-place_value.ensures.places))

pub returns : goal.returns
returns c =
    let old = c.args.self.now in
    let stack = stack_of old in
    let first = get_or c.args.bytes.now 0 0 in
    let inner = container.Array [] ∷ stack in
    let opens = c.set_mode.ensures.stack ∙ c.in_ok-push_container.ensures.stack ∙ ap (λ (z : List Json). container.Array z ∷ stack) c.new-2.ensures in
    let space = no_of _ _ c.is_white_space.ensures c.if-is_white_space.false in
    let mid = c.set_mode.new.self in
    let entered = c.set_mode.ensures.turned in
    advances_same c.in_ok-progress.progress c.args.bytes.now (state_of old) (state_of mid) (state_of c.read_value.new.self) c.requires.some
    (same first old mid mode.Items mode.Value inner c.requires.mode entered opens
    (same_by first pending.Items stack pending.Value inner (items_item-ahead first space c.if-c-eq93.false stack) (items_item-back first space stack) (element_can (128 - length inner))))
    c.in_ok-progress.ensures
