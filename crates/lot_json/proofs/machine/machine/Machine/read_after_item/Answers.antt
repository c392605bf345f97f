use Rattle.std.proofs.Common.{◌≡◌, ◌-◌, [], ◌∷◌, ◌++◌, length, take, reverse, refl, sym, ap, ◌∙◌}
use Rattle.lot_json.specs.declared.machine.mode.Mode.TheVariants as mode
use Rattle.lot_json.specs.declared.machine.container.Container.{Container}
use Rattle.lot_json.specs.declared.machine.container.Container.TheVariants as container
use Rattle.lot_json.specs.Pending.{stack_of, state_of}
use Rattle.lot_json.proofs.Residual.{yes_of}
use Rattle.lot_json.proofs.Moves.{moves, leaves, arrives}
use Rattle.lot_json.proofs.Innermost.{innermost, popped}
use Rattle.lot_json.proofs.Within.{item_space, item_comma, item_close}
use Rattle.lot_json.proofs.machine.machine.Machine.read_after_item.Goals as goal

pub returns-then-is_white_space : goal.returns-then-is_white_space
returns-then-is_white_space c =
    let old = c.args.self.now in
    moves (c.args.c ∷ []) old old mode.AfterItem mode.AfterItem (stack_of old) c.requires c.requires refl (item_space c.args.c (stack_of old) (yes_of _ _ c.is_white_space.ensures c.if-is_white_space.true))

pub returns-in-Some-Array : goal.returns-in-Some-Array
returns-in-Some-Array c =
    let old = c.args.self.now in
    let seen = c.deref.result.now in
    let last = c.in-Some-Array in
    let below = reverse (take (length seen - 1) seen) in
    let is : stack_of old ≡ container.Array last.field-0-0 ∷ below =
    ap reverse (sym c.deref.ensures.value) ∙ innermost seen (length seen) last.field-0.now refl last.ensures.item.3.0 last.ensures.item.1 ∙ ap (λ (z : Container). z ∷ below) last.field-0-is in
    leaves (c.args.c ∷ []) old mode.AfterItem (container.Array last.field-0-0 ∷ below) (state_of c.set_mode.new.self) c.requires is
    (arrives (c.args.c ∷ []) _ c.set_mode.new.self mode.Value (container.Array last.field-0-0 ∷ below) c.set_mode.ensures.turned (c.set_mode.ensures.stack ∙ is)
    (item_comma c.args.c last.field-0-0 below c.in-44.is))

pub returns-in_ok-place_value-in-93 : goal.returns-in_ok-place_value-in-93
returns-in_ok-place_value-in-93 c =
    let old = c.args.self.now in
    let rest = c.pop.new.self.items in
    let items = c.in-Some-Array-pop.items in
    let is : stack_of old ≡ container.Array items ∷ reverse rest = popped old.stack.items rest (container.Array items) (c.in-Some-Array-pop.ensures.items ∙ ap (λ (z : Container). rest ++ z ∷ []) c.in-Some-Array-pop.field-0-is) in
    leaves (c.args.c ∷ []) old mode.AfterItem (container.Array items ∷ reverse rest) (state_of c.place_value.new.self) c.requires is
    (item_close c.args.c items (reverse rest) (state_of c.place_value.new.self) c.in-93.is c.in_ok-place_value-in-93.ensures.places)
