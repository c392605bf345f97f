use Rattle.std.proofs.Common.{◌≡◌, ◌-◌, [], ◌∷◌, length, take, reverse, refl, sym, ap, ◌∙◌}
use Rattle.lot_json.specs.declared.machine.mode.Mode.TheVariants as mode
use Rattle.lot_json.specs.declared.machine.container.Container.{Container}
use Rattle.lot_json.specs.declared.machine.container.Container.TheVariants as container
use Rattle.lot_json.specs.Pending.{stack_of, state_of}
use Rattle.lot_json.proofs.Residual.{yes_of}
use Rattle.lot_json.proofs.Moves.{moves, leaves, arrives}
use Rattle.lot_json.proofs.Innermost.{innermost}
use Rattle.lot_json.proofs.Within.{colon_space, colon_on}
use Rattle.lot_json.proofs.machine.machine.Machine.read_colon.Goals as goal

pub returns-then-is_white_space : goal.returns-then-is_white_space
returns-then-is_white_space c =
    let old = c.args.self.now in
    moves (c.args.c ∷ []) old old mode.Colon mode.Colon (stack_of old) c.requires c.requires refl (colon_space c.args.c (stack_of old) (yes_of _ _ c.is_white_space.ensures c.if-is_white_space.true))

pub returns : goal.returns
returns c =
    let old = c.args.self.now in
    let seen = c.deref.result.now in
    let last = c.in-Some-Object in
    let below = reverse (take (length seen - 1) seen) in
    let is : stack_of old ≡ container.Object last.field-0-0 last.field-0-1 ∷ below =
    ap reverse (sym c.deref.ensures.value) ∙ innermost seen (length seen) last.field-0.now refl last.ensures.item.3.0 last.ensures.item.1 ∙ ap (λ (z : Container). z ∷ below) last.field-0-is in
    leaves (c.args.c ∷ []) old mode.Colon (container.Object last.field-0-0 last.field-0-1 ∷ below) (state_of c.set_mode.new.self) c.requires is
    (arrives (c.args.c ∷ []) _ c.set_mode.new.self mode.Value (container.Object last.field-0-0 last.field-0-1 ∷ below) c.set_mode.ensures.turned (c.set_mode.ensures.stack ∙ is)
    (colon_on c.args.c last.field-0-0 last.field-0-1 below c.if-c-ne58.false))
