use Rattle.std.proofs.Common.{◌≡◌, [], ◌∷◌, ◌++◌, reverse, refl, ap, subst, ◌∙◌}
use Rattle.lot_json.specs.declared.tree.json.Json.{Json}
use Rattle.lot_json.specs.declared.machine.mode.Mode.TheVariants as mode
use Rattle.lot_json.specs.declared.machine.container.Container.{Container}
use Rattle.lot_json.specs.declared.machine.container.Container.TheVariants as container
use Rattle.lot_json.specs.Pending.{stack_of, state_of}
use Rattle.lot_json.specs.Residual.{PlacesValue}
use Rattle.lot_json.proofs.Residual.{yes_of}
use Rattle.lot_json.proofs.Moves.{moves, leaves}
use Rattle.lot_json.proofs.Innermost.{popped}
use Rattle.lot_json.proofs.Objects.{object_is}
use Rattle.lot_json.proofs.Within.{member_space, member_comma, member_close}
use Rattle.lot_json.proofs.machine.machine.Machine.read_after_member.Goals as goal

pub returns-then-is_white_space : goal.returns-then-is_white_space
returns-then-is_white_space c =
    let old = c.args.self.now in
    moves (c.args.c ∷ []) old old mode.AfterMember mode.AfterMember (stack_of old) c.requires c.requires refl (member_space c.args.c (stack_of old) (yes_of _ _ c.is_white_space.ensures c.if-is_white_space.true))

pub returns-in-44 : goal.returns-in-44
returns-in-44 c =
    let old = c.args.self.now in
    moves (c.args.c ∷ []) old c.set_mode.new.self mode.AfterMember mode.NextMember (stack_of old) c.requires c.set_mode.ensures.turned c.set_mode.ensures.stack (member_comma c.args.c (stack_of old) c.in-44.is)

pub returns-in_ok-place_value-in-125 : goal.returns-in_ok-place_value-in-125
returns-in_ok-place_value-in-125 c =
    let old = c.args.self.now in
    let rest = c.pop.new.self.items in
    let pairs = c.in-Some-Object.members in
    let name = c.in-Some-Object.field-0-1 in
    let is : stack_of old ≡ container.Object pairs name ∷ reverse rest = popped old.stack.items rest (container.Object pairs name) (c.in-Some-Object.ensures.items ∙ ap (λ (z : Container). rest ++ z ∷ []) c.in-Some-Object.field-0-is) in
    leaves (c.args.c ∷ []) old mode.AfterMember (container.Object pairs name ∷ reverse rest) (state_of c.place_value.new.self) c.requires is
    (member_close c.args.c pairs name (reverse rest) (state_of c.place_value.new.self) c.in-125.is
    (subst (λ (z : Json). PlacesValue z (reverse rest) (state_of c.place_value.new.self)) (object_is c.of.result pairs c.of.ensures) c.in_ok-place_value-in-125.ensures.places))
