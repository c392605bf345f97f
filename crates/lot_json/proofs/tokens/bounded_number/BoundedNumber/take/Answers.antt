use Rattle.std.proofs.Common.{◌^◌, arith}
use Rattle.lot_json.specs.NumberRest.{NumberRest}
use Rattle.lot_json.proofs.NumberMoves.{HasRoom-le, room_after}
use Rattle.lot_json.proofs.tokens.bounded_number.BoundedNumber.take.Goals as goal

pub take-belongs-requires : goal.take-belongs-requires
take-belongs-requires c = HasRoom-le c.self.inside.taken (2 ^ 63) c.self.inside.token (omega arith) c.self.invariant

pub invariant_of-self : goal.invariant_of-self
invariant_of-self c = room_after c.take-belongs.result (NumberRest c.self.inside.token) c.args.c c.self.inside.token c.take-belongs.new.self c.take-belongs.ensures c.self.inside.taken c.self.invariant
