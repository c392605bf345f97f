use Rattle.std.proofs.Common.{rules, nat_eq, lit≤}
use Rattle.lot_json.specs.declared.tokens.number_token.NumberPlace.TheVariants.{Start}
use Rattle.lot_json.specs.NumberRest.{HasRoom, RestAt, unread_number}
use Rattle.lot_json.proofs.NumberMoves.{can_end, room_after}
use Rattle.lot_json.proofs.BeginMoves.{begin_minus, first_digit, no_digit}
use Rattle.lot_json.proofs.tokens.number_token.NumberToken.begin.Goals as goal

pub returns-then-minus-clause-begins : goal.returns-then-minus-clause-begins
returns-then-minus-clause-begins c = begin_minus _ _ c.if-minus.true (search rules)

pub returns-then-minus-clause-can_end : goal.returns-then-minus-clause-can_end
returns-then-minus-clause-can_end c = can_end _

pub returns-then-minus-clause-room : goal.returns-then-minus-clause-room
unfolding HasRoom
returns-then-minus-clause-room c = lit≤ tt

pub take_first_digit-requires : goal.take_first_digit-requires
unfolding HasRoom
take_first_digit-requires c = lit≤ tt

pub returns-clause-begins : goal.returns-clause-begins
returns-clause-begins c = first_digit c.take_first_digit.result c.args.c (nat_eq c.args.c 45) c.take_first_digit.new.self c.if-minus.false (search rules) c.take_first_digit.ensures

pub returns-clause-room : goal.returns-clause-room
unfolding HasRoom
returns-clause-room c =
    let minus = nat_eq c.args.c 45 in
    room_after c.take_first_digit.result (RestAt Start (unread_number minus)) c.args.c (unread_number minus) c.take_first_digit.new.self c.take_first_digit.ensures 0 (lit≤ tt)

pub returns-clause-none : goal.returns-clause-none
returns-clause-none c = no_digit c.take_first_digit.result c.args.c (nat_eq c.args.c 45) c.take_first_digit.new.self c.if-minus.false (search rules) c.take_first_digit.ensures
