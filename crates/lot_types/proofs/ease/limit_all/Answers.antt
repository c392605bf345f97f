use Rattle.std.proofs.Common.{◌≡◌, pos, to_z, of_z, w64, get_or, rules}
use Rattle.lot_types.proofs.ThreeLimited.{three_limited, three_in}
use Rattle.lot_types.specs.Handles.{nearest_in, IsIn}
use Rattle.lot_types.proofs.ease.limit_all.Goals as goal

pub returns-clause-value : goal.returns-clause-value
returns-clause-value c =
    let limit = nearest_in (c.args.low, c.args.high) in
    let first : to_z w64 (of_z w64 c.clamp.result) ≡ limit (get_or c.args.numbers 0 (pos 0)) = search rules in
    let second : to_z w64 (of_z w64 c.clamp-2.result) ≡ limit (get_or c.args.numbers 1 (pos 0)) = search rules in
    let third : to_z w64 (of_z w64 c.clamp-3.result) ≡ limit (get_or c.args.numbers 2 (pos 0)) = search rules in
    three_limited (c.args.low, c.args.high) c.args.numbers _ _ _ (search rules) first second third

pub returns-clause-range : goal.returns-clause-range
returns-clause-range c =
    let first : IsIn (c.args.low, c.args.high) (to_z w64 (of_z w64 c.clamp.result)) = search rules in
    let second : IsIn (c.args.low, c.args.high) (to_z w64 (of_z w64 c.clamp-2.result)) = search rules in
    let third : IsIn (c.args.low, c.args.high) (to_z w64 (of_z w64 c.clamp-3.result)) = search rules in
    three_in (c.args.low, c.args.high) _ _ _ first second third
