use Rattle.std.proofs.Common.{◌≡◌, ℤ, to_z, of_z, sym, subst, rules}
use Rattle.std.specs.Int.{w128}
use Rattle.lot_num.specs.Round.{rnd, IsNearest}
use Rattle.lot_num.proofs.Nearest.{rnd_nearest}
use Rattle.lot_num.proofs.round.rnd_div.Goals as goal

pub returns-clause-nearest : goal.returns-clause-nearest
returns-clause-nearest c =
    let value : to_z w128 (of_z w128 c.rounded.result) ≡ rnd c.args.x c.args.y = search rules in
    subst (λ (q : ℤ). IsNearest c.args.x c.args.y q) (sym value) (rnd_nearest c.args.x c.args.y c.requires.nonzero)
