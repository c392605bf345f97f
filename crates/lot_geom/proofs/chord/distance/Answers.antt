use Rattle.std.proofs.Common.{◌≤◌, ◌+◌, ℕ, subst, sym, arith}
use Rattle.lot_num.proofs.Squares.{root_small}
use Rattle.lot_geom.specs.Chords.{distance, max_chord_length}
use Rattle.lot_geom.proofs.chord.distance.Goals as goal

pub returns-clause-value : goal.returns-clause-value
unfolding distance
returns-clause-value c = cc (c.isqrt.ensures.value, c.square_between.ensures.value, c.square_between-2.ensures.value)

pub returns-clause-small : goal.returns-clause-small
returns-clause-small c =
    subst (λ (n : ℕ). n ≤ max_chord_length) (sym c.isqrt.ensures.value)
    (root_small (c.square_between.result + c.square_between-2.result) max_chord_length
    (omega (arith, c.square_between.ensures.small, c.square_between-2.ensures.small)))
