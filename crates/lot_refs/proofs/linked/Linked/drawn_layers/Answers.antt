use Rattle.std.proofs.Common.{◌<◌, ◌≤◌, List, ℕ, length, subst, sym}
use Rattle.std.specs.List.{All}
use Rattle.lot_types.specs.Limits.{max_layers}
use Rattle.lot_refs.specs.Linked.{layers_of}
use Rattle.lot_refs.proofs.DrawnWithin.{drawn_within, drawn_few}
use Rattle.lot_refs.proofs.linked.Linked.drawn_layers.Goals as goal

pub returns-clause-within : goal.returns-clause-within
returns-clause-within c =
    let layers = layers_of c.args.self.now c.args.c in
    subst (λ (drawn : List ℕ). All (λ l. l < length layers) drawn) (sym c.list_of.ensures.value) (drawn_within layers)

pub returns-clause-few : goal.returns-clause-few
returns-clause-few c =
    subst (λ (drawn : List ℕ). length drawn ≤ max_layers) (sym c.list_of.ensures.value)
    (drawn_few c.args.self.now c.args.c c.list_of.ensures.valid)
