use Rattle.std.proofs.Common.{List, position, ap, ◌∙◌}
use Rattle.std.specs.Str.{bytes_eq}
use Rattle.lot_read.specs.SlotNames.{NamedPair, names_in}
use Rattle.lot_read.proofs.SeenNames.{position_seen}
use Rattle.lot_read.proofs.slot_names.SlotNames.find.Goals as goal

pub returns-in_err-place : goal.returns-in_err-place
returns-in_err-place c =
    c.from_residual.ensures ∙ c.in_err-place.ensures.index ∙ position_seen c.args.name.now c.self.inside.names.entries
    ∙ ap (λ (z : List NamedPair). position (bytes_eq c.args.name.now) (names_in z)) c.self.view_is

pub returns : goal.returns
returns c =
    c.in_ok-place.ensures.index ∙ position_seen c.args.name.now c.self.inside.names.entries
    ∙ ap (λ (z : List NamedPair). position (bytes_eq c.args.name.now) (names_in z)) c.self.view_is
