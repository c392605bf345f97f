use Rattle.std.proofs.Common.{◌≡◌, ◌∙◌, sym, true, rules}
use Rattle.lot_geom.specs.Matrix.{is_translation}
use Rattle.lot_geom.proofs.Translations.{translated}
use Rattle.lot_geom.proofs.matrix.apply.Goals as goal

pub returns-then-is_translation : goal.returns-then-is_translation
returns-then-is_translation c =
    let is : is_translation c.args.m ≡ true = search rules in
    c.moved.ensures ∙ sym (translated c.args.m c.args.p is)
