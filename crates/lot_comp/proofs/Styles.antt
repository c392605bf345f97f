-- What the styles draw is what the layer shows.
use Rattle.std.proofs.Common.{◌≡◌, ℤ, List, map, reverse, Some, ap, ◌∙◌}
use Rattle.std.specs.Prelude.{Result, Ok, Err, IfOk, option_and_then}
use Rattle.lot_comp.specs.Shape.{style_paint, styles_paints, shape_paints}
use Rattle.lot_group.specs.Collected.{collected}
use Rattle.lot_types.specs.declared.collected.Collected.{Collected}
use Rattle.lot_types.specs.declared.doc.Doc.{Doc}
use Rattle.lot_types.specs.declared.item.Item.{Item}
use Rattle.lot_types.specs.declared.memory.Memory.{Memory}
use Rattle.lot_types.specs.declared.paint.Paint.{Paint}
use Rattle.lot_types.proofs.Present.{present}

pub shown : (d : Doc) (t : ℤ) (items : List Item) (found : Collected) (paints : List Paint) → collected d t items ≡ Some found
    → map Some paints ≡ map (style_paint d t items found.leaves) (reverse found.styles) → shape_paints d t items ≡ Some paints
unfolding shape_paints
shown d t items found paints is made =
    ap (option_and_then (styles_paints d t items)) is ∙ present paints (map (style_paint d t items found.leaves) (reverse found.styles)) made

pub shown_if_ok : (d : Doc) (t : ℤ) (items : List Item) (found : Collected) (r : Result (List Paint) Memory) → collected d t items ≡ Some found
    → IfOk r (λ paints. map Some paints ≡ map (style_paint d t items found.leaves) (reverse found.styles))
    → IfOk r (λ paints. shape_paints d t items ≡ Some paints)
shown_if_ok d t items found (Ok paints) is made = shown d t items found paints is made
shown_if_ok d t items found (Err e) is made = tt
