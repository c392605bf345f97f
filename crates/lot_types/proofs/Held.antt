-- What items hold.
use Rattle.std.proofs.Common.{◌≡◌, Bool, List, [], ◌∷◌, ◌++◌, map, refl, ap, sym, ◌∙◌}
use Rattle.std.specs.Prelude.{flat_map}
use Rattle.std.specs.List.{All}
use Rattle.std.proofs.lemmas.List.Elements.{All-nil, All-head, All-tail, All-append}
use Rattle.lot_types.specs.declared.item.Item.{Item, out-Item, roll-Item, roll-out-Item}
use Rattle.lot_types.specs.declared.item.Item.TheOpen.{Item-F}
use Rattle.lot_types.specs.declared.item.Item.TheOpen as item
use Rattle.lot_types.specs.declared.item.Item.TheFolds.{map-Item, para-roll-Item}
use Rattle.lot_types.specs.declared.item.Item.TheVariants.{Group, rolls-Group}
use Rattle.lot_types.specs.Items.{with_held, held_in, held, all_items}

abbrev pub beside_held : Item → Item × List Item
beside_held x = (x, held x)

-- By the open form of the item.
pub held-open : (x : Item) (y : Item-F Item) → out-Item x ≡ y → held x ≡ held_in (map-Item Item (Item × List Item) beside_held y)
unfolding held
held-open x y e = ap held (sym (roll-out-Item x) ∙ ap roll-Item e) ∙ para-roll-Item (List Item) held_in y

with_each : (xs : List Item) → flat_map with_held (map beside_held xs) ≡ all_items xs
unfolding all_items
with_each [] = refl
with_each (x ∷ xs) = ap (λ ys. x ∷ (held x ++ ys)) (with_each xs)

-- A group holds all items of its list.
pub held-Group : (z : Bool) (it : List Item) → held (Group z it) ≡ all_items it
unfolding held
held-Group z it = ap held (sym (rolls-Group z it)) ∙ para-roll-Item (List Item) held_in (item.Group z it) ∙ with_each it

-- What holds of each item of a list and of all that it holds, holds of all items of the list.
pub all_of_each : (P : Item → Type 0) (xs : List Item) → All (λ x. All P (x ∷ held x)) xs → All P (all_items xs)
unfolding all_items
all_of_each P [] h = All-nil P
all_of_each P (x ∷ xs) h =
    All-append P (x ∷ held x) (all_items xs) (All-head (λ y. All P (y ∷ held y)) x xs h)
    (all_of_each P xs (All-tail (λ y. All P (y ∷ held y)) x xs h))
