-- What is asked of the items of a list holds of each of them, and of the list of each.
use Rattle.std.proofs.Common.{◌≡◌, ◌∙◌, ℕ, ℤ, Bool, ap, ◌<◌, ◌≤◌, true, false, List, [], ◌∷◌, ◌++◌, length, get_or, Some, sym, subst, arith}
use Rattle.std.proofs.lemmas.List.Elements.{All-nil, All-cons, All-head, All-tail}
use Rattle.std.specs.List.{All}
use Rattle.lot_types.specs.declared.doc.Doc.{Doc}
use Rattle.lot_types.specs.declared.item.Item.{Item, Item-F, out-Item}
use Rattle.lot_types.specs.declared.item.Item.TheOpen as item
use Rattle.lot_types.specs.declared.item.Item.TheVariants.{Trim, outs-Trim}
use Rattle.lot_types.specs.declared.prop.Prop.{Prop}
use Rattle.lot_types.specs.declared.transform.Transform.{Transform}
use Rattle.lot_types.specs.Limits.{max_list_items}
use Rattle.lot_types.specs.Items.{held, all_items, FewIn, HasFewItems, ValuesIn, HasOwnValues, AreItemsOf}
use Rattle.lot_types.specs.Slots.{HasScalar, HasValues}
use Rattle.lot_group.specs.Group.{transform_in, given_transform}
use Rattle.lot_group.specs.Place.{list_in, items_of}
use Rattle.lot_group.proofs.Filters.{Each, all-from}
use Rattle.lot_group.proofs.Items.{held-all}

pub All-parts : {X : Type 0} (P : X → Type 0) (xs ys : List X) → All P (xs ++ ys) → All P xs × All P ys
All-parts P [] ys h = (All-nil P, h)
All-parts P (x ∷ xs) ys h =
    let more = All-parts P xs ys (All-tail P x (xs ++ ys) h) in
    (All-cons P x xs (All-head P x (xs ++ ys) h) more.0, more.1)

-- P holds of the item and of all items that it holds.
abbrev pub OfAll : (Item → Type 0) → Item → Type 0
OfAll P x = P x × All P (all_items (items_of x))

pub each_of_all : (P : Item → Type 0) (xs : List Item) → All P (all_items xs) → Each (OfAll P) xs
unfolding all_items
each_of_all P [] h = tt
each_of_all P (x ∷ xs) h =
    let parts = All-parts P (x ∷ held x) (all_items xs) h in (
      (All-head P x (held x) parts.0, subst (All P) (held-all x) (All-tail P x (held x) parts.0)),
      each_of_all P xs parts.1,
    )

pub of_all_at : (P : Item → Type 0) (xs : List Item) (k : ℕ) (x : Item) → All P (all_items xs) → k < length xs →
    x ≡ get_or xs k x → OfAll P x
of_all_at P xs k x h l e = subst (OfAll P) (sym e) (all-from (OfAll P) xs (each_of_all P xs h) k x l)

few_in : (y : Item-F Item) → FewIn y → length (list_in y) ≤ max_list_items
few_in (item.Group h it) f = f
few_in (item.Rect h p s r d) f = omega arith
few_in (item.Ellipse h p s d) f = omega arith
few_in (item.Star h sy pt p r or_ os ir is_ d) f = omega arith
few_in (item.Path h ks d) f = omega arith
few_in (item.Fill h c o r) f = omega arith
few_in (item.Stroke h c o w lc lj ml d) f = omega arith
few_in (item.GradientFill h o s e t g n a r) f = omega arith
few_in (item.GradientStroke h o s e t g n a w lc lj ml d) f = omega arith
few_in (item.Trim h s e o m) f = omega arith
few_in (item.Place h ks) f = omega arith

few_of : (x : Item) → HasFewItems x → length (items_of x) ≤ max_list_items
unfolding HasFewItems items_of
few_of x f = few_in (out-Item x) f

-- What is asked of a list of items holds of the list of each of them.
pub items-inside : (d : Doc) (xs : List Item) (k : ℕ) (x : Item) → AreItemsOf d xs → k < length xs →
    x ≡ get_or xs k x → AreItemsOf d (items_of x)
items-inside d xs k x h l e =
    let few = of_all_at HasFewItems xs k x h.few_within l e in
    let values = of_all_at (HasOwnValues d) xs k x h.values l e in
    record { few = few_of x few.0; few_within = few.1; values = values.1 }

pub values-at : (d : Doc) (xs : List Item) (k : ℕ) (x : Item) → AreItemsOf d xs → k < length xs →
    x ≡ get_or xs k x → HasOwnValues d x
values-at d xs k x h l e = (of_all_at (HasOwnValues d) xs k x h.values l e).0

-- The members of a trim have values where the item has them.
trim_values_in : (d : Doc) (z : Bool) (s e o : Prop ℤ) (m : ℕ) (y : Item-F Item) → y ≡ item.Trim z s e o m → ValuesIn d y →
    HasScalar d s × HasScalar d e × HasScalar d o
trim_values_in d z s e o m y is v = subst (ValuesIn d) is v

pub trim-values : (d : Doc) (x : Item) (z : Bool) (s e o : Prop ℤ) (m : ℕ) → x ≡ Trim z s e o m → HasOwnValues d x →
    HasScalar d s × HasScalar d e × HasScalar d o
unfolding HasOwnValues
trim-values d x z s e o m is v =
    trim_values_in d z s e o m (out-Item x) (ap out-Item is ∙ outs-Trim z s e o m) v

-- The transform that an item gives has values where the item has them.
values_in : (d : Doc) (ks : Transform) (y : Item-F Item) → transform_in y ≡ Some ks → ValuesIn d y → HasValues d ks
values_in d ks (item.Group h it) e v = absurd (cc)
values_in d ks (item.Rect h p s r c) e v = absurd (cc)
values_in d ks (item.Ellipse h p s c) e v = absurd (cc)
values_in d ks (item.Star h sy pt p r or_ os ir is_ c) e v = absurd (cc)
values_in d ks (item.Path h k c) e v = absurd (cc)
values_in d ks (item.Fill h c o r) e v = absurd (cc)
values_in d ks (item.Stroke h c o w lc lj ml n) e v = absurd (cc)
values_in d ks (item.GradientFill h o s z t g n a r) e v = absurd (cc)
values_in d ks (item.GradientStroke h o s z t g n a w lc lj ml c) e v = absurd (cc)
values_in d ks (item.Trim h s z o m) e v = absurd (cc)
values_in d ks (item.Place true k) e v = absurd (cc)
values_in d ks (item.Place false k) e v = let same : k ≡ ks = cc in subst (HasValues d) same v

pub transform-values : (d : Doc) (ks : Transform) (x : Item) → given_transform x ≡ Some ks → HasOwnValues d x →
    HasValues d ks
unfolding given_transform HasOwnValues
transform-values d ks x e v = values_in d ks (out-Item x) e v

-- The same of a list that equals that of an item.
pub items-of_group : (d : Doc) (xs it : List Item) (k : ℕ) (x : Item) → AreItemsOf d xs → k < length xs →
    x ≡ get_or xs k x → items_of x ≡ it → AreItemsOf d it
items-of_group d xs it k x h l e i = subst (AreItemsOf d) i (items-inside d xs k x h l e)
