-- Documents as the reader answers them: all that is asked of a document but that its references hold.
use Rattle.std.specs.Prelude.{◌≡◌, pos, ◌<◌, ◌≤◌, ◌<ℤ◌, List, [], ◌∷◌, length, IsSome}
use Rattle.std.specs.List.{All}
use Rattle.lot_types.specs.declared.comp.Comp.{Comp}
use Rattle.lot_types.specs.declared.doc.Doc.{Doc}
use Rattle.lot_types.specs.declared.layer.Layer.{Layer}
use Rattle.lot_types.specs.declared.layer.LayerKind.{LayerKind}
use Rattle.lot_types.specs.declared.layer.LayerKind.TheVariants as kind
use Rattle.lot_types.specs.declared.matte.Matte.TheVariants.{No}
use Rattle.lot_types.specs.declared.read.Read.{Read}
use Rattle.lot_types.specs.Items.{AreItemsOf}
use Rattle.lot_types.specs.Limits.{max_list_items, max_layers, max_comps}
use Rattle.lot_types.specs.Slots.{HasValues}

abbrev pub HasFewLayers : Comp → Type 0
HasFewLayers comp = length comp.layers ≤ max_layers

-- Each composition but the last, which is the main one, has a name by which layers show it.
abbrev pub AreNamed : List Comp → Type 0
AreNamed [] = Unit {0}
AreNamed (comp ∷ []) = Unit {0}
AreNamed (comp ∷ (next ∷ comps)) = IsSome comp.id × AreNamed (next ∷ comps)

-- The properties of what a layer shows have values in the document. Compositions are not built yet.
abbrev pub HasKindValues : Doc → LayerKind → Type 0
HasKindValues d (kind.Solid w h rgb) = Unit {0}
HasKindValues d kind.Null = Unit {0}
HasKindValues d (kind.Precomp name w h st sr tm) = ⊥
HasKindValues d (kind.Shape items) = AreItemsOf d items

-- The properties of a layer have values in the document.
pub record HasLayerValues (d : Doc) (layer : Layer) : Type 0 where
  pub transform : HasValues d layer.ks
  pub kind : HasKindValues d layer.kind

abbrev pub LayersHaveValues : Doc → Comp → Type 0
LayersHaveValues d comp = All (HasLayerValues d) comp.layers

-- So far a layer is a solid, a null layer or a shape layer, without masks and without a matte.
abbrev pub IsBuiltKind : LayerKind → Type 0
IsBuiltKind (kind.Solid w h rgb) = Unit {0}
IsBuiltKind kind.Null = Unit {0}
IsBuiltKind (kind.Precomp name w h st sr tm) = ⊥
IsBuiltKind (kind.Shape items) = Unit {0}

pub record IsBuilt (layer : Layer) : Type 0 where
  pub kind : IsBuiltKind layer.kind
  pub matte : layer.matte ≡ No
  pub masks : layer.masks ≡ []

abbrev pub LayersAreBuilt : Comp → Type 0
LayersAreBuilt comp = All IsBuilt comp.layers

pub record IsWellFormed (r : Read) : Type 0 where
  pub some : 0 < length r.doc.comps
  pub few_comps : length r.doc.comps ≤ max_comps
  pub few_layers : All HasFewLayers r.doc.comps
  pub few_slots : length r.doc.slots ≤ max_list_items
  pub named : AreNamed r.doc.comps
  pub rate : pos 0 <ℤ r.doc.fr
  pub slots : All (LayersHaveValues r.doc) r.doc.comps
  pub built : All LayersAreBuilt r.doc.comps
