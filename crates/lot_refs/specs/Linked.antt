-- Documents whose references hold: what can be evaluated.
use Rattle.std.specs.Prelude.{◌≡◌, ℕ, pos, ◌<◌, ◌≤◌, ◌<ℤ◌, List, [], length, map, Option, Some, None, slice_get}
use Rattle.std.specs.List.{All}
use Rattle.lot_types.specs.declared.comp.Comp.{Comp}
use Rattle.lot_types.specs.declared.doc.Doc.{Doc}
use Rattle.lot_types.specs.declared.layer.Layer.{Layer}
use Rattle.lot_types.specs.Limits.{max_list_items, max_comps}
use Rattle.lot_types.specs.WellFormed.{AreNamed, HasFewLayers, LayersHaveValues, LayersAreBuilt}
use Rattle.lot_refs.specs.Links.{Links}
use Rattle.lot_refs.specs.Parents.{parents}
use Rattle.lot_refs.specs.RefFaults.{parent_faults}

-- A well-formed document whose references hold.
pub record IsValid (d : Doc) : Type 0 where
  pub some : 0 < length d.comps
  pub few_comps : length d.comps ≤ max_comps
  pub few_layers : All HasFewLayers d.comps
  pub few_slots : length d.slots ≤ max_list_items
  pub named : AreNamed d.comps
  pub rate : pos 0 <ℤ d.fr
  pub slots : All (LayersHaveValues d) d.comps
  pub built : All LayersAreBuilt d.comps
  pub parents_hold : parent_faults d.comps ≡ []

-- The layers of composition c. A composition that is not there has none.
abbrev pub layers_in : Option Comp → List Layer
layers_in None = []
layers_in (Some comp) = comp.layers

abbrev pub layers_of : Doc → ℕ → List Layer
layers_of d c = layers_in (slice_get d.comps c)

-- The parents of each composition.
abbrev pub parent_tables : List Comp → List Links
parent_tables comps = map (λ comp. parents comp.layers) comps
