-- The first of the faults of layers.
use Rattle.std.proofs.Common.{◌≡◌, ℕ, ◌+◌, ◌<◌, Bool, true, false, List, [], ◌∷◌, ◌++◌, length, get_or, drop, refl, ap, sym, ◌∙◌, Some, None, if◌then◌else◌}
use Rattle.std.proofs.lemmas.List.{drop_more}
use Rattle.std.proofs.lemmas.Option.{none-some}
use Rattle.lot_types.specs.declared.layer.Layer.{Layer}
use Rattle.lot_refs.specs.declared.ref_fault.RefFault.{RefFault}
use Rattle.lot_refs.specs.Links.{Links, CirclesAre}
use Rattle.lot_refs.specs.Parents.{parents, parent_of}
use Rattle.lot_refs.specs.RefFaults.{when, parent_rule, layer_faults, faults_from, comp_faults, first_found}

pub first_of_two : (a b : Bool) (f g : RefFault)
    → first_found (when a f ++ when b g) ≡ (if a then Some f else (if b then Some g else None))
first_of_two true b f g = refl
first_of_two false true f g = refl
first_of_two false false f g = refl

first_front : (xs ys : List RefFault) (f : RefFault) → first_found xs ≡ Some f → first_found (xs ++ ys) ≡ Some f
first_front [] ys f h = absurd (none-some f h)
first_front (x ∷ xs) ys f h = h

-- What the table and the marks have for a layer is what its faults are made of.
pub as_given : (c : ℕ) (layers : List Layer) (l : ℕ) (x : Layer) (links : Links) (on_circle : List Bool)
    → l < length layers → links ≡ parents layers → CirclesAre on_circle (parents layers) (length layers)
    → layer_faults c layers l x ≡ parent_rule c l x (get_or links l None) (get_or on_circle l false)
as_given c layers l x links on_circle less table circles =
    ap (λ (b : Bool). parent_rule c l x (parent_of layers l) b) (sym (circles.same l less))
    ∙ ap (λ (t : Links). parent_rule c l x (get_or t l None) (get_or on_circle l false)) (sym table)

-- The first fault of layer l, where the layers before it have none.
pub first_in_layers : (c : ℕ) (layers : List Layer) (l : ℕ) (d : Layer) (f : RefFault) → l < length layers
    → faults_from c layers l (drop l layers) ≡ comp_faults c layers
    → first_found (layer_faults c layers l (get_or layers l d)) ≡ Some f → first_found (comp_faults c layers) ≡ Some f
first_in_layers c layers l d f less all h =
    let here : List RefFault = layer_faults c layers l (get_or layers l d) in
    ap first_found (sym all ∙ ap (λ (xs : List Layer). faults_from c layers l xs) (drop_more layers l d less))
    ∙ first_front here (faults_from c layers (l + 1) (drop (l + 1) layers)) f h
