-- The faults of the references of a document. A rule gives its faults in the order of the compositions, the assets
-- first, and in each in the order of the layers. The rules are this project's own.
use Rattle.std.specs.Prelude.{ℕ, ◌+◌, ◌==◌, ◌&&◌, Bool, true, false, is_some, is_none, List, [], ◌∷◌, ◌++◌, Option, Some, None, length, map, codes, if◌then◌else◌}
use Rattle.lot_types.specs.declared.comp.Comp.{Comp}
use Rattle.lot_types.specs.declared.doc.Doc.{Doc}
use Rattle.lot_types.specs.declared.fault.Fault.{Fault}
use Rattle.lot_types.specs.declared.fault.FaultCode.{FaultCode}
use Rattle.lot_types.specs.declared.fault.FaultCode.TheVariants as fault
use Rattle.lot_types.specs.declared.layer.Layer.{Layer}
use Rattle.lot_types.specs.declared.read.Read.{Read}
use Rattle.lot_json.specs.declared.tree.pointer.Step.{Step}
use Rattle.lot_json.specs.declared.tree.pointer.Step.TheVariants as step
use Rattle.lot_json.specs.Pointer.{pointer_text}
use Rattle.lot_refs.specs.declared.ref_fault.Member.{Member}
use Rattle.lot_refs.specs.declared.ref_fault.Member.TheVariants as member
use Rattle.lot_refs.specs.declared.ref_fault.RefFault.{RefFault}
use Rattle.lot_refs.specs.Links.{comes_back}
use Rattle.lot_refs.specs.Parents.{parents, parent_of}

-- A fault where a condition holds.
abbrev pub when : Bool → RefFault → List RefFault
when true found = found ∷ []
when false found = []

-- The rule on the parent of layer l of composition c: a `parent` names a layer of the composition, and the chain of
-- parents does not come back to the layer. What it names, and whether that chain comes back, is given.
abbrev pub parent_rule : ℕ → ℕ → Layer → Option ℕ → Bool → List RefFault
parent_rule c l x parent on_circle =
    when (is_some x.parent && is_none parent)
    (record { code = fault.NoLayer; comp = c; layer = l; member = member.Parent })
    ++ when on_circle
    (record { code = fault.Cycle; comp = c; layer = l; member = member.Parent })

-- The faults of layer l of composition c, which has these layers.
abbrev pub layer_faults : ℕ → List Layer → ℕ → Layer → List RefFault
layer_faults c layers l x = parent_rule c l x (parent_of layers l) (comes_back (parents layers) l)

-- The faults of the last layers of composition c, counted from l on.
abbrev pub faults_from : ℕ → List Layer → ℕ → List Layer → List RefFault
faults_from c layers l [] = []
faults_from c layers l (x ∷ xs) = layer_faults c layers l x ++ faults_from c layers (l + 1) xs

-- The faults of composition c.
abbrev pub comp_faults : ℕ → List Layer → List RefFault
comp_faults c layers = faults_from c layers 0 layers

-- The faults of the last compositions, counted from c on.
abbrev pub comp_faults_from : ℕ → List Comp → List RefFault
comp_faults_from c [] = []
comp_faults_from c (comp ∷ comps) = comp_faults c comp.layers ++ comp_faults_from (c + 1) comps

-- The faults of the parents of all compositions.
abbrev pub parent_faults : List Comp → List RefFault
parent_faults comps = comp_faults_from 0 comps

abbrev pub member_name : Member → List ℕ
member_name member.Parent = codes "parent"

-- The path to composition c. The main composition, which is the last, is the document itself; any other is an asset.
abbrev pub comp_place : Doc → ℕ → List Step
comp_place d c = if c + 1 == length d.comps then [] else step.Name (codes "assets") ∷ step.Index c ∷ []

-- The path to the member that has a fault.
abbrev pub place_in : Doc → RefFault → List Step
place_in d found =
    comp_place d found.comp
    ++ step.Name (codes "layers") ∷ step.Index found.layer ∷ step.Name (member_name found.member) ∷ []

abbrev pub fault_at : FaultCode → List Step → Fault
fault_at code place = record { code = code; pointer = pointer_text place }

-- The fault as it is reported: its code, and the JSON pointer of its member.
abbrev pub reported : Doc → RefFault → Fault
reported d found = fault_at found.code (place_in d found)

abbrev pub first_found : List RefFault → Option RefFault
first_found [] = None
first_found (found ∷ more) = Some found

-- All faults of the references of a document that was read, rule by rule.
abbrev pub ref_faults : Read → List Fault
ref_faults r = map (reported r.doc) (parent_faults r.doc.comps)
