-- The names by which the program prints faults. They are this project's own.
use Rattle.std.specs.Prelude.{ℕ, List, codes}
use Rattle.lot_types.specs.declared.fault.FaultCode.{FaultCode}
use Rattle.lot_types.specs.declared.fault.FaultCode.TheVariants as fault

abbrev pub fault_name : FaultCode → List ℕ
fault_name fault.Missing = codes "Missing"
fault_name fault.Kind = codes "Kind"
fault_name fault.Range = codes "Range"
fault_name fault.Value = codes "Value"
fault_name fault.Count = codes "Count"
fault_name fault.Order = codes "Order"
fault_name fault.Unsupported = codes "Unsupported"
fault_name fault.NoLayer = codes "NoLayer"
fault_name fault.Cycle = codes "Cycle"
fault_name fault.NoAsset = codes "NoAsset"
fault_name fault.Twice = codes "Twice"
fault_name fault.SlotKind = codes "SlotKind"
fault_name fault.NoValue = codes "NoValue"
fault_name fault.TooMany = codes "TooMany"
