-- How faults are printed: what is wrong with a row as its name and a field's number or nothing; and the row before it.
use Rattle.std.specs.Prelude.{ℕ, List, [], ◌∷◌, ◌++◌, codes}
use Rattle.std.specs.Fmt.{decimal}
use Rattle.gd_contracts.specs.Names.{contract_fault_name}
use Rattle.gd_question.specs.Names.{capacity_fault_name, line_fault_name}
use Rattle.gd_system.specs.Names.{build_fault_name}
use Rattle.gd_text_part.specs.declared.fault.Cause.{Cause}
use Rattle.gd_text_part.specs.declared.fault.Cause.TheVariants as cause
use Rattle.gd_text_part.specs.declared.fault.TextFault.{TextFault}
use Rattle.gd_text_part.specs.declared.fault.TextFault.TheVariants as fault

abbrev pub cause_name : Cause → List ℕ
cause_name cause.FieldCount = codes "FieldCount"
cause_name cause.UnknownKind = codes "UnknownKind"
cause_name cause.Order = codes "Order"
cause_name (cause.BadField k) = codes "BadField"
cause_name cause.Missing = codes "Missing"
cause_name cause.Limit = codes "Limit"
cause_name (cause.Build fault) = build_fault_name fault
cause_name (cause.Contract fault) = contract_fault_name fault
cause_name (cause.Capacity fault) = capacity_fault_name fault
cause_name (cause.Line fault) = line_fault_name fault
cause_name cause.UnknownElement = codes "UnknownElement"
cause_name cause.Duplicate = codes "Duplicate"

abbrev pub cause_detail : Cause → List ℕ
cause_detail (cause.BadField k) = decimal k
cause_detail c = []

-- the two fields
abbrev pub cause_text : Cause → List ℕ
cause_text c = cause_name c ++ 44 ∷ cause_detail c

-- the row that is blamed, or 0
abbrev pub fault_row : TextFault → List ℕ
fault_row (fault.Row n c) = decimal n
fault_row f = codes "0"

abbrev pub fault_name : TextFault → List ℕ
fault_name fault.ReadFailed = codes "ReadFailed"
fault_name fault.TooLong = codes "TooLong"
fault_name (fault.Row n c) = cause_name c
fault_name fault.OutOfMemory = codes "OutOfMemory"

abbrev pub fault_detail : TextFault → List ℕ
fault_detail (fault.Row n c) = cause_detail c
fault_detail f = []

-- the three fields
abbrev pub fault_text : TextFault → List ℕ
fault_text f = fault_row f ++ 44 ∷ fault_name f ++ 44 ∷ fault_detail f
