-- How the faults of an office are printed: by their names.
use Rattle.std.specs.Prelude.{ℕ, List, codes}
use Rattle.gd_office_part.specs.declared.session.OfficeFault.{OfficeFault}
use Rattle.gd_office_part.specs.declared.session.OfficeFault.TheVariants.{UnknownSlot, TooMany}

abbrev pub office_fault_name : OfficeFault → List ℕ
office_fault_name UnknownSlot = codes "UnknownSlot"
office_fault_name TooMany = codes "TooMany"
