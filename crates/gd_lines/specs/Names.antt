-- How refusals of a nomination are printed.
use Rattle.std.specs.Prelude.{ℕ, List, codes}
use Rattle.gd_lines.specs.declared.fault.LinesFault.{LinesFault}
use Rattle.gd_lines.specs.declared.fault.LinesFault.TheVariants.{TooManyLines, OutOfMemory}

abbrev pub lines_fault_name : LinesFault → List ℕ
lines_fault_name TooManyLines = codes "TooManyLines"
lines_fault_name OutOfMemory = codes "OutOfMemory"
