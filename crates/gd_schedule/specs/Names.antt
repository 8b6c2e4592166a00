-- How what is broken is printed: by its name alone.
use Rattle.std.specs.Prelude.{ℕ, List, codes}
use Rattle.gd_schedule.specs.declared.Broken.{Broken}
use Rattle.gd_schedule.specs.declared.Broken.TheVariants.{Shape, BelowFloor, AboveCeiling, OverCapacity, Unbalanced, OutOfMemory}

abbrev pub broken_name : Broken → List ℕ
broken_name Shape = codes "Shape"
broken_name (BelowFloor line) = codes "BelowFloor"
broken_name (AboveCeiling line) = codes "AboveCeiling"
broken_name (OverCapacity element) = codes "OverCapacity"
broken_name (Unbalanced element) = codes "Unbalanced"
broken_name OutOfMemory = codes "OutOfMemory"
