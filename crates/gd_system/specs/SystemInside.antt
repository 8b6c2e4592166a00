-- What the fields of a system stand for.
use Rattle.gd_table.specs.Table.{keys}
use Rattle.gd_system.specs.Pipeline.{Pipeline}
use Rattle.gd_system.specs.Known.{IsSystem}
use Rattle.gd_system.specs.declared.system.System.TheInside.{Inside}

abbrev pub pipeline_of : Inside → Pipeline
pipeline_of s = record { places = keys s.places; segments = keys s.segments; tree = s.tree; points = s.points.entries; pools = s.pools.entries }

abbrev pub IsSystemInside : Inside → Type 0
IsSystemInside s = IsSystem (pipeline_of s)
