-- What the fields of a builder stand for.
use Rattle.gd_table.specs.Table.{keys}
use Rattle.gd_system.specs.Pipeline.{Pipeline}
use Rattle.gd_system.specs.Growing.{IsBuilt}
use Rattle.gd_system.specs.declared.builder.SystemBuilder.TheInside.{Inside}

abbrev pub pipeline_of : Inside → Pipeline
pipeline_of b = record { places = keys b.places; segments = keys b.segments; tree = b.tree; points = b.points.entries; pools = b.pools.entries }

abbrev pub IsBuiltInside : Inside → Type 0
IsBuiltInside b = IsBuilt (pipeline_of b)
