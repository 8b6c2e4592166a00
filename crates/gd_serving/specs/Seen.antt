-- What is given, as it stands in memory.
use Rattle.gd_serving.specs.Yields.{Yield}
use Rattle.gd_serving.specs.declared.given.Given.{Given}

abbrev pub seen : Given → Yield
seen g = record { rows = g.rows.items; replies = g.replies.items; told = g.told.items }
