-- A line in memory.
use Rattle.gd_rules.specs.Question as rules
use Rattle.gd_system.specs.Pipeline.{Pipeline}
use Rattle.gd_question.specs.Posing.{line_between}
use Rattle.gd_question.specs.declared.question.Row.{Row}

abbrev pub line_of : Pipeline → Row → rules.Line
line_of p row = line_between p row.ends row.class row.floor row.ceiling
