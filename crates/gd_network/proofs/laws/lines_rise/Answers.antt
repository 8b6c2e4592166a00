use Rattle.gd_scale.specs.Sizes.{whole}
use Rattle.gd_rules.specs.Tariff.{tariff}
use Rattle.gd_scale.proofs.Words.{whole_lawful}
use Rattle.gd_rules.proofs.Tariff.{tariff_lawful}
use Rattle.gd_schedule.proofs.Telescope.{line_rise}
use Rattle.gd_network.proofs.laws.lines_rise.Goals as goal

pub returns-clause-numbers : goal.returns-clause-numbers
returns-clause-numbers c = λ q i label h. line_rise whole whole_lawful label q i h

pub returns-clause-worths : goal.returns-clause-worths
returns-clause-worths c = λ q i label h. line_rise tariff tariff_lawful label q i h
