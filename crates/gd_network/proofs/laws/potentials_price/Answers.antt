use Rattle.gd_rules.specs.Tariff.{tariff, tariff_unit}
use Rattle.gd_rules.proofs.Tariff.{tariff_lawful, tariff_falls}
use Rattle.gd_rules.proofs.Better.{prices_show_best}
use Rattle.gd_network.proofs.Allowed.{schedule_allowed}
use Rattle.gd_network.proofs.Prices.{priced}
use Rattle.gd_network.proofs.Networks.{prices_of, prices_are}
use Rattle.gd_network.proofs.Wiring.{wired}
use Rattle.gd_network.proofs.laws.potentials_price.Goals as goal

pub returns-clause-priced : goal.returns-clause-priced
returns-clause-priced c = λ q n flow x gain label prices lines grown w balance within of gains still are.
    priced tariff tariff_lawful tariff_unit tariff_falls q n flow x gain label prices lines (wired q n w) within of gains still are grown balance (schedule_allowed q n flow x lines grown (wired q n w) balance within of).ceilings

pub returns-clause-best : goal.returns-clause-best
returns-clause-best c = λ q n flow x gain label lines grown w balance within of gains still.
    let a = schedule_allowed q n flow x lines grown (wired q n w) balance within of in
    prices_show_best q x (prices_of tariff q label) a
    (priced tariff tariff_lawful tariff_unit tariff_falls q n flow x gain label (prices_of tariff q label) lines (wired q n w) within of gains still (prices_are tariff q label) grown balance a.ceilings)
