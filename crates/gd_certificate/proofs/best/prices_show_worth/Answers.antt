use Rattle.gd_rules.proofs.Duality.{weak_duality}
use Rattle.gd_certificate.proofs.best.prices_show_worth.Goals as goal

pub returns : goal.returns
returns g c q schedule other prices allowed priced others =
    weak_duality g.C.Cost.scale g.met.C.Cost.lawful (λ class tenth. g.C.Cost.meaning (g.C.ByClass.at class tenth)) g.met.C.ByClass.never_rises q schedule prices other allowed priced others
