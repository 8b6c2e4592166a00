-- A certificate by what its value holds.
use Rattle.gd_certificate.specs.Checked.{Certificate}
use Rattle.gd_certificate.specs.declared.checked.Parts.{Parts}

abbrev pub certificate_of : Parts → Certificate
certificate_of p = record { question = p.question; schedule = p.schedule; prices = p.prices }
