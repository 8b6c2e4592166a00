-- How faults of certificates and of cuts are printed: by their names alone, and a fault of the schedule by its own.
use Rattle.std.specs.Prelude.{ℕ, List, codes}
use Rattle.gd_schedule.specs.Names.{broken_name}
use Rattle.gd_certificate.specs.declared.CertFault.{CertFault}
use Rattle.gd_certificate.specs.declared.CertFault.TheVariants as cert
use Rattle.gd_certificate.specs.declared.cut.CutFault.{CutFault}
use Rattle.gd_certificate.specs.declared.cut.CutFault.TheVariants as cut

abbrev pub cert_fault_name : CertFault → List ℕ
cert_fault_name cert.Shape = codes "Shape"
cert_fault_name (cert.Broken broken) = broken_name broken
cert_fault_name (cert.PriceTooLarge element) = codes "PriceTooLarge"
cert_fault_name (cert.PriceOnSlack element) = codes "PriceOnSlack"
cert_fault_name (cert.Underfilled line) = codes "Underfilled"
cert_fault_name (cert.Overfilled line) = codes "Overfilled"
cert_fault_name cert.OutOfMemory = codes "OutOfMemory"

abbrev pub cut_fault_name : CutFault → List ℕ
cut_fault_name cut.Shape = codes "Shape"
cut_fault_name cut.NotCut = codes "NotCut"
