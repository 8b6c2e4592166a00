-- Refusals of the database's tables as those of the calls above them.
use Rattle.gd_archive_store.specs.declared.fault.StoreFault.{StoreFault}
use Rattle.gd_archive_store.specs.declared.fault.StoreFault.TheVariants as store
use Rattle.gd_archive.specs.declared.fault.FetchFault.{FetchFault}
use Rattle.gd_archive.specs.declared.fault.FetchFault.TheVariants as fetch
use Rattle.gd_archive.specs.declared.fault.AuditFault.{AuditFault}
use Rattle.gd_archive.specs.declared.fault.AuditFault.TheVariants as audit

abbrev pub fetch_fault : StoreFault → FetchFault
fetch_fault store.OldVersion = fetch.OldVersion
fetch_fault (store.Store e) = fetch.Store e

abbrev pub audit_fault : StoreFault → AuditFault
audit_fault store.OldVersion = audit.OldVersion
audit_fault (store.Store e) = audit.Store e
