-- What is told of an archive's answers.
use Rattle.std.specs.Prelude.{ℕ, ◌==◌, Bool, true, false, List, [], ◌∷◌, ◌++◌, filter, length, Result, Ok, Err, if◌then◌else◌}
use Rattle.std.specs.List.{flat_map}
use Rattle.gd_archive.specs.declared.fault.AuditFault.{AuditFault}
use Rattle.gd_archive.specs.declared.fault.AuditFault.TheVariants as audit
use Rattle.gd_archive.specs.declared.fault.Unsound.{Unsound}
use Rattle.gd_archive.specs.declared.fault.Unsound.TheVariants.{Damaged, Uncertified}
use Rattle.gd_archive.specs.Soundness.{number}
use Rattle.gd_archive.specs.declared.bumps.Bumps.TheVariants as bumps
use Rattle.gd_archive.specs.declared.finding.Finding.{Finding}
use Rattle.gd_archive.specs.declared.finding.Finding.TheVariants as finding
use Rattle.gd_archive.specs.declared.finding.Summary.{Summary}
use Rattle.gd_archive_store.specs.declared.fault.StoreFault.{StoreFault}
use Rattle.gd_archive_store.specs.declared.fault.StoreFault.TheVariants as store
use Rattle.gd_archive_store.specs.declared.fault.MigrateFault.{MigrateFault}
use Rattle.gd_archive_store.specs.declared.fault.MigrateFault.TheVariants as migrate
use Rattle.gd_replies.specs.declared.reply.Reply.{Reply}
use Rattle.gd_replies.specs.declared.reply.Reply.TheVariants as reply
use Rattle.gasday_part.specs.Answers.{Told, one, refused}

-- an archive that can't be opened, read or written is told with status 2
abbrev pub no_store : Told
no_store = one reply.Store 2

abbrev pub old_version : Told
old_version = one reply.OldVersion 2

abbrev pub unsound_row : List ℕ → ℕ → Unsound → Reply
unsound_row book cycle Damaged = reply.Damaged book cycle
unsound_row book cycle (Uncertified fault) = reply.Unsound book cycle fault

-- how many postings are sound, with status 0; or the first that is not, with status 1
abbrev pub audited : Result ℕ AuditFault → Told
audited (Ok n) = one (reply.Audited n) 0
audited (Err audit.OldVersion) = old_version
audited (Err (audit.Store e)) = no_store
audited (Err (audit.Unsound book cycle what)) = refused (unsound_row book cycle what)

-- how many postings were carried over, with status 0; or that the version isn't 1, with status 1
abbrev pub migrated : Result ℕ MigrateFault → Told
migrated (Ok n) = one (reply.Migrated n) 0
migrated (Err migrate.OtherVersion) = refused reply.OtherVersion
migrated (Err (migrate.Store e)) = no_store

-- an archive that is refused as such
abbrev pub store_fault : StoreFault → Told
store_fault store.OldVersion = old_version
store_fault (store.Store e) = no_store

-- ---- each posting

abbrev pub sound_row : Summary → Reply
sound_row s =
    reply.Sound (record {
      book = s.book;
      cycle = s.cycle;
      round = s.round;
      rule = number s.rule;
      lines = s.lines;
      quantity = s.quantity;
      sum = s.sum;
    })

-- The rows of what is found of a posting: that it is sound, and behind that, where its bumped lines could be compared with nothing, that
-- they weren't; or why it isn't.
abbrev pub finding_rows : Finding → List Reply
finding_rows (finding.Sound s bumps.Right) = sound_row s ∷ []
finding_rows (finding.Sound s bumps.Wrong) = reply.UnsoundBumps s.book s.cycle ∷ []
finding_rows (finding.Sound s bumps.Unchecked) = sound_row s ∷ reply.UncheckedBumps s.book s.cycle ∷ []
finding_rows (finding.Unsound book cycle what) = unsound_row book cycle what ∷ []

abbrev pub is_sound : Finding → Bool
is_sound (finding.Sound s bumps.Wrong) = false
is_sound (finding.Sound s found) = true
is_sound (finding.Unsound book cycle what) = false

-- how many of the findings are sound
abbrev pub sound_count : List Finding → ℕ
sound_count findings = length (filter is_sound findings)

-- each finding, and how many are sound; with status 0 where all are, and else 1
abbrev pub each_told : List Finding → Told
each_told findings = record {
  replies = flat_map finding_rows findings ++ reply.Audited (sound_count findings) ∷ [];
  status = if sound_count findings == length findings then 0 else 1;
}
