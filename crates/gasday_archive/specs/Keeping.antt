-- What a gas day published is kept.
use Rattle.std.specs.Prelude.{◌≡◌, ◌≤◌, ◌⊎◌, ℕ, IsSome, max, Bool, true, false, List, [], ◌∷◌, ◌++◌, fold, flat_map, slice_get, take, Option, Some, None, Result, Ok, Err}
use Rattle.sqlite_trees.specs.declared.store.Store.{Ghosts}
use Rattle.sqlite.specs.Held.{Held, state}
use Rattle.sqlite.specs.State.{State}
use Rattle.gd_archive.specs.Calls.{Compares, Keeps}
use Rattle.gd_archive.specs.declared.repeat.Repeat.{Repeat}
use Rattle.gd_archive.specs.declared.repeat.Repeat.TheVariants.{Same}
use Rattle.gd_archive_store.specs.Calls.{kept_fault}
use Rattle.gd_archive_store.specs.declared.fault.KeepFault.TheVariants as keep
use Rattle.gd_archive_store.specs.declared.fault.StoreFault.{StoreFault}
use Rattle.gd_archive_store.specs.declared.fault.StoreFault.TheVariants as store
use Rattle.gd_board.specs.Known.{Knowledge, known_of}
use Rattle.gd_board.specs.declared.posting.Posting.{Posting}
use Rattle.gd_book.specs.Postings.{Tells}
use Rattle.gd_certificate.specs.Checked.{Certificate}
use Rattle.gd_machine.specs.declared.event.Event.TheVariants.{Publish}
use Rattle.gd_machine.specs.declared.reply.Reply.{Reply as BookReply}
use Rattle.gd_machine.specs.declared.reply.Reply.TheVariants as book
use Rattle.gd_machine.specs.Day.{Day}
use Rattle.gd_machine.specs.History.{History}
use Rattle.gd_replies.specs.declared.reply.Reply.{Reply}
use Rattle.gd_replies.specs.declared.reply.Reply.TheVariants as reply
use Rattle.gasday_archive.specs.declared.keeps.KeepAnswer.{KeepAnswer}
use Rattle.gasday_archive.specs.declared.keeps.KeepAnswer.TheVariants as answer

-- ---- what was published

abbrev pub published_cycle : BookReply → List ℕ
published_cycle (book.Published number cycle round bumped) = cycle ∷ []
published_cycle answered = []

-- the cycles that a history published, in order
abbrev pub published_cycles : History → List ℕ
published_cycles h = flat_map (λ p. published_cycle p.1) h

-- A posting that a history published: of the book, cycle and round, question, schedule and prices of one of its publishes,
-- and the lines that it bumped.
pub record IsPublished (day : Day) (h : History) (posting : Posting) : Type 0 where
  pub at : ℕ
  pub moment : ℕ
  pub certificate : Certificate
  pub answered : BookReply
  pub there : slice_get h at ≡ Some (Publish moment certificate, answered)
  pub tells : Tells day (take at h) certificate posting

-- the posting of this cycle
abbrev pub IsPublishedIn : Day → History → ℕ → Posting → Type 0
IsPublishedIn day h cycle posting = (posting.cycle ≡ cycle) × IsPublished day h posting

-- ---- what is told of keeping

-- the row of a refusal, where one of that book and cycle was kept before too; a posting that is kept is not told
abbrev pub keep_rows : KeepAnswer → List Reply
keep_rows answer.Kept = []
keep_rows (answer.Before found) = reply.Kept ∷ []
keep_rows (answer.Refused store.OldVersion) = reply.OldVersion ∷ []
keep_rows (answer.Refused (store.Store e)) = reply.Store ∷ []

-- 0 where the posting is kept, 1 where one was there already, but for a strict gas day 0 where that is this very posting, 2 at every
-- other refusal
abbrev pub answer_status : Bool → KeepAnswer → ℕ
answer_status strict answer.Kept = 0
answer_status true (answer.Before (Some Same)) = 0
answer_status strict (answer.Before found) = 1
answer_status strict (answer.Refused fault) = 2

abbrev pub all_keep_rows : List KeepAnswer → List Reply
all_keep_rows answers = flat_map keep_rows answers

-- the highest status of an answer
abbrev pub keep_status : Bool → List KeepAnswer → ℕ
keep_status strict answers = fold (λ status a. max status (answer_status strict a)) 0 answers

-- nothing is kept behind a refusal other than that a posting was there already
abbrev pub is_last : KeepAnswer → Bool
is_last (answer.Refused fault) = true
is_last a = false

-- ---- keeping

-- what is found by a comparison that may fail
abbrev pub found_by : Result (Option Repeat) StoreFault → Option Repeat
found_by (Ok found) = found
found_by (Err fault) = None

-- a posting is compared with the one that is kept of its book and cycle
abbrev pub HasCompared : State → State → Posting → Option Repeat → Type 0
HasCompared old new p found = (told : Result (Option Repeat) StoreFault) × Compares old new p told × (found ≡ found_by told)

-- A posting is kept; or there was one of its book and cycle, with which it is compared then; or the archive refuses.
abbrev pub Tries : {S : Type 0} → Ghosts S → Held S → Held S → Posting → KeepAnswer → Type 0
Tries g old new p answer.Kept = Keeps (state g old) (state g new) p (Ok tt)
Tries {S} g old new p (answer.Before found) =
    (mid : Held S) × Keeps (state g old) (state g mid) p (Err keep.Kept) × HasCompared (state g mid) (state g new) p found
Tries g old new p (answer.Refused fault) = Keeps (state g old) (state g new) p (Err (kept_fault fault))

module _ {S : Type 0} (g : Ghosts S) (Is : ℕ → Posting → Type 0) where
  -- Of each of these cycles the posting is kept, one after the other, with these answers; or up to the answer that is last.
  abbrev pub KeepsAll : List ℕ → Held S → List KeepAnswer → Held S → Type 0
  KeepsAll [] old answers new = (answers ≡ []) × (new ≡ old)
  KeepsAll (cycle ∷ cycles) old answers new =
      (posting : Posting) × (answer : KeepAnswer) × (more : List KeepAnswer) × (mid : Held S) × (answers ≡ answer ∷ more)
      × Is cycle posting × Tries g old mid posting answer
      × (((is_last answer ≡ true) × (more ≡ []) × (new ≡ mid)) ⊎ ((is_last answer ≡ false) × KeepsAll cycles mid more new))

-- Keeping these cycles' postings, for a strict gas day or any, with the rows that are told behind the former ones, and the status.
pub record KeepsTold {S : Type 0} (g : Ghosts S) (strict : Bool) (Is : ℕ → Posting → Type 0) (cycles : List ℕ) (old new : Held S) (former told : List Reply) (status : ℕ) : Type 0 where
  pub answers : List KeepAnswer
  pub keeps : KeepsAll g Is cycles old answers new
  pub rows : told ≡ former ++ all_keep_rows answers
  pub ends : status ≡ keep_status strict answers

-- a posting is known of this cycle
abbrev pub IsThere : Knowledge → ℕ → Type 0
IsThere known cycle = (1 ≤ cycle) × IsSome (known_of known cycle)

-- the posting of a cycle is known
abbrev pub IsKnownIn : Knowledge → ℕ → Posting → Type 0
IsKnownIn known cycle posting = known_of known cycle ≡ Some posting

-- this comes of keeping the posting of a cycle, which is known
pub record TriesKnown {S : Type 0} (g : Ghosts S) (known : Knowledge) (cycle : ℕ) (old new : Held S) (answer : KeepAnswer) : Type 0 where
  pub posting : Posting
  pub is : IsKnownIn known cycle posting
  pub tries : Tries g old new posting answer

-- What a history published is kept, by cycle, up to an answer that is last.
abbrev pub KeepsPublished : {S : Type 0} → Ghosts S → Day → History → Held S → List KeepAnswer → Held S → Type 0
KeepsPublished g day h = KeepsAll g (IsPublishedIn day h) (published_cycles h)
