-- What is told of a file that is audited: a book's, or an archive.
use Rattle.std.proofs.Common.{◌≡◌, ◌≢◌, Bool, Result, Ok, Err, IfOk, refl, sym, subst, inl, inr}
use Rattle.sqlite_trees.specs.declared.store.Store.{Ghosts}
use Rattle.sqlite.specs.Held.{Held, state}
use Rattle.sqlite.specs.State.{HasCleanDisk}
use Rattle.gd_journal_store.specs.Table.{journal}
use Rattle.gd_journal_store.specs.declared.fault.StoreFault.TheVariants as store
use Rattle.gd_replies.specs.declared.reply.Reply.TheVariants as reply
use Rattle.gd_serving.specs.declared.replaying.ReplayFault.TheVariants as why
use Rattle.gasday_part.specs.AnswerSeen.{answer_seen}
use Rattle.gasday_part.specs.Answers.{one}
use Rattle.gasday_part.specs.declared.answer.Answer.{Answer}
use Rattle.gasday_live.specs.Audits as book
use Rattle.gasday_archive.specs.Runs.{Tells}
use Rattle.gasday_orders.specs.Audited.{TellsArchive, TellsAudit}

module _ {S E : Type 0} (g : Ghosts S) (each : Bool) (old new : Held S) where
  -- of a book's file; where there is no memory for it, that the file can't be read is one of the answers that it may have
  pub book_audited : (r : Result Answer E) → (state g old).now.schema ≡ journal → (HasCleanDisk (state g new) → IfOk r (λ a. book.Audits (state g old) (answer_seen a)))
      → Tells (λ a. HasCleanDisk (state g new) → TellsAudit g each old new a) r
  book_audited (Ok a) is audits = record { told = answer_seen a; means = λ clean. inl (is, audits clean); is = refl }
  book_audited (Err e) is audits = record { told = one reply.Store 2; means = λ clean. inl (is, inr (why.Store store.Damaged, tt, refl)); is = tt }

  -- of an archive
  pub other_audited : (asked : Bool) → each ≡ asked → (r : Result Answer E) → (state g old).now.schema ≢ journal → Tells (λ a. HasCleanDisk (state g new) → TellsArchive g asked old new a) r
      → Tells (λ a. HasCleanDisk (state g new) → TellsAudit g each old new a) r
  other_audited asked so r other t = record {
    told = t.told;
    means = λ clean. inr (other, subst (λ b. TellsArchive g b old new t.told) (sym so) (t.means clean));
    is = t.is;
  }
