-- What is known of the board after a call that publishes nothing.
use Rattle.std.proofs.Common.{ℕ, refl, Result, Ok, Err, Option, sym, subst}
use Rattle.std.specs.Prelude.{IfOk, OnOk, List}
use Rattle.gd_board.specs.Known.{Knowledge}
use Rattle.gd_board.specs.declared.posting.Posting.{Posting}
use Rattle.gd_machine.specs.declared.event.Event.{Event}
use Rattle.gd_machine.specs.declared.event.Event.TheVariants as event
use Rattle.gd_machine.specs.declared.reply.Reply.{Reply as BookReply}
use Rattle.gd_machine.specs.declared.refusal.Refusal.{Refusal}
use Rattle.gd_machine.specs.Day.{Day}
use Rattle.gd_machine.specs.History.{History}
use Rattle.gd_machine.specs.Steps.{Step}
use Rattle.gd_book.specs.Postings.{AllPosted, Posts}
use Rattle.gd_book.proofs.Posting.{all_more, same_stays}
use Rattle.gd_machine.specs.declared.call.Call.{Call}
use Rattle.gd_replies.specs.declared.reply.Reply.{Reply}
use Rattle.gd_text_part.specs.declared.row.Row.{Row}
use Rattle.gd_course.specs.Course.{Declares}
use Rattle.gd_course.specs.CallRows.{Steps}

-- a step by an event of which nothing need be known
step : (day : Day) (h after : History) (e : Event) (known : Knowledge) (r : Result BookReply Refusal) → ((o : Option Posting) → Posts day h o e) → Step day h e r after → AllPosted day h known → AllPosted day after known
step day h after e known (Ok reply) free made all =
    subst (λ g. AllPosted day g known) (sym made.1) (all_more day h (e, reply) known known (same_stays known known refl) (free _) all)
step day h after e known (Err refusal) free made all = subst (λ g. AllPosted day g known) (sym made.1) all

-- the same behind an answer that tells it
pub told : {V E : Type 0} (call : Call) (day : Day) (h after : History) (e : Event) (known : Knowledge) (rows : V → List Reply) (r : Result V E) → ((o : Option Posting) → Posts day h o e) → IfOk r (λ v. Steps call day h e (rows v) after) → OnOk r (AllPosted day h known → AllPosted day after known)
told call day h after e known rows (Ok v) free steps = step day h after e known steps.0 free steps.1
told call day h after e known rows (Err f) free steps = tt

-- what holds in any case holds behind an answer
pub always : {V E P : Type 0} (r : Result V E) → P → OnOk r P
always (Ok v) p = p
always (Err f) p = tt

-- and behind a set that is declared
pub declared : {V E : Type 0} (day : Day) (h after : History) (moment round : ℕ) (group : List Row) (known : Knowledge) (rows : V → List Reply) (r : Result V E) → IfOk r (λ v. Declares day h moment round group (rows v) after) → OnOk r (AllPosted day h known → AllPosted day after known)
declared day h after moment round group known rows (Ok v) steps =
    step day h after (event.Declare moment round steps.0) known steps.2.0 (λ o. tt) steps.2.1
declared day h after moment round group known rows (Err f) steps = tt
