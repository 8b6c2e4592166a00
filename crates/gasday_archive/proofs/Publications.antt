-- What a history published is known of the board.
use Rattle.std.proofs.Common.{◌≡◌, ◌≤◌, ◌<◌, ◌+◌, ℕ, suc, IsSome, List, [], ◌∷◌, ◌++◌, length, take, slice_get, get_or, Option, Some, None, All, refl, sym, subst, ◌∙◌, ap, arith}
use Rattle.std.specs.List.{flat_map}
use Rattle.std.specs.Option.{unwrap_or}
use Rattle.std.proofs.lemmas.Grind.{flat_map-append}
use Rattle.std.proofs.lemmas.List.{take_more, append-nil}
use Rattle.std.proofs.lemmas.List.Elements.{All-append, All-cons, All-weaker}
use Rattle.gd_board.specs.Known.{Knowledge, known_of}
use Rattle.gd_board.specs.declared.posting.Posting.{Posting}
use Rattle.gd_book.specs.Postings.{AllPosted, IsPosted, Posts}
use Rattle.gd_certificate.specs.Checked.{Certificate}
use Rattle.gd_machine.specs.declared.event.Event.{Event}
use Rattle.gd_machine.specs.declared.event.Event.TheVariants as event
use Rattle.gd_machine.specs.declared.reply.Reply.{Reply as BookReply}
use Rattle.gd_machine.specs.Day.{Day}
use Rattle.gd_machine.specs.History.{History, cycle_of}
use Rattle.gd_machine.specs.Machine.{IsLegal, reply_of}
use Rattle.gasday_archive.proofs.Keeping.{Suffices}
use Rattle.gasday_archive.specs.Keeping.{published_cycle, published_cycles, IsPublishedIn, IsThere, IsKnownIn}

-- one event more
pub cycles_more : (h : History) (i : ℕ) (p : Event × BookReply) → i < length h → p ≡ get_or h i p → published_cycles (take (i + 1) h) ≡ published_cycles (take i h) ++ published_cycle p.1
cycles_more h i p lt is =
    ap published_cycles (take_more h i p lt ∙ ap (λ (x : Event × BookReply). take i h ++ x ∷ []) (sym is))
    ∙ flat_map-append (λ (q : Event × BookReply). published_cycle q.1) (take i h) (p ∷ [])
    ∙ ap (λ t. published_cycles (take i h) ++ t) (append-nil (published_cycle p.1))

-- a cycle's posting is known, and the history published it
pub record IsHeld (day : Day) (h : History) (known : Knowledge) (cycle : ℕ) : Type 0 where
  pub within : 1 ≤ cycle
  pub posting : Posting
  pub is : known_of known cycle ≡ Some posting
  pub published : IsPublishedIn day h cycle posting

all_flat : {X A : Type 0} (P : A → Type 0) (f : X → List A) (xs : List X) → ((k : ℕ) (x : X) → slice_get xs k ≡ Some x → All P (f x)) → All P (flat_map f xs)
all_flat P f [] each = λ k d lt. absurd (omega (arith, lt))
all_flat P f (x ∷ xs) each = All-append P (f x) (flat_map f xs) (each 0 x refl) (all_flat P f xs (λ k y at. each (suc k) y at))

held : (day : Day) (h : History) (known : Knowledge) (at moment : ℕ) (certificate : Certificate) (answered : BookReply) → slice_get h at ≡ Some (event.Publish moment certificate, answered) → (o : Option Posting) → known_of known (cycle_of (take at h)) ≡ o → IsPosted day (take at h) certificate o → IsHeld day h known (cycle_of (take at h))
held day h known at moment certificate answered there None is posted = absurd posted
held day h known at moment certificate answered there (Some posting) is posted = record {
  within = omega arith;
  posting = posting;
  is = is;
  published = (posted.cycle, record { at = at; moment = moment; certificate = certificate; answered = answered; there = there; tells = posted });
}

none : (day : Day) (h : History) (known : Knowledge) → All (IsHeld day h known) []
none day h known k d lt = absurd (omega (arith, lt))

-- of each event the cycle that it published is held
each : (day : Day) (h : History) (known : Knowledge) (at : ℕ) (e : Event) (answered : BookReply) → slice_get h at ≡ Some (e, answered) → answered ≡ reply_of day (take at h) e → Posts day (take at h) (known_of known (cycle_of (take at h))) e → All (IsHeld day h known) (published_cycle answered)
each day h known at (event.Publish moment certificate) answered there is posted =
    let cycle = cycle_of (take at h) in
    subst (λ r. All (IsHeld day h known) (published_cycle r)) (sym is)
    (All-cons (IsHeld day h known) cycle [] (held day h known at moment certificate answered there (known_of known cycle) refl posted) (none day h known))
each day h known at (event.Nominate moment party key quantity) answered there is posted = subst (λ r. All (IsHeld day h known) (published_cycle r)) (sym is) (none day h known)
each day h known at (event.Respond moment party line end quantity) answered there is posted = subst (λ r. All (IsHeld day h known) (published_cycle r)) (sym is) (none day h known)
each day h known at (event.PostCapacity moment element capacity) answered there is posted = subst (λ r. All (IsHeld day h known) (published_cycle r)) (sym is) (none day h known)
each day h known at (event.Freeze moment) answered there is posted = subst (λ r. All (IsHeld day h known) (published_cycle r)) (sym is) (none day h known)
each day h known at (event.Declare moment round cut) answered there is posted = subst (λ r. All (IsHeld day h known) (published_cycle r)) (sym is) (none day h known)
each day h known at (event.Waive moment line) answered there is posted = subst (λ r. All (IsHeld day h known) (published_cycle r)) (sym is) (none day h known)
each day h known at (event.Skip moment) answered there is posted = subst (λ r. All (IsHeld day h known) (published_cycle r)) (sym is) (none day h known)

-- each cycle that a history published is held
pub all_held : (day : Day) (h : History) (known : Knowledge) → IsLegal day h → AllPosted day h known → All (IsHeld day h known) (published_cycles h)
all_held day h known legal posted =
    all_flat (IsHeld day h known) (λ (p : Event × BookReply). published_cycle p.1) h
    (λ k p at. each day h known k p.0 p.1 at (legal k p at).1 (posted k p at))

some_there : (o : Option Posting) (posting : Posting) → o ≡ Some posting → IsSome o
some_there o posting is = subst IsSome (sym is) refl

-- a posting is known of each
pub all_there : (day : Day) (h : History) (known : Knowledge) → All (IsHeld day h known) (published_cycles h) → All (IsThere known) (published_cycles h)
all_there day h known = All-weaker (IsHeld day h known) (IsThere known) (λ cycle is. (is.within, some_there (known_of known cycle) is.posting is.is)) (published_cycles h)

-- and what is known is what was published
pub all_published : (day : Day) (h : History) (known : Knowledge) → All (IsHeld day h known) (published_cycles h) → All (Suffices (IsKnownIn known) (IsPublishedIn day h)) (published_cycles h)
all_published day h known =
    All-weaker (IsHeld day h known) (Suffices (IsKnownIn known) (IsPublishedIn day h)) (λ cycle is posting found. subst (IsPublishedIn day h cycle) (ap (λ o. unwrap_or o posting) (sym is.is ∙ found)) is.published) (published_cycles h)
