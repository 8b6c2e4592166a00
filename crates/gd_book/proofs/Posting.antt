-- What is known of a board after more is read, posted or published.
use Rattle.std.proofs.Common.{◌≡◌, ◌≢◌, ◌≤◌, ℕ, [], ◌∷◌, ◌++◌, length, take, Option, None, Some, IfSome, sym, subst, ◌∙◌, ap, arith, inl, inr}
use Rattle.std.proofs.lemmas.Bool.{cases_eq}
use Rattle.std.proofs.lemmas.List.{take-append-le}
use Rattle.std.proofs.Math.Seq.{take-append_seam}
use Rattle.gd_board.specs.Known.{Knowledge, StaysKnown, known_of}
use Rattle.gd_board.specs.declared.posting.Posting.{Posting}
use Rattle.gd_machine.specs.declared.event.Event.{Event}
use Rattle.gd_machine.specs.declared.event.Event.TheVariants as event
use Rattle.gd_machine.specs.declared.reply.Reply.{Reply}
use Rattle.gd_machine.specs.Day.{Day}
use Rattle.gd_machine.specs.History.{History, cycle_of}
use Rattle.gd_book.specs.Postings.{AllPosted, IsPosted, Posts}
use Rattle.gd_book.proofs.Legal.{at_more}

-- what is known as before stays known
pub as_before : (o later : Option Posting) → later ≡ o → IfSome o (λ posting. later ≡ Some posting)
as_before None later same = tt
as_before (Some posting) later same = same

-- one cycle's posting stays known, and the others are as before
pub stays : (old new : Knowledge) (cycle : ℕ) → ((other : ℕ) → 1 ≤ other → other ≢ cycle → known_of new other ≡ known_of old other) → IfSome (known_of old cycle) (λ posting. known_of new cycle ≡ Some posting) → StaysKnown old new
stays old new cycle others own other within =
    elim (cases_eq other cycle) [
      | inl same ↦ subst (λ n. IfSome (known_of old n) (λ posting. known_of new n ≡ Some posting)) (sym same) own
      | inr differs ↦ as_before (known_of old other) (known_of new other) (others other within differs)
    ]

-- what is known of an equal note stays known
pub same_stays : (old new : Knowledge) → new ≡ old → StaysKnown old new
same_stays old new same cycle within = as_before (known_of old cycle) (known_of new cycle) (ap (λ k. known_of k cycle) same)

-- a posting of a certificate that is known stays known
is_posted : (day : Day) (h : History) (certificate : _) (o later : Option Posting) → IfSome o (λ posting. later ≡ Some posting) → IsPosted day h certificate o → IsPosted day h certificate later
is_posted day h certificate None later stay posted = absurd posted
is_posted day h certificate (Some posting) later stay posted = subst (IsPosted day h certificate) (sym stay) posted

posts : (day : Day) (h : History) (e : Event) (old new : Knowledge) → StaysKnown old new → Posts day h (known_of old (cycle_of h)) e → Posts day h (known_of new (cycle_of h)) e
posts day h (event.Publish moment certificate) old new stay posted =
    is_posted day h certificate (known_of old (cycle_of h)) (known_of new (cycle_of h)) (stay (cycle_of h) (omega arith)) posted
posts day h (event.Nominate moment party key quantity) old new stay posted = tt
posts day h (event.Respond moment party line end quantity) old new stay posted = tt
posts day h (event.PostCapacity moment element capacity) old new stay posted = tt
posts day h (event.Freeze moment) old new stay posted = tt
posts day h (event.Declare moment round cut) old new stay posted = tt
posts day h (event.Waive moment line) old new stay posted = tt
posts day h (event.Skip moment) old new stay posted = tt

-- where more is known, all publishes are known as before
pub all_stay : (day : Day) (h : History) (old new : Knowledge) → StaysKnown old new → AllPosted day h old → AllPosted day h new
all_stay day h old new stay all k p at = posts day (take k h) p.0 old new stay (all k p at)

-- all publishes are known of a history with one event more
pub all_more : (day : Day) (h : History) (p : Event × Reply) (old new : Knowledge) → StaysKnown old new → Posts day h (known_of new (cycle_of h)) p.0 → AllPosted day h old → AllPosted day (h ++ p ∷ []) new
all_more day h p old new stay last all k q at =
    let Known : History → Event × Reply → Type 0 = λ before e. Posts day before (known_of new (cycle_of before)) e.0 in
    elim (at_more h p k q at) [
      | inl a ↦ let in_h = a.0 in let le : k ≤ length h = omega (arith, in_h) in subst (λ before. Known before q) (sym (take-append-le k h (p ∷ []) le)) (posts day (take k h) q.0 old new stay (all k q a.1))
      | inr b ↦
          let whole : take k (h ++ p ∷ []) ≡ h = ap (λ n. take n (h ++ p ∷ [])) b.0 ∙ take-append_seam h (p ∷ []) in
          subst (λ before. Known before q) (sym whole) (subst (Known h) (sym b.1) last)
    ]
