-- What is written behind a text, and where the round ends that it says.
use Rattle.std.proofs.Common.{◌≡◌, ℕ, ◌+◌, true, List, take, ◌++◌, Ok, Err, Result, Some, None, Option, refl, sym, subst, ap, ◌∙◌, append_assoc}
use Rattle.std.specs.Prelude.{slice_get, IfOk, OnOk, IfSome}
use Rattle.std.specs.Option.{MatchOption}
use Rattle.gd_machine.specs.declared.event.Event.{Event}
use Rattle.gd_machine.specs.declared.event.Event.TheVariants.{Nominate, Respond, PostCapacity, Freeze, Publish, Declare, Waive, Skip}
use Rattle.gd_machine.specs.declared.reply.Reply.{Reply}
use Rattle.gd_machine.specs.Day.{Day}
use Rattle.gd_machine.specs.History.{History, is_frozen}
use Rattle.gd_machine.specs.Asking.{question}
use Rattle.gd_question.specs.Posing.{Posed}
use Rattle.gd_rounds.specs.Rounds.{EndsRound, IsAnswered, IsFrozenIn, IsNamed, Says}
use Rattle.gd_rounds.proofs.Search.{LastBefore, NoneBefore, ends_here, last_more, none_more}

-- three parts, one behind the other
pub three : {T E : Type 0} (r : Result T E) (old one two all a b c x y z : List ℕ) → one ≡ old ++ a → two ≡ one ++ b → OnOk r (all ≡ two ++ c) → a ≡ x → b ≡ y → c ≡ z → OnOk r (all ≡ old ++ ((x ++ y) ++ z))
three (Ok v) old one two all a b c x y z first second third ax by cz =
    third ∙ ap (λ l. l ++ c) second ∙ ap (λ l. (l ++ b) ++ c) first ∙ ap (λ l. l ++ c) (append_assoc old a b) ∙ append_assoc old (a ++ b) c
    ∙ ap (λ l. old ++ ((l ++ b) ++ c)) ax ∙ ap (λ l. old ++ ((x ++ l) ++ c)) by ∙ ap (λ l. old ++ ((x ++ y) ++ l)) cz
three (Err e) old one two all a b c x y z first second third ax by cz = tt

-- what a text says ends its round
answered : (day : Day) (h : History) (next : Option (Event × Reply)) (text : List ℕ) → Says day h next text → IsAnswered next
answered day h None text says = tt
answered day h (Some (Publish moment certificate, reply)) text says = refl
answered day h (Some (Declare moment round cut, reply)) text says = refl
answered day h (Some (Nominate moment party key quantity, reply)) text says = absurd says
answered day h (Some (Respond moment party line end quantity, reply)) text says = absurd says
answered day h (Some (PostCapacity moment element capacity, reply)) text says = absurd says
answered day h (Some (Freeze moment, reply)) text says = absurd says
answered day h (Some (Waive moment line, reply)) text says = absurd says
answered day h (Some (Skip moment, reply)) text says = absurd says

module _ (day : Day) (h : History) (cycle : ℕ) (round : Option ℕ) (place : ℕ) {X : Type 0} (bytes : X → List ℕ) where
  -- the text of the round that ends here
  abbrev pub IsHere : X → Type 0
  IsHere text = EndsRound h cycle round place × Says day (take place h) (slice_get h place) (bytes text)

  pub here : {E : Type 0} (q : Posed) → is_frozen (take place h) ≡ true → q ≡ question day (take place h) → q.cycle ≡ cycle → IsNamed round q.round → (r : Result (Option X) E)
      → IfOk r (λ found. IfSome found (λ text. Says day (take place h) (slice_get h place) (bytes text))) → IfOk r (λ found. IfSome found IsHere)
  here q frozen is at named (Ok (Some text)) says =
      let frozen_in : IsFrozenIn (take place h) cycle round = record {
        frozen = frozen;
        cycle_is = sym (ap (λ (p : Posed). p.cycle) is) ∙ at;
        round_is = subst (IsNamed round) (ap (λ (p : Posed). p.round) is) named;
      } in
      ((frozen_in, answered day (take place h) (slice_get h place) (bytes text) says), says)
  here q frozen is at named (Ok None) says = tt
  here q frozen is at named (Err e) says = tt

  -- the last one that ends before a place has this text, or none ends there
  abbrev pub IsLast : ℕ → Option X → Type 0
  IsLast p found = MatchOption found (NoneBefore h cycle round p) (λ text. LastBefore day h cycle round p (bytes text))

  former_last : ¬ (EndsRound h cycle round place) → (former : Option X) → IsLast place former → IsLast (place + 1) former
  former_last none None was = none_more h cycle round place none was
  former_last none (Some text) was = last_more day h cycle round place (bytes text) none was

  pub last_so_far : (later former found : Option X) → MatchOption later (found ≡ former) (λ text. found ≡ Some text) → IfSome later IsHere → (later ≡ None → ¬ (EndsRound h cycle round place))
      → IsLast place former → IsLast (place + 1) found
  last_so_far (Some text) former found is ends none was = subst (IsLast (place + 1)) (sym is) (ends_here day h cycle round place (bytes text) ends.0 ends.1)
  last_so_far None former found is ends none was = subst (IsLast (place + 1)) (sym is) (former_last (none refl) former was)
