-- How a slot ends, by what its book accepted and its sessions counted.
use Rattle.std.proofs.Common.{◌≡◌, ◌∙◌, ℕ, ◌+◌, ◌-◌, List, length, map, Result, IfOk, sym, ap, subst, arith}
use Rattle.std.specs.List.{sum_by}
use Rattle.std.proofs.lemmas.List.{length-map}
use Rattle.std.proofs.lemmas.List.Folds.{fold-map}
use Rattle.std.proofs.lemmas.Result.{IfOk-weaker}
use Rattle.gd_machine.specs.Day.{Day}
use Rattle.gd_machine.specs.History.{History}
use Rattle.gd_machine.specs.Asking.{accepted}
use Rattle.gd_office_part.specs.declared.kept.Receipt.{Receipt}
use Rattle.gd_office_part.specs.declared.numbers.Numbers.{Numbers}
use Rattle.gd_office_part.specs.Closing.{total_of}
use Rattle.gd_office_part.specs.Counting.{none, plus, numbers_of}
use Rattle.gd_office_part.specs.Seen.{Session}
use Rattle.gd_office_run.specs.declared.end.End.{End}
use Rattle.gd_office_run.specs.declared.end.End.TheVariants as end
use Rattle.gd_office_run.specs.Ends.{total, Holds, EndsOver}

sum_counted : (f : Numbers → ℕ) (sessions : List Session) → sum_by f (map (λ s. s.numbers) sessions) ≡ sum_by (λ s. f s.numbers) sessions
sum_counted f sessions = fold-map (λ a c. a + f c) (λ (s : Session). s.numbers) 0 sessions

numbers_are : (a b : Numbers) → a.calls ≡ b.calls → a.nominations ≡ b.nominations → a.dekatherms ≡ b.dekatherms → a ≡ b
numbers_are a b calls nominations dekatherms = λ i. record { calls = calls i; nominations = nominations i; dekatherms = dekatherms i }

-- what sessions counted, by their numbers
total_is : (sessions : List Session) → total (map (λ s. s.numbers) sessions) ≡ total_of sessions
total_is sessions =
    numbers_are (total (map (λ s. s.numbers) sessions)) (total_of sessions) (sum_counted (λ c. c.calls) sessions)
    (sum_counted (λ c. c.nominations) sessions) (sum_counted (λ c. c.dekatherms) sessions)

plus_none : (a : Numbers) → plus none a ≡ a
plus_none a = numbers_are (plus none a) a (omega arith) (omega arith) (omega arith)

plus_twice : (a b c : Numbers) → plus (plus a b) c ≡ plus a (plus b c)
plus_twice a b c = numbers_are (plus (plus a b) c) (plus a (plus b c)) (omega arith) (omega arith) (omega arith)

none_less : (n : ℕ) → 0 ≡ n - n
none_less n = omega arith

module _ (day : Day) (h : History) (lists : List (List Receipt)) (numbers : List ℕ) (sessions : List Session) where
  abbrev counts : List Numbers
  counts = map (λ s. s.numbers) sessions

  -- the sessions are closed with these sums
  module _ (sums : ℕ × ℕ) (nominations : sums.0 ≡ (total_of sessions).nominations) (dekatherms : sums.1 ≡ (total_of sessions).dekatherms) where
    counted : sums ≡ ((total counts).nominations, (total counts).dekatherms)
    counted =
        let n : sums.0 ≡ (total counts).nominations = nominations ∙ sym (ap (λ t. t.nominations) (total_is sessions)) in
        let q : sums.1 ≡ (total counts).dekatherms = dekatherms ∙ sym (ap (λ t. t.dekatherms) (total_is sessions)) in
        λ i. (n i, q i)

    over : (e : End) → Holds day h lists numbers sums e → EndsOver day h lists numbers counts e
    over (end.Reconciled events n q) held = subst (λ (s : ℕ × ℕ). Holds day h lists numbers s (end.Reconciled events n q)) counted held
    over (end.Misfit list index) held = held
    over (end.Missing count) held = (
      length counts,
      none,
      held.0 ∙ none_less (length counts),
      λ closes.
          let all : total counts ≡ numbers_of (record { day = day; history = h }) = sym (plus_none (total counts)) ∙ closes.1 in
          let n : (accepted day h).0 ≡ (total counts).nominations = sym (ap (λ (t : Numbers). t.nominations) all) in
          let q : (accepted day h).1 ≡ (total counts).dekatherms = sym (ap (λ (t : Numbers). t.dekatherms) all) in
          held.1 ((λ i. (n i, q i)) ∙ sym counted),
    )

    pub closed : {E : Type 0} (r : Result End E) → IfOk r (Holds day h lists numbers sums) → IfOk r (EndsOver day h lists numbers counts)
    closed r held = IfOk-weaker r _ _ over held

  -- the sessions are not closed
  pub not_closed : (count live : ℕ) (before kept : Numbers) → count ≡ live - length sessions
      → ((length sessions ≡ live) × (plus before (plus kept (total_of sessions)) ≡ numbers_of (record { day = day; history = h })) → ⊥)
      → EndsOver day h lists numbers counts (end.Missing count)
  not_closed count live before kept missing apart =
      let long : length counts ≡ length sessions = length-map sessions (λ s. s.numbers) in (
        live,
        plus before kept,
        missing ∙ ap (λ n. live - n) (sym long),
        λ closes.
            apart (
              sym long ∙ closes.0,
              ap (λ (t : Numbers). plus before (plus kept t)) (sym (total_is sessions)) ∙ sym (plus_twice before kept (total counts)) ∙ closes.1,
            ),
      )
