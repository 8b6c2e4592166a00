-- The refusals of lists in the order of their lengths.
use Rattle.std.proofs.Common.{◌≡◌, ℕ, ◌+◌, ◌<◌, ◌≤◌, ◌⊎◌, inl, inr, List, length, get_or, Option, Some, None, refl, sym, subst, ◌∙◌, ap, arith}
use Rattle.std.specs.Option.{MatchOption}
use Rattle.std.specs.List.Sorted.{IsPermutation}
use Rattle.std.proofs.lemmas.Bool.{cases_lt}
use Rattle.std.proofs.lemmas.Option.{same_Some}
use Rattle.std.proofs.lemmas.List.Sorted.{All-permutation, Contains-permutation}
use Rattle.std.proofs.lemmas.List.{get_or_default}
use Rattle.gd_machine.specs.Day.{Day}
use Rattle.gd_machine.specs.History.{History}
use Rattle.gd_office_part.specs.declared.kept.Receipt.{Receipt}
use Rattle.gd_office_part.specs.declared.kept.Told.{Told}
use Rattle.gd_office_part.specs.declared.kept.Told.TheVariants.{Accepted, Refused}
use Rattle.gd_reconcile.specs.declared.mismatch.Mismatch.{Mismatch}
use Rattle.gd_reconcile.specs.declared.refusals.Query.{Query}
use Rattle.gd_reconcile.specs.Fitting.{Before, receipt_at, length_at, length_in, refusal_length}
use Rattle.gd_reconcile.specs.Answering.{AnswerTo, IsFirstWrong, Answers, AnswersIn, AnswersAt, IsQuery, AreQueries, IsBefore, LeastWrong}
use Rattle.gd_reconcile.proofs.Walks.{before_here, before_end, list_within}

pub queries_moved : (most : ℕ) (lists : List (List Receipt)) (l i : ℕ) (qs rs : List Query) → IsPermutation qs rs → AreQueries most lists l i qs → AreQueries most lists l i rs
queries_moved most lists l i qs rs moved are =
    record {
      real = All-permutation (IsQuery most lists) qs rs moved are.real;
      each = λ a j k b at within. Contains-permutation qs rs _ moved (are.each a j k b at within);
    }

not_itself : (l i : ℕ) → Before l i l i → ⊥
not_itself l i (inl lt) = omega arith
not_itself l i (inr e) = let e1 = e.1 in omega arith

-- all of list l is read
pub queries_next : (most : ℕ) (lists : List (List Receipt)) (l i : ℕ) (qs : List Query) → ((j : ℕ) → i ≤ j → receipt_at lists l j ≡ None) → AreQueries most lists l i qs → AreQueries most lists (l + 1) 0 qs
queries_next most lists l i qs end are =
    record {
      real = are.real;
      each = λ a j k b at within. are.each a j k (back a j k b at) at within;
    } where
      back : (a j k : ℕ) → Before a j (l + 1) 0 → length_at lists a j ≡ Some k → Before a j l i
      back a j k (inr x) at = let x1 = x.1 in absurd (omega arith)
      back a j k (inl x) at =
          elim (cases_lt a l) [
            | inl lt ↦ inl lt
            | inr ge ↦
                let e : a ≡ l = omega arith in
                elim (cases_lt j i) [
                  | inl lt ↦ inr (e, lt)
                  | inr past ↦
                      let none : Some k ≡ None = sym at ∙ ap (λ y. length_at lists y j) e ∙ ap length_in (end j past) in
                      absurd (cc)
                ]
          ]

module _ (day : Day) (h : History) (lists : List (List Receipt)) (qs : List Query) where
  -- the query at a place is one
  same_query : (e d : ℕ) (x q : Query) → e ≡ d → d < length qs → get_or qs e x ≡ x → get_or qs d q ≡ q → x ≡ q
  same_query e d x q is lt at here =
      sym at ∙ ap (λ y. get_or qs y x) is ∙ get_or_default qs d x q lt ∙ here

  pub least_same : (d : ℕ) (least : Option Mismatch) (q : Query) → d < length qs → q ≡ get_or qs d q → AnswersAt day h lists q.list q.index
      → LeastWrong day h lists qs d least → LeastWrong day h lists qs (d + 1) least
  least_same d least q lt here ok was =
      record {
        below = λ e x le at before. elim (cases_lt e d) [
          | inl lt' ↦ was.below e x lt' at before
          | inr ge ↦ subst (λ (y : Query). AnswersAt day h lists y.list y.index) (sym (same_query e d x q (omega arith) lt at (sym here))) ok
        ];
        wrong = was.wrong;
      }

  pub least_less : (d : ℕ) (least : Option Mismatch) (q : Query) (m : Mismatch) → d < length qs → q ≡ get_or qs d q → (AnswersAt day h lists q.list q.index → ⊥)
      → (m ≡ record { list = q.list; index = q.index }) ⊎ (least ≡ Some m)
      → ((a j : ℕ) → Before a j m.list m.index → IsBefore a j least × Before a j q.list q.index)
      → LeastWrong day h lists qs d least → LeastWrong day h lists qs (d + 1) (Some m)
  least_less d least q m lt here wrong one both was =
      record {
        below = λ e x le at before. elim (cases_lt e d) [
          | inl lt' ↦ was.below e x lt' at (both x.list x.index before).0
          | inr ge ↦ absurd (not_itself q.list q.index
              (subst (λ (y : Query). Before y.list y.index q.list q.index) (same_query e d x q (omega arith) lt at (sym here)) (both x.list x.index before).1))
        ];
        wrong = λ n is. subst (λ (y : Mismatch). AnswersAt day h lists y.list y.index → ⊥) (same_Some m n is)
            (elim one [
              | inl e ↦ subst (λ (y : Mismatch). AnswersAt day h lists y.list y.index → ⊥) (sym e) wrong
              | inr e ↦ was.wrong m e
            ]);
      }

  is_answered : (least : Option Mismatch) → AreQueries (length h) lists (length lists) 0 qs → LeastWrong day h lists qs (length qs) least
      → (a j : ℕ) (r : Receipt) → Before a j (length lists) 0 → IsBefore a j least → receipt_at lists a j ≡ Some r → Answers day h r.event r.told
  is_answered least are was a j r b before at = by_told r.told refl where
    by_told : (t : Told) → r.told ≡ t → Answers day h r.event r.told
    by_told (Accepted n reply) e = subst (Answers day h r.event) (sym e) tt
    by_told (Refused k refusal) e =
        subst (Answers day h r.event) (sym e) (λ within.
        let q : Query = record { length = k; list = a; index = j } in
        let c = are.each a j k b (ap length_in at ∙ ap refusal_length e) within in
        let ok : AnswersAt day h lists a j = was.below c.0 q c.1 c.2 before in
        let here : Answers day h r.event r.told = subst (AnswersIn day h) at ok in
        subst (Answers day h r.event) e here within)

  -- where an answer is wrong there is a receipt
  there_from : (o : Option Receipt) → (AnswersIn day h o → ⊥) → (r : Receipt) × (o ≡ Some r)
  there_from None wrong = absurd (wrong tt)
  there_from (Some r) wrong = (r, refl)

  pub all_answered : (least : Option Mismatch) → AreQueries (length h) lists (length lists) 0 qs → LeastWrong day h lists qs (length qs) least
      → MatchOption least (AnswerTo day h lists (length lists) 0) (λ m. IsFirstWrong day h lists m.list m.index)
  all_answered None are was = λ a j r b at. is_answered None are was a j r b tt at
  all_answered (Some m) are was =
      let wrong = was.wrong m refl in
      let there = there_from (receipt_at lists m.list m.index) wrong in
      let within = list_within lists m.list m.index there.0 there.1 in
      record {
        there = there;
        before = λ a j r b at. is_answered (Some m) are was a j r (before_end (length lists) a j m.list m.index within b) b at;
        breaks = λ all. wrong (subst (AnswersIn day h) (sym there.1) (all m.list m.index there.0 (before_here m.list m.index) there.1));
      }
