-- What the gas days of slots came to, one after the other.
use Rattle.std.proofs.Common.{◌≡◌, ◌∙◌, ◌⊎◌, inl, inr, ◌+◌, ◌==◌, ◌&&◌, ℕ, zero, suc, Bool, true, false, List, [], ◌∷◌, ◌++◌, length, slice_get, Some, refl, sym, ap, subst}
use Rattle.std.specs.List.{list_all}
use Rattle.std.proofs.lemmas.Option.{same_Some}
use Rattle.std.proofs.lemmas.List.{length-append}
use Rattle.std.proofs.lemmas.List.Folds.{list_all-append}
use Rattle.gd_machine.specs.Day.{Day}
use Rattle.gd_machine.specs.History.{History}
use Rattle.gd_replies.specs.declared.reply.Reply.{Reply}
use Rattle.gd_rounds.specs.Summaries.{is_in_order, refused}
use Rattle.gd_rounds.specs.declared.summary.Summary.{Summary}
use Rattle.gasday_office.specs.Offices.{IsEnd, IsOrder, day_summary}

and_true : (a : Bool) → a ≡ (a && true)
and_true true = refl
and_true false = refl

-- what holds of more, one by one
and_more : (a b c : Bool) → ((a && b) && c) ≡ (a && (b && (c && true)))
and_more true true true = refl
and_more true true false = refl
and_more true false c = refl
and_more false b c = refl

-- what stands in a list that has one more, stood there, or is that
at_end : {X : Type 0} (xs : List X) (x y : X) (k : ℕ) → slice_get (xs ++ x ∷ []) k ≡ Some y → (slice_get xs k ≡ Some y) ⊎ ((k ≡ length xs) × (x ≡ y))
at_end [] x y zero is = inr (refl, same_Some x y is)
at_end [] x y (suc k) is = cc
at_end (z ∷ xs) x y zero is = inl is
at_end (z ∷ xs) x y (suc k) is = elim (at_end xs x y k is) [
  | inl there ↦ inl there
  | inr end ↦ inr (ap suc end.0, end.1)
]

-- no slot yet: it goes by the rows alone
pub none_yet : (days : List Day) (rows : List Reply) → IsOrder days 0 rows (refused rows == 0)
none_yet days rows = record { ends = []; count = refl; own = λ k p at. cc; is = and_true (refused rows == 0) }

-- one slot more
pub one_more : (days : List Day) (n : ℕ) (rows : List Reply) (good : Bool) (p : Day × History) (s : Summary) → IsOrder days n rows good → IsEnd days (n + 1) p
    → s ≡ day_summary p → IsOrder days (n + 1) rows (good && is_in_order s)
one_more days n rows good p s sofar end is = record {
  ends = sofar.ends ++ p ∷ [];
  count = length-append sofar.ends (p ∷ []) ∙ ap (λ (k : ℕ). k + 1) sofar.count;
  own = λ k q at. elim (at_end sofar.ends p q k at) [
    | inl there ↦ sofar.own k q there
    | inr last ↦ subst (IsEnd days (k + 1)) last.1 (subst (λ (i : ℕ). IsEnd days (i + 1) p) (sym (last.0 ∙ sofar.count)) end)
  ];
  is =
      ap (λ (b : Bool). b && is_in_order s) sofar.is
      ∙ ap (λ (t : Summary). ((refused rows == 0) && list_all (λ r. is_in_order (day_summary r)) sofar.ends) && is_in_order t) is
      ∙ and_more (refused rows == 0) (list_all (λ r. is_in_order (day_summary r)) sofar.ends) (is_in_order (day_summary p))
      ∙ ap (λ (b : Bool). (refused rows == 0) && b) (sym (list_all-append (λ (r : Day × History). is_in_order (day_summary r)) sofar.ends (p ∷ [])));
}
