-- The records that a reader gives one after the other are all the records of the text.
use Rattle.std.proofs.Common.{add-one, ◌≡◌, ◌⊎◌, inl, inr, ℕ, zero, suc, ◌+◌, ◌≤◌, ◌<◌, List, [], ◌∷◌, ◌++◌, length, Option, Some, None, Bool, true, false, cond, refl, sym, ap, ◌∙◌, arith}
use Rattle.std.proofs.Common.{subst}
use Rattle.std.proofs.lemmas.Option.{same_Some, cond_some, none-some}
use Rattle.csv.specs.Machine.{Read, next_record, step, is_end, ends_at_end, fields_after, field_after}
use Rattle.csv.specs.Reading.{Reached, records_from}
use Rattle.csv.specs.declared.parser.Config.{Config}
use Rattle.csv.specs.declared.parser.State.{State}
use Rattle.csv.specs.declared.parser.State.TheVariants as st

split : (b : Bool) (q : Read) (o : Option Read) (p : Read) (n : ℕ) → length q.2 ≤ n → (o ≡ Some p → length p.2 ≤ n) → cond b (Some q) o ≡ Some p → length p.2 ≤ n
split true q o p n short more e =
    let same = ap (λ (r : Read). length r.2) (same_Some q p e) in
    omega (arith, same)
split false q o p n short more e = more e

-- a record leaves no more than there was
takes_more : (cfg : Config) (s : State) (fields : List (List ℕ)) (field : List ℕ) (xs : List ℕ) (p : Read)
    → next_record cfg s fields field xs ≡ Some p → length p.2 ≤ length xs
unfolding next_record
takes_more cfg s fields field [] p e =
    let same = ap (λ (r : Read). length r.2) ((cond_some (ends_at_end s) (fields ++ (field ∷ []), st.StartRecord, []) p e).1) in
    omega (arith, same)
takes_more cfg s fields field (c ∷ rest) p e =
    let le : length rest ≤ length rest = omega arith in
    let short = split (is_end (step cfg s c).1) (fields_after (step cfg s c).1 fields field, (step cfg s c).0, rest)
    (next_record cfg (step cfg s c).0 (fields_after (step cfg s c).1 fields field) (field_after (step cfg s c).1 c field) rest) p (length rest) le
    (takes_more cfg (step cfg s c).0 (fields_after (step cfg s c).1 fields field) (field_after (step cfg s c).1 c field) rest p) e in
    omega (arith, short)

-- of a text that isn't empty, a record takes something
takes_one : (cfg : Config) (s : State) (fields : List (List ℕ)) (field : List ℕ) (c : ℕ) (rest : List ℕ) (p : Read)
    → next_record cfg s fields field (c ∷ rest) ≡ Some p → length p.2 ≤ length rest
unfolding next_record
takes_one cfg s fields field c rest p e =
    let le : length rest ≤ length rest = omega arith in
    split (is_end (step cfg s c).1) (fields_after (step cfg s c).1 fields field, (step cfg s c).0, rest)
    (next_record cfg (step cfg s c).0 (fields_after (step cfg s c).1 fields field) (field_after (step cfg s c).1 c field) rest) p (length rest) le
    (takes_more cfg (step cfg s c).0 (fields_after (step cfg s c).1 fields field) (field_after (step cfg s c).1 c field) rest p) e

-- n turns are enough for the records from here on
abbrev pub Enough : Config → ℕ → State → List ℕ → Type 0
Enough cfg n s xs = (length xs < n) ⊎ (next_record cfg s [] [] xs ≡ None)

-- behind the end of a text there is nothing
ends : (cfg : Config) (s : State) (p : Read) → next_record cfg s [] [] [] ≡ Some p → next_record cfg p.1 [] [] p.2 ≡ None
unfolding next_record
ends cfg s p e =
    let same = (cond_some (ends_at_end s) ([] ∷ [], st.StartRecord, []) p e).1 in
    let P : Read → Type 0 = λ r. next_record cfg r.1 [] [] r.2 ≡ None in
    subst P same refl

after_one : (cfg : Config) (n : ℕ) (s : State) (xs : List ℕ) (p : Read) → length xs < suc n → next_record cfg s [] [] xs ≡ Some p → Enough cfg n p.1 p.2
after_one cfg n s [] p lt e = inr (ends cfg s p e)
after_one cfg n s (c ∷ rest) p lt e =
    let short = takes_one cfg s [] [] c rest p e in
    inl (omega (arith, short))

-- the same, where there may be none
after_some : (cfg : Config) (n : ℕ) (s : State) (xs : List ℕ) (p : Read) → Enough cfg (suc n) s xs → next_record cfg s [] [] xs ≡ Some p → Enough cfg n p.1 p.2
after_some cfg n s xs p (inl lt) e = after_one cfg n s xs p lt e
after_some cfg n s xs p (inr none) e = absurd (none-some p (sym none ∙ e))

nothing_more : (cfg : Config) (n : ℕ) (s : State) (xs : List ℕ) → next_record cfg s [] [] xs ≡ None → records_from cfg n s xs ≡ []
unfolding records_from
nothing_more cfg zero s xs e = refl
nothing_more cfg (suc n) s xs e = rw e refl

-- the records do not depend on the number of turns, where the turns are enough
same_records : (cfg : Config) (n m : ℕ) (s : State) (xs : List ℕ) → Enough cfg n s xs → Enough cfg m s xs → records_from cfg n s xs ≡ records_from cfg m s xs
unfolding records_from
same_records cfg zero m s xs (inl lt) enough = absurd (omega arith)
same_records cfg zero m s xs (inr none) enough = sym (nothing_more cfg m s xs none)
same_records cfg (suc n) zero s xs enough (inl lt) = absurd (omega arith)
same_records cfg (suc n) zero s xs enough (inr none) = nothing_more cfg (suc n) s xs none
same_records cfg (suc n) (suc m) s xs first second = by (next_record cfg s [] [] xs) refl (same_records cfg n m)
  where
    by : (o : Option Read) → next_record cfg s [] [] xs ≡ o
        → ((s2 : State) (ys : List ℕ) → Enough cfg n s2 ys → Enough cfg m s2 ys → records_from cfg n s2 ys ≡ records_from cfg m s2 ys)
        → records_from cfg (suc n) s xs ≡ records_from cfg (suc m) s xs
    by None e more = rw e refl
    by (Some p) e more = rw e (ap (λ (rs : List (List (List ℕ))). p.0 ∷ rs) (more p.1 p.2 (after_some cfg n s xs p first e) (after_some cfg m s xs p second e)))

-- a record that was read is the first of those that were left
pub first_of_left : (cfg : Config) (s : State) (xs : List ℕ) (f : List (List ℕ)) (s2 : State) (ys : List ℕ) → Reached cfg s xs (f ∷ []) s2 ys
    → records_from cfg (length xs + 1) s xs ≡ f ∷ records_from cfg (length ys + 1) s2 ys
unfolding Reached records_from
first_of_left cfg s xs f s2 ys h =
    let lt : length xs < suc (length xs) = omega arith in
    let rest : length h.0.2 < length h.0.2 + 1 = omega arith in
    let same = same_records cfg (length xs) (length h.0.2 + 1) h.0.1 h.0.2 (after_one cfg (length xs) s xs h.0 lt h.1) (inl rest) in
    rw (add-one (length xs)) (rw h.1 (ap (λ (rs : List (List (List ℕ))). h.0.0 ∷ rs) same ∙ rw (h.2, h.3.0, h.3.1) refl))

pub none_left : (cfg : Config) (s : State) (xs : List ℕ) → next_record cfg s [] [] xs ≡ None → records_from cfg (length xs + 1) s xs ≡ []
none_left cfg s xs e = nothing_more cfg (length xs + 1) s xs e
