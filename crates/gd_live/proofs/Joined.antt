-- The records of bytes as one walk along them.
use Rattle.std.proofs.Common.{◌≡◌, ℕ, zero, suc, ◌+◌, ◌≤◌, Bool, true, false, List, [], ◌∷◌, ◌++◌, length, Some, None, append-nil, refl, sym, ap, ◌∙◌, if◌then◌else◌, arith}
use Rattle.std.proofs.lemmas.List.{append_assoc}
use Rattle.csv.specs.Machine.{step, is_end, fields_after, field_after, next_record, ends_at_end}
use Rattle.csv.specs.Reading.{default_config, records, records_from, records_next}
use Rattle.csv.specs.declared.parser.Config.{Config}
use Rattle.csv.specs.declared.parser.State.{State}
use Rattle.csv.specs.declared.parser.State.TheVariants as st
use Rattle.gd_live.specs.TextLines.{Left, left_by, IsClosed}

abbrev cfg : Config
cfg = default_config

-- the records that end within the bytes
abbrev pub ended_in : State → List (List ℕ) → List ℕ → List ℕ → List (List (List ℕ))
ended_in s fields field [] = []
ended_in s fields field (c ∷ bytes) =
    if is_end (step cfg s c).1 then fields_after (step cfg s c).1 fields field ∷ ended_in (step cfg s c).0 [] [] bytes
    else ended_in (step cfg s c).0 (fields_after (step cfg s c).1 fields field) (field_after (step cfg s c).1 c field) bytes

-- the record that the end of the text ends
abbrev pub at_end : Left → List (List (List ℕ))
at_end l = if ends_at_end l.0 then (l.1 ++ l.2 ∷ []) ∷ [] else []

walk_at : (s : State) (fields : List (List ℕ)) (field : List ℕ) (c : ℕ) (bytes : List ℕ) (n : ℕ) → (b : Bool)
    → ((m : ℕ) → n ≡ suc m → records_from cfg n (step cfg s c).0 bytes ≡ ended_in (step cfg s c).0 [] [] bytes ++ at_end (left_by (step cfg s c).0 [] [] bytes))
    → records_next (records_from cfg n) (next_record cfg (step cfg s c).0 (fields_after (step cfg s c).1 fields field) (field_after (step cfg s c).1 c field) bytes)
    ≡ ended_in (step cfg s c).0 (fields_after (step cfg s c).1 fields field) (field_after (step cfg s c).1 c field) bytes ++ at_end (left_by (step cfg s c).0 (fields_after (step cfg s c).1 fields field) (field_after (step cfg s c).1 c field) bytes)
    → 1 ≤ n
    → records_next (records_from cfg n) (if b then Some (fields_after (step cfg s c).1 fields field, (step cfg s c).0, bytes) else next_record cfg (step cfg s c).0 (fields_after (step cfg s c).1 fields field) (field_after (step cfg s c).1 c field) bytes)
    ≡ (if b then fields_after (step cfg s c).1 fields field ∷ ended_in (step cfg s c).0 [] [] bytes else ended_in (step cfg s c).0 (fields_after (step cfg s c).1 fields field) (field_after (step cfg s c).1 c field) bytes)
    ++ at_end (if b then left_by (step cfg s c).0 [] [] bytes else left_by (step cfg s c).0 (fields_after (step cfg s c).1 fields field) (field_after (step cfg s c).1 c field) bytes)
walk_at s fields field c bytes zero true ended on low = absurd (omega (arith, low))
walk_at s fields field c bytes (suc m) true ended on low = ap (λ l. fields_after (step cfg s c).1 fields field ∷ l) (ended m refl)
walk_at s fields field c bytes n false ended on low = on

none_left : (n : ℕ) → records_from cfg n st.StartRecord [] ≡ []
unfolding records_from next_record
none_left zero = refl
none_left (suc n) = refl

ends : (n : ℕ) (s : State) (fields : List (List ℕ)) (field : List ℕ) → (b : Bool)
    → records_next (records_from cfg n) (if b then Some (fields ++ (field ∷ []), st.StartRecord, []) else None) ≡ (if b then (fields ++ field ∷ []) ∷ [] else [])
ends n s fields field true = ap (λ l. (fields ++ field ∷ []) ∷ l) (none_left n)
ends n s fields field false = refl

pub walk : (s : State) (fields : List (List ℕ)) (field bytes : List ℕ) (n : ℕ) → length bytes ≤ n
    → records_next (records_from cfg n) (next_record cfg s fields field bytes) ≡ ended_in s fields field bytes ++ at_end (left_by s fields field bytes)
unfolding records_from next_record
walk s fields field [] n low = ends n s fields field (ends_at_end s)
walk s fields field (c ∷ bytes) n low =
    walk_at s fields field c bytes n (is_end (step cfg s c).1)
    (λ m e. rw e (walk (step cfg s c).0 [] [] bytes m (omega (arith, low, e))))
    (walk (step cfg s c).0 (fields_after (step cfg s c).1 fields field) (field_after (step cfg s c).1 c field) bytes n (omega (arith, low)))
    (omega (arith, low))

-- bytes behind bytes
chosen_left : (ys : List ℕ) (b : Bool) (a1 b1 a2 b2 : Left) → a1 ≡ left_by a2.0 a2.1 a2.2 ys → b1 ≡ left_by b2.0 b2.1 b2.2 ys
    → (if b then a1 else b1) ≡ left_by (if b then a2 else b2).0 (if b then a2 else b2).1 (if b then a2 else b2).2 ys
chosen_left ys true a1 b1 a2 b2 p q = p
chosen_left ys false a1 b1 a2 b2 p q = q

pub left_append : (s : State) (fields : List (List ℕ)) (field xs ys : List ℕ)
    → left_by s fields field (xs ++ ys) ≡ left_by (left_by s fields field xs).0 (left_by s fields field xs).1 (left_by s fields field xs).2 ys
left_append s fields field [] ys = refl
left_append s fields field (c ∷ xs) ys =
    chosen_left ys (is_end (step cfg s c).1) _ _ _ _ (left_append (step cfg s c).0 [] [] xs ys)
    (left_append (step cfg s c).0 (fields_after (step cfg s c).1 fields field) (field_after (step cfg s c).1 c field) xs ys)

chosen_ended : (ys : List ℕ) (b : Bool) (r : List (List ℕ)) (a1 b1 a2 b2 : List (List (List ℕ))) (l m : Left) → a1 ≡ a2 ++ ended_in l.0 l.1 l.2 ys → b1 ≡ b2 ++ ended_in m.0 m.1 m.2 ys
    → (if b then r ∷ a1 else b1) ≡ (if b then r ∷ a2 else b2) ++ ended_in (if b then l else m).0 (if b then l else m).1 (if b then l else m).2 ys
chosen_ended ys true r a1 b1 a2 b2 l m p q = ap (λ l. r ∷ l) p
chosen_ended ys false r a1 b1 a2 b2 l m p q = q

pub ended_append : (s : State) (fields : List (List ℕ)) (field xs ys : List ℕ)
    → ended_in s fields field (xs ++ ys) ≡ ended_in s fields field xs ++ ended_in (left_by s fields field xs).0 (left_by s fields field xs).1 (left_by s fields field xs).2 ys
ended_append s fields field [] ys = refl
ended_append s fields field (c ∷ xs) ys =
    chosen_ended ys (is_end (step cfg s c).1) (fields_after (step cfg s c).1 fields field) _ _ _ _ (left_by (step cfg s c).0 [] [] xs)
    (left_by (step cfg s c).0 (fields_after (step cfg s c).1 fields field) (field_after (step cfg s c).1 c field) xs) (ended_append (step cfg s c).0 [] [] xs ys)
    (ended_append (step cfg s c).0 (fields_after (step cfg s c).1 fields field) (field_after (step cfg s c).1 c field) xs ys)

pub all_of : (text : List ℕ) → records cfg text ≡ ended_in st.StartRecord [] [] text ++ at_end (left_by st.StartRecord [] [] text)
unfolding records_from
all_of text =
    let len : length text + 1 ≡ suc (length text) = omega arith in
    ap (λ n. records_from cfg n st.StartRecord text) len ∙ walk st.StartRecord [] [] text (length text) (omega arith)

pub joins : (text more : List ℕ) → IsClosed text → records cfg (text ++ more) ≡ records cfg text ++ records cfg more
joins text more closed =
    let front = ended_in st.StartRecord [] [] text in
    let alone : records cfg text ≡ front = all_of text ∙ ap (λ (l : Left). front ++ at_end l) closed ∙ append-nil front in
    let split : ended_in st.StartRecord [] [] (text ++ more) ≡ front ++ ended_in st.StartRecord [] [] more =
    ended_append st.StartRecord [] [] text more ∙ ap (λ (l : Left). front ++ ended_in l.0 l.1 l.2 more) closed in
    let left : left_by st.StartRecord [] [] (text ++ more) ≡ left_by st.StartRecord [] [] more = left_append st.StartRecord [] [] text more ∙ ap (λ (l : Left). left_by l.0 l.1 l.2 more) closed in
    all_of (text ++ more) ∙ ap (λ l. l ++ at_end (left_by st.StartRecord [] [] (text ++ more))) split
    ∙ ap (λ (l : Left). (front ++ ended_in st.StartRecord [] [] more) ++ at_end l) left
    ∙ append_assoc front (ended_in st.StartRecord [] [] more) (at_end (left_by st.StartRecord [] [] more))
    ∙ ap (λ l. front ++ l) (sym (all_of more)) ∙ ap (λ l. l ++ records cfg more) (sym alone)
