-- What holds of two lists place by place, and places that are within a list.
use Rattle.std.proofs.Common.{zero, suc, IsSomeAnd, arith, ◌≡◌, ◌∙◌, ℕ, ◌+◌, ◌<◌, List, [], ◌∷◌, ◌++◌, length, map, take, get_or, slice_get, Some, sym, ap}
use Rattle.std.specs.List.{AllZip}
use Rattle.std.proofs.lemmas.List.{take_more}
use Rattle.std.proofs.lemmas.Option.{slice_get-get_or}
use Rattle.std.proofs.lemmas.Slice.Zip.{AllZip-right}
use Rattle.gd_office_part.specs.declared.threads.SessionRows.{SessionRows}
use Rattle.gd_office_part.specs.Seen.{Session, Slot}
use Rattle.gd_office_part.specs.Sending.{IsAtSlot, IsOfSlot, start_of}

push : {A B : Type 0} (R : A → B → Type 0) (xs : List A) (ys : List B) (x : A) (y : B) → AllZip R xs ys → R x y → AllZip R (xs ++ x ∷ []) (ys ++ y ∷ [])
push R [] [] x y all here = (here, tt)
push R [] (b ∷ ys) x y all here = absurd all
push R (a ∷ xs) [] x y all here = absurd all
push R (a ∷ xs) (b ∷ ys) x y all here = (all.0, push R xs ys x y all.1 here)

-- one place more
pub all_more : {A B : Type 0} (R : A → B → Type 0) (xs : List A) (ys : List B) (at : ℕ) (x : A) (y : B) → at < length xs → at < length ys
    → x ≡ get_or xs at x → y ≡ get_or ys at y → AllZip R (take at xs) (take at ys) → R x y → AllZip R (take (at + 1) xs) (take (at + 1) ys)
all_more {A = A} {B = B} R xs ys at x y within inside is_x is_y before here =
    let left : take (at + 1) xs ≡ take at xs ++ x ∷ [] =
    take_more xs at x within ∙ ap (λ (z : A). take at xs ++ z ∷ []) (sym is_x) in
    let right : take (at + 1) ys ≡ take at ys ++ y ∷ [] =
    take_more ys at y inside ∙ ap (λ (z : B). take at ys ++ z ∷ []) (sym is_y) in
    rw left (rw right (push R (take at xs) (take at ys) x y before here))

-- what holds at each place holds at this one
pub all_at : {A B : Type 0} (R : A → B → Type 0) (xs : List A) (ys : List B) (at : ℕ) (x : A) (y : B) → at < length xs → at < length ys
    → x ≡ get_or xs at x → y ≡ get_or ys at y → AllZip R xs ys → R x y
all_at {A = A} {B = B} R xs ys at x y within inside is_x is_y all =
    let left : slice_get xs at ≡ Some x = slice_get-get_or xs at x within ∙ ap (λ (z : A). Some z) (sym is_x) in
    let right : slice_get ys at ≡ Some y = slice_get-get_or ys at y inside ∙ ap (λ (z : B). Some z) (sym is_y) in
    rw left at (rw right at (AllZip-right R xs ys all at))

-- what stands at a place is within the list
within : {A : Type 0} (P : A → Type 0) (xs : List A) (at : ℕ) → IsSomeAnd (slice_get xs at) P → at < length xs
within P [] at here = absurd here
within P (x ∷ xs) zero here = omega arith
within P (x ∷ xs) (suc at) here =
    let rest = within P xs at here in
    omega (arith, rest)

-- where the slot at a place has a number, there is one
pub slot_there : (slots : List Slot) (number : ℕ) (row : SessionRows) → IsAtSlot slots number row → row.slot < length slots
slot_there slots number row here = within (λ (slot : Slot). slot.number ≡ number) slots row.slot here

-- and it has that number
pub slot_numbered : (slots : List Slot) (number : ℕ) (row : SessionRows) (slot : Slot) → slot ≡ get_or slots row.slot slot → IsAtSlot slots number row → slot.number ≡ number
slot_numbered slots number row slot is here =
    let there : slice_get slots row.slot ≡ Some slot =
    slice_get-get_or slots row.slot slot (slot_there slots number row here) ∙ ap (λ (z : Slot). Some z) (sym is) in
    rw there at here

-- what threads are told of sessions, each of which is of the slot at its place
pub starts_placed : (slots : List Slot) (sessions : List Session) (rows : List SessionRows) → AllZip (IsOfSlot slots) sessions rows
    → AllZip (λ start row. IsAtSlot slots start.slot row) (map start_of sessions) rows
starts_placed slots [] [] all = tt
starts_placed slots [] (row ∷ rows) all = absurd all
starts_placed slots (session ∷ sessions) [] all = absurd all
starts_placed slots (session ∷ sessions) (row ∷ rows) all = (all.0, starts_placed slots sessions rows all.1)
