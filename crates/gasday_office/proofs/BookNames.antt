-- What a block says, by whether its book is there already.
use Rattle.std.specs.Prelude.{◌⊎◌, Some, None, Option, if◌then◌else◌}
use Rattle.std.proofs.Common.{◌≡◌, ℕ, Bool, true, false, List, ap, ◌∙◌, Result, Ok, Err, inl, inr, sym}
use Rattle.gd_text_part.specs.Rows.{◌>>=◌}
use Rattle.gd_text_part.specs.declared.fault.TextFault.{TextFault}
use Rattle.gd_text_part.specs.declared.fault.TextFault.TheVariants as fault
use Rattle.gd_text_part.specs.declared.row.Row.{Row}
use Rattle.gd_text.specs.Building.{result_as}
use Rattle.gd_day.specs.Opening.{Opened, opened_of}
use Rattle.gasday_office.specs.Days.{is_taken, opened_under, repeated, block_fault}

pub no_head : (days : List Opened) (rows : List Row) (o : Option (ℕ × List ℕ)) → o ≡ None → opened_under days rows o ≡ opened_of rows
no_head days rows o e = ap (opened_under days rows) e

pick : {X : Type 0} (b c : Bool) (x y : X) → b ≡ c → (if b then x else y) ≡ (if c then x else y)
pick b c x y e = ap (λ d. if d then x else y) e

pub is_new : (days : List Opened) (rows : List Row) (o : Option (ℕ × List ℕ)) (n : ℕ) (book : List ℕ) → o ≡ Some (n, book) → is_taken days book ≡ false → opened_under days rows o ≡ opened_of rows
is_new days rows o n book e b = ap (opened_under days rows) e ∙ pick (is_taken days book) false (repeated n rows) (opened_of rows) b

pub is_old : (days : List Opened) (rows : List Row) (o : Option (ℕ × List ℕ)) (n : ℕ) (book : List ℕ) → o ≡ Some (n, book) → is_taken days book ≡ true → opened_under days rows o ≡ repeated n rows
is_old days rows o n book e b = ap (opened_under days rows) e ∙ pick (is_taken days book) true (repeated n rows) (opened_of rows) b

-- a refusal of a block is told as one of the text
pub is_told : (last before : ℕ) (f t : TextFault) (o : Result Opened TextFault) → (f ≡ fault.OutOfMemory) ⊎ (o ≡ Err f) → (t ≡ fault.OutOfMemory) ⊎ (t ≡ block_fault last before f)
    → (t ≡ fault.OutOfMemory) ⊎ (result_as (block_fault last before) o ≡ Err t)
is_told last before f t o h (inl m) = inl m
is_told last before f t o (inl m) (inr e) = inl (e ∙ ap (block_fault last before) m)
is_told last before f t o (inr g) (inr e) = inr (rw e (ap (result_as (block_fault last before)) g))

-- one block more, which is refused or not
pub stops : {X Y : Type 0} (f : TextFault) (part : Result X TextFault) (whole : Result Y TextFault) (rest : X → Result Y TextFault) → (part >>= rest) ≡ whole
    → (f ≡ fault.OutOfMemory) ⊎ (part ≡ Err f) → (f ≡ fault.OutOfMemory) ⊎ (whole ≡ Err f)
stops f part whole rest e (inl m) = inl m
stops {X = X} f part whole rest e (inr g) = inr (sym e ∙ ap (λ (o : Result X TextFault). o >>= rest) g)

pub goes_on : {X Y : Type 0} (x : X) (part : Result X TextFault) (whole : Result Y TextFault) (rest : X → Result Y TextFault) → (part >>= rest) ≡ whole
    → part ≡ Ok x → rest x ≡ whole
goes_on {X = X} x part whole rest e g = sym (ap (λ (o : Result X TextFault). o >>= rest) g) ∙ e
