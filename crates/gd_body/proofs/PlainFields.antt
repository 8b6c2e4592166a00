-- Names and numbers as fields: their bytes are plain, and they are read as they are printed.
use Rattle.std.proofs.Common.{◌≡◌, ℕ, suc, ◌+◌, ◌-◌, ◌*◌, ◌^◌, ◌/◌, ◌%◌, ◌<◌, ◌≤◌, ◌==◌, not, cond, nat_lt, Bool, true, false, List, [], ◌∷◌, ◌++◌, length, Option, Some, None, Ok, Err, refl, ap, ◌∙◌, arith}
use Rattle.std.specs.Prelude.{ℤ, pos, negsuc, neg_ℤ, unsigned_abs, option_map}
use Rattle.std.specs.Char.{is_ascii_digit}
use Rattle.std.specs.Fmt.{decimal, signed_decimal}
use Rattle.std.specs.List.{position_or_len}
use Rattle.std.proofs.lemmas.Bool.Decides.{nat_tests}
use Rattle.std.proofs.lemmas.Fmt.{decimal_by_steps, decimal_nonempty, length-decimal-le}
use Rattle.std.proofs.lemmas.List.Folds.{list_all-append}
use Rattle.gd_units.specs.declared.name.NameFault.TheVariants as fault
use Rattle.gd_units.specs.Names.{is_name_byte, checked_name}
use Rattle.gd_text_part.specs.Numbers.{number_of, number_after, signed_of}
use Rattle.gd_body.proofs.Plain.{is_plain, IsPlain, IsShortField}
use Rattle.gd_body.specs.Publishable.{IsName}

-- names
no_bad : (a b : Bool) (o : Option ℕ) (x : List ℕ) → cond a (Err fault.Empty) (cond b (Err fault.TooLong) (checked_name x o)) ≡ Ok x → (a ≡ false) × (b ≡ false) × (o ≡ None)
no_bad true b o x e = cc
no_bad false true o x e = cc
no_bad false false None x e = (refl, refl, refl)
no_bad false false (Some at) x e = cc

none : (b : Bool) (n : ℕ) → cond b (Some n) None ≡ None → b ≡ false
none true n e = cc
none false n e = refl

name_byte_plain : (b : ℕ) → is_name_byte b ≡ true → is_plain b ≡ true
name_byte_plain b e = grind (arith, nat_tests)

above : (n m : ℕ) → nat_lt (1 + n) (suc m) ≡ false → nat_lt n m ≡ false
above n m e = grind (arith, nat_tests)

below : (m : ℕ) → nat_lt 0 (suc m) ≡ false → ⊥
below m e = grind (arith, nat_tests)

good_step : (g : Bool) (n m : ℕ) → nat_lt (cond (not (not g)) (1 + n) 0) (suc m) ≡ false → (g ≡ true) × (nat_lt n m ≡ false)
good_step true n m e = (refl, above n m (e))
good_step false n m e = absurd (below m e)

all_plain : (bs : List ℕ) → nat_lt (position_or_len (λ b. not (is_name_byte b)) bs) (length bs) ≡ false → IsPlain bs
all_plain [] e = refl
all_plain (b ∷ bs) e =
    let s = good_step (is_name_byte b) (position_or_len (λ b. not (is_name_byte b)) bs) (length bs) e in
    rw (name_byte_plain b s.0) (all_plain bs s.1)

pub name_plain : (bs : List ℕ) → IsName bs → IsPlain bs
name_plain bs e = all_plain bs (none _ _ (no_bad _ _ _ bs e).2)

pub name_short : (bs : List ℕ) → IsName bs → IsShortField bs
name_short bs e = let few : nat_lt 16 (length bs) ≡ false = (no_bad _ _ _ bs e).1 in grind (arith, nat_tests)

-- numbers
digit_plain : (n : ℕ) → n < 10 → is_plain (48 + n) ≡ true
digit_plain n low = grind (arith, nat_tests)

digit_is : (n : ℕ) → n < 10 → is_ascii_digit (48 + n) ≡ true
digit_is n low = grind (arith, nat_tests)

abbrev begins_with_digit : List ℕ → Bool
begins_with_digit [] = false
begins_with_digit (b ∷ bytes) = is_ascii_digit b

begins_still : (ds more : List ℕ) → begins_with_digit ds ≡ true → begins_with_digit (ds ++ more) ≡ true
begins_still [] more e = cc
begins_still (d ∷ ds) more e = e

digit_on : (n m b : ℕ) (ds : List ℕ) (d : ℕ) → number_after n (b ∷ ds) ≡ Some m → (v : Bool) → is_ascii_digit b ≡ v
    → (number_after (10 * n + (b - 48)) ds ≡ Some m → number_after (10 * n + (b - 48)) (ds ++ (48 + d) ∷ []) ≡ Some (10 * m + d))
    → number_after n ((b ∷ ds) ++ (48 + d) ∷ []) ≡ Some (10 * m + d)
unfolding number_after
digit_on n m b ds d e true digit on = rw digit (on (rw digit at e))
digit_on n m b ds d e false other on = absurd (let bad : None ≡ Some m = rw other at e in cc)

one_on : (n m : ℕ) (ds : List ℕ) (d : ℕ) → d < 10 → number_after n ds ≡ Some m → number_after n (ds ++ (48 + d) ∷ []) ≡ Some (10 * m + d)
unfolding number_after
one_on n m [] d low e =
    let same : n ≡ m = cc in
    let digit : 48 + d - 48 ≡ d = omega arith in
    rw (digit_is d low, digit, same) refl
one_on n m (b ∷ ds) d low e = digit_on n m b ds d e (is_ascii_digit b) refl (one_on (10 * n + (b - 48)) m ds d low)

record IsSpelled (n : ℕ) (ds : List ℕ) : Type 0 where
  plain : IsPlain ds
  begins : begins_with_digit ds ≡ true
  reads : number_after 0 ds ≡ Some n

spelled_one : (n : ℕ) → n < 10 → IsSpelled n ((48 + n) ∷ [])
unfolding number_after
spelled_one n low =
    let digit : 10 * 0 + (48 + n - 48) ≡ n = omega arith in
    record { plain = rw (digit_plain n low) refl; begins = digit_is n low; reads = rw (digit_is n low, digit) refl }

spelled_more : (n : ℕ) (ds : List ℕ) → 10 ≤ n → IsSpelled (n / 10) ds → IsSpelled n (ds ++ ((48 + n % 10) ∷ []))
spelled_more n ds many front =
    let low : n % 10 < 10 = omega arith in
    let whole : 10 * (n / 10) + n % 10 ≡ n = omega arith in
    record {
      plain = list_all-append is_plain ds ((48 + n % 10) ∷ []) ∙ rw (front.plain, digit_plain (n % 10) low) refl;
      begins = begins_still ds _ front.begins;
      reads = one_on 0 (n / 10) ds (n % 10) low front.reads ∙ ap Some whole;
    }

spelled : (n : ℕ) → n < 2 ^ 64 → IsSpelled n (decimal n)
spelled = decimal_by_steps IsSpelled spelled_one spelled_more

pub decimal_plain : (n : ℕ) → n < 10 ^ 18 → IsPlain (decimal n)
decimal_plain n low = (spelled n (omega arith)).plain

pub decimal_short : (n : ℕ) → n < 10 ^ 18 → IsShortField (decimal n)
decimal_short n low = let short = length-decimal-le 18 n (omega arith) low (omega arith) in grind (arith, nat_tests)

pub decimal_some : (n : ℕ) → n < 10 ^ 18 → (length (decimal n) == 0) ≡ false
decimal_some n low = let some = decimal_nonempty n (omega arith) in grind (arith, nat_tests)

pub decimal_reads : (n : ℕ) → n < 10 ^ 18 → number_of (decimal n) ≡ Some n
decimal_reads n low =
    let short = length-decimal-le 18 n (omega arith) low (omega arith) in
    let few : nat_lt 18 (length (decimal n)) ≡ false = grind (arith, nat_tests) in
    rw (decimal_some n low, few) ((spelled n (omega arith)).reads)

unsigned : (bs : List ℕ) → begins_with_digit bs ≡ true → signed_of bs ≡ option_map (λ n. pos n) (number_of bs)
unsigned [] e = cc
unsigned (b ∷ bs) e =
    let no_sign : (b == 45) ≡ false = grind (arith, nat_tests) in
    rw no_sign refl

pub signed_plain : (z : ℤ) → unsigned_abs z < 10 ^ 18 → IsPlain (signed_decimal z)
signed_plain (pos n) low = decimal_plain n low
signed_plain (negsuc n) low = decimal_plain (suc n) low

pub signed_reads : (z : ℤ) → unsigned_abs z < 10 ^ 18 → signed_of (signed_decimal z) ≡ Some z
signed_reads (pos n) low = unsigned (decimal n) ((spelled n (omega arith)).begins) ∙ ap (option_map (λ n. pos n)) (decimal_reads n low)
signed_reads (negsuc n) low = ap (option_map (λ n. neg_ℤ (pos n))) (decimal_reads (suc n) low)

some_left : (b : ℕ) (bs : List ℕ) → (length (b ∷ bs) == 0) ≡ false
some_left b bs = grind (arith, nat_tests)

pub signed_some : (z : ℤ) → unsigned_abs z < 10 ^ 18 → (length (signed_decimal z) == 0) ≡ false
signed_some (pos n) low = decimal_some n low
signed_some (negsuc n) low = some_left 45 (decimal (suc n))

signed_one : (n : ℕ) → n < 10 ^ 18 → IsShortField (45 ∷ decimal n)
signed_one n low = let short = length-decimal-le 18 n (omega arith) low (omega arith) in grind (arith, nat_tests)

pub signed_short : (z : ℤ) → unsigned_abs z < 10 ^ 18 → IsShortField (signed_decimal z)
signed_short (pos n) low = decimal_short n low
signed_short (negsuc n) low = signed_one (suc n) low
