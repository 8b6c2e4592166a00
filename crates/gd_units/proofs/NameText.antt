-- A name's bytes are text.
use Rattle.std.proofs.Common.{◌≡◌, ℕ, zero, suc, ◌+◌, ◌<◌, nat_lt, not, cond, Bool, true, false, List, [], ◌∷◌, length, get_or, Option, Some, None, Ok, Err, arith, refl}
use Rattle.std.specs.List.{position_or_len}
use Rattle.std.specs.Str.{IsUtf8}
use Rattle.std.proofs.lemmas.Bool.Decides.{nat_tests}
use Rattle.std.proofs.lemmas.Str.{IsUtf8-from_ascii}
use Rattle.gd_units.specs.declared.name.NameFault.TheVariants as fault
use Rattle.gd_units.specs.Names.{is_name_byte, checked_name, name_of}

no_bad : (a b : Bool) (o : Option ℕ) (x : List ℕ) → cond a (Err fault.Empty) (cond b (Err fault.TooLong) (checked_name x o)) ≡ Ok x → o ≡ None
no_bad true b o x e = cc
no_bad false true o x e = cc
no_bad false false None x e = refl
no_bad false false (Some at) x e = cc

none : (b : Bool) (n : ℕ) → cond b (Some n) None ≡ None → b ≡ false
none true n e = cc
none false n e = refl

small : (b : ℕ) → is_name_byte b ≡ true → b < 128
small b e = grind (arith, nat_tests)

above : (n m : ℕ) → nat_lt (1 + n) (suc m) ≡ false → nat_lt n m ≡ false
above n m e = grind (arith, nat_tests)

below : (m : ℕ) → nat_lt 0 (suc m) ≡ false → ⊥
below m e = grind (arith, nat_tests)

good_step : (g : Bool) (n m : ℕ) → nat_lt (cond (not (not g)) (1 + n) 0) (suc m) ≡ false → (g ≡ true) × (nat_lt n m ≡ false)
good_step true n m e = (refl, above n m (e))
good_step false n m e = absurd (below m e)

good_so : (b : ℕ) (bs : List ℕ) → nat_lt (position_or_len (λ b. not (is_name_byte b)) (b ∷ bs)) (length (b ∷ bs)) ≡ false
    → (is_name_byte b ≡ true) × (nat_lt (position_or_len (λ b. not (is_name_byte b)) bs) (length bs) ≡ false)
good_so b bs e = good_step (is_name_byte b) (position_or_len (λ b. not (is_name_byte b)) bs) (length bs) e

ascii : (bs : List ℕ) → nat_lt (position_or_len (λ b. not (is_name_byte b)) bs) (length bs) ≡ false → (i : ℕ) → get_or bs i 0 < 128
ascii [] e i = omega arith
ascii (b ∷ bs) e zero = small b (good_so b bs e).0
ascii (b ∷ bs) e (suc i) = ascii bs (good_so b bs e).1 i

pub name_is_text : (bs : List ℕ) → name_of bs ≡ Ok bs → IsUtf8 bs
name_is_text bs e = IsUtf8-from_ascii bs (ascii bs (none _ _ (no_bad _ _ _ bs e)))
