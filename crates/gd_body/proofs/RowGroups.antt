-- Lists of rows that say what others are.
use Rattle.std.proofs.Common.{ℕ, zero, suc, ◌+◌, ◌<◌, Bool, List, [], ◌∷◌, ◌++◌, map, All, arith}
use Rattle.std.specs.List.{AllZip, AllByRecursion, flat_map, range_with_len}
use Rattle.std.proofs.lemmas.List.Elements.{All-head, All-tail}
use Rattle.gd_text_part.specs.declared.row.Row.{Row}
use Rattle.gd_body.proofs.Plain.{IsPlainRow}
use Rattle.gd_body.specs.Rows.{Fields, whole}
use Rattle.gd_body.proofs.RowsStand.{Says}

-- lists whose items stand in a relation, one by one
module _ {A B : Type 0} (R : A → B → Type 0) where
  pub zips_append : (xs ys : List A) (bs bs2 : List B) → AllZip R xs bs → AllZip R ys bs2 → AllZip R (xs ++ ys) (bs ++ bs2)
  zips_append [] ys [] bs2 one two = two
  zips_append [] ys (b ∷ bs) bs2 one two = absurd one
  zips_append (a ∷ xs) ys [] bs2 one two = absurd one
  zips_append (a ∷ xs) ys (b ∷ bs) bs2 one two = (one.0, zips_append xs ys bs bs2 one.1 two)

  pub zips_range : (f : ℕ → A) (g : ℕ → B) (n from : ℕ) → ((e : ℕ) → e < from + n → R (f e) (g e)) → AllZip R (map f (range_with_len from n)) (map g (range_with_len from n))
  zips_range f g zero from h = tt
  zips_range f g (suc n) from h = (h from (omega arith), zips_range f g n (from + 1) (λ e low. h e (omega (arith, low))))

  pub zips_ranges : (f : ℕ → List A) (g : ℕ → List B) (n from : ℕ) → ((e : ℕ) → e < from + n → AllZip R (f e) (g e)) → AllZip R (flat_map f (range_with_len from n)) (flat_map g (range_with_len from n))
  zips_ranges f g zero from h = tt
  zips_ranges f g (suc n) from h =
      zips_append (f from) (flat_map f (range_with_len (from + 1) n)) (g from) (flat_map g (range_with_len (from + 1) n)) (h from (omega arith)) (zips_ranges f g n (from + 1) (λ e low. h e (omega (arith, low))))

  pub zips_map : {X : Type 0} (P : X → Type 0) (f : X → A) (g : X → B) → ((x : X) → P x → R (f x) (g x)) → (xs : List X) → All P xs → AllZip R (map f xs) (map g xs)
  zips_map P f g h [] all = tt
  zips_map P f g h (x ∷ zs) all = (h x (All-head P x zs all), zips_map P f g h zs (All-tail P x zs all))

pub plain_rows : (headed : Bool) (stage : ℕ) (fields : List Fields) (said : List Row) → AllZip (Says headed stage) fields said → AllByRecursion (λ r. IsPlainRow (whole r)) fields
plain_rows headed stage [] said all = tt
plain_rows headed stage (f ∷ fields) [] all = absurd all
plain_rows headed stage (f ∷ fields) (r ∷ said) all = (all.0.plain, plain_rows headed stage fields said all.1)

pub plain_append : (a b : List Fields) → AllByRecursion (λ r. IsPlainRow (whole r)) a → AllByRecursion (λ r. IsPlainRow (whole r)) b → AllByRecursion (λ r. IsPlainRow (whole r)) (a ++ b)
plain_append [] b one two = two
plain_append (r ∷ a) b one two = (one.0, plain_append a b one.1 two)
