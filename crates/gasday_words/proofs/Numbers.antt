-- The words that name numbers.
use Rattle.std.proofs.Common.{◌≡◌, ◌==◌, ◌∙◌, ◌<◌, ◌≤◌, ◌^◌, ℕ, Bool, true, false, [], ◌∷◌, List, Option, Some, None, ap, subst, sym, drop, cond, refl, arith}
use Rattle.std.proofs.lemmas.Bool.{eqb-true}
use Rattle.std.specs.Prelude.{if◌then◌else◌}
use Rattle.std.specs.Char.{digit_value}
use Rattle.std.specs.Fmt.{decimal}
use Rattle.std.specs.Str.Parse.{IsNumeral, digits_value, without_leading_plus}
use Rattle.std.proofs.lemmas.Fmt.{decimal_is_IsNumeral}
use Rattle.clap.specs.Values.{Accepts}
use Rattle.clap.specs.declared.builder.value_parser.ValueParser.TheVariants as vp
use Rattle.clap.proofs.ValueTestLemmas.{Accepts-accepts, accepts-Accepts}
use Rattle.gasday_words.specs.Meaning.{most_number, number_named}
use Rattle.gasday_words.proofs.Plain.{IsPlain, begins_otherwise}

-- the word is a number that a word may name
abbrev IsNumber : List ℕ → Type 0
IsNumber word = Accepts false (vp.Unsigned 1 most_number) word

-- what it is read as, where clap's test of such a number passes
abbrev read : List ℕ → Bool → Option ℕ
read word passes = if passes then Some (digits_value 10 (without_leading_plus word)) else None

number_of : (word : List ℕ) → IsNumber word → number_named word ≡ Some (digits_value 10 (without_leading_plus word))
number_of word is = ap (read word) (Accepts-accepts false (vp.Unsigned 1 most_number) word is)

failed : (b : Bool) → ¬ (b ≡ true) → b ≡ false
failed false isnt = refl
failed true isnt = absurd (isnt refl)

no_number_of : (word : List ℕ) → ¬ (IsNumber word) → None ≡ number_named word
no_number_of word isnt = sym (ap (read word) (failed _ (λ passes. isnt (accepts-Accepts false (vp.Unsigned 1 most_number) word passes))))

-- the word is a number that `parse` reads, in a type which is wide enough for each of these
abbrev IsRead : List ℕ → Type 0
IsRead word = IsNumeral 10 (without_leading_plus word) × (digits_value 10 (without_leading_plus word) < 2 ^ 32)

-- the number that is read from a word, where a word may name it
pub read_number : (word : List ℕ) (n : ℕ) → IsRead word × (n ≡ digits_value 10 (without_leading_plus word)) → 1 ≤ n → n ≤ most_number → Some n ≡ number_named word
read_number word n is low high =
    let wide : digits_value 10 (without_leading_plus word) < 2 ^ 64 = omega arith in
    ap (λ (k : ℕ). Some k) is.1 ∙ sym (number_of word (is.0.0, wide, rw (← is.1) low, rw (← is.1) high))

-- a word from which no number is read
pub nothing_read : (word : List ℕ) → ¬ (IsRead word) → None ≡ number_named word
nothing_read word isnt = no_number_of word (λ number. let high : digits_value 10 (without_leading_plus word) ≤ most_number = number.3 in isnt (number.0, omega arith))

-- a digit differs from a byte that is none
differs : (d x : ℕ) → digit_value d < 10 → ¬ (digit_value x < 10) → (d == x) ≡ false
differs d x is isnt = failed _ (λ same. isnt (subst (λ (c : ℕ). digit_value c < 10) (eqb-true d x same) is))

no_hyphen : ¬ (digit_value 45 < 10)
no_hyphen h = let bad : 36 < 10 = h in absurd (omega arith)

no_plus : ¬ (digit_value 43 < 10)
no_plus h = let bad : 36 < 10 = h in absurd (omega arith)

pub plain_numeral : (ds : List ℕ) → IsNumeral 10 ds → IsPlain ds
plain_numeral [] is = let bad : 0 < 0 = is.0 in absurd (omega arith)
plain_numeral (d ∷ ds) is = begins_otherwise d ds (differs d 45 is.1.0 no_hyphen)

without_plus : (ds : List ℕ) → IsNumeral 10 ds → without_leading_plus ds ≡ ds
without_plus [] is = let bad : 0 < 0 = is.0 in absurd (omega arith)
without_plus (d ∷ ds) is = ap (λ (b : Bool). drop (cond b 1 0) (d ∷ ds)) (differs d 43 is.1.0 no_plus)

module _ (n : ℕ) (low : 1 ≤ n) (high : n ≤ most_number) where
  small : n < 2 ^ 64
  small = omega arith

  numeral : IsNumeral 10 (decimal n) × (digits_value 10 (decimal n) ≡ n)
  numeral = decimal_is_IsNumeral n small

  -- a number in decimal is a plain word, which names it
  pub decimal_is_plain : IsPlain (decimal n)
  decimal_is_plain = plain_numeral (decimal n) numeral.0

  pub decimal_names : number_named (decimal n) ≡ Some n
  decimal_names =
      let same = without_plus (decimal n) numeral.0 in
      let is : digits_value 10 (without_leading_plus (decimal n)) ≡ n = ap (digits_value 10) same ∙ numeral.1 in
      let is_number : IsNumber (decimal n) = (subst (IsNumeral 10) (sym same) numeral.0, rw is small, rw is low, rw is high) in
      number_of (decimal n) is_number ∙ ap (λ (k : ℕ). Some k) is
