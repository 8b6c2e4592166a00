-- An opening that grows by lines and by bytes.
use Rattle.std.proofs.Common.{◌≡◌, ℕ, ◌==◌, ◌+◌, ◌<◌, true, false, List, [], ◌∷◌, ◌++◌, length, Option, Some, None, IfSome, refl, ap, sym, subst, ◌∙◌, append-nil, append_assoc, length-append, arith}
use Rattle.std.specs.Io.KnownBytes.{Consumes}
use Rattle.std.specs.List.{AllByRecursion}
use Rattle.gd_text_part.specs.Lines.{is_of_calls}
use Rattle.gd_text_part.specs.Texts.{BlamesLength, BlamesNoRow}
use Rattle.gd_text_part.specs.declared.fault.TextFault.{TextFault}
use Rattle.gd_text_part.specs.declared.fault.TextFault.TheVariants as fault
use Rattle.gd_text_part.specs.declared.input.TheConstants.{MAX_BYTES}
use Rattle.gd_serving.specs.Lines.{HasNoEnd, text_of_lines}
use Rattle.gd_live.specs.Openings.{IsOfOpening, IsOpening, GoesOn, HasLongOpening}

all_more : {X : Type 0} (P : X → Type 0) (xs ys : List X) → AllByRecursion P xs → AllByRecursion P ys → AllByRecursion P (xs ++ ys)
all_more P [] ys p q = q
all_more P (x ∷ xs) ys p q = (p.0, all_more P xs ys p.1 q)

pub no_ends : (xs ys : List ℕ) → HasNoEnd xs → HasNoEnd ys → HasNoEnd (xs ++ ys)
no_ends xs ys p q = all_more (λ b. (b == 10) ≡ false) xs ys p q

line_more : (lines : List (List ℕ)) (line : List ℕ) → text_of_lines lines ++ (line ++ 10 ∷ []) ≡ text_of_lines (lines ++ line ∷ [])
line_more [] line = sym (append-nil (line ++ 10 ∷ []))
line_more (first ∷ lines) line = append_assoc (first ++ 10 ∷ []) (text_of_lines lines) (line ++ 10 ∷ []) ∙ ap (λ t. (first ++ 10 ∷ []) ++ t) (line_more lines line)

-- one line more
pub one_more : (text line : List ℕ) → IsOfOpening text → HasNoEnd line → is_of_calls line ≡ false → IsOfOpening (text ++ (line ++ 10 ∷ []))
one_more text line was whole none = record {
  lines = was.lines ++ line ∷ [];
  bytes = ap (λ t. t ++ (line ++ 10 ∷ [])) was.bytes ∙ line_more was.lines line;
  whole = all_more HasNoEnd was.lines (line ∷ []) was.whole (whole, tt);
  none_of_calls = all_more (λ l. is_of_calls l ≡ false) was.lines (line ∷ []) was.none_of_calls (none, tt);
}

-- a line that ends, with what is before and behind it
parts_of : (text begun end behind : List ℕ) → (text ++ ((begun ++ end) ++ 10 ∷ [])) ++ behind ≡ ((text ++ begun) ++ end) ++ 10 ∷ behind
parts_of text begun end behind =
    append_assoc text ((begun ++ end) ++ 10 ∷ []) behind ∙ ap (λ t. text ++ t) (append_assoc (begun ++ end) (10 ∷ []) behind)
    ∙ sym (append_assoc text (begun ++ end) (10 ∷ behind)) ∙ ap (λ t. t ++ 10 ∷ behind) (sym (append_assoc text begun end))

-- a line of calls ends the opening, with what is behind it
pub ended : (text begun end behind line fed all : List ℕ) → GoesOn text begun → HasNoEnd end → line ≡ begun ++ end → is_of_calls line ≡ true → fed ≡ line ++ 10 ∷ [] → all ≡ fed ++ behind
    → IsOpening text all false × (text ++ all ≡ ((text ++ begun) ++ end) ++ 10 ∷ behind)
ended text begun end behind line fed all goes whole line_is calls fed_is all_is =
    let few = goes.few in
    let bytes : all ≡ (begun ++ end) ++ 10 ∷ behind = all_is ∙ ap (λ l. l ++ behind) fed_is ∙ append_assoc line (10 ∷ []) behind ∙ ap (λ l. l ++ 10 ∷ behind) line_is in
    rw bytes (
      record {
        opening = goes.opening;
        few = omega (arith, few);
        behind = record { line = begun ++ end; rest = behind; parts = refl; whole = no_ends begun end goes.begins whole; of_calls = subst (λ l. is_of_calls l ≡ true) line_is calls };
      },
      sym (append_assoc text (begun ++ end) (10 ∷ behind)) ∙ ap (λ t. t ++ 10 ∷ behind) (sym (append_assoc text begun end)),
    )

-- a line that has ended joins the opening
pub joined : (text begun end line text2 begun2 : List ℕ) → GoesOn text begun → HasNoEnd end → line ≡ begun ++ end → is_of_calls line ≡ false
    → length text + length line < MAX_BYTES → text2 ≡ text ++ (line ++ 10 ∷ []) → begun2 ≡ []
    → GoesOn text2 begun2 × (text2 ++ begun2 ≡ ((text ++ begun) ++ end) ++ 10 ∷ [])
joined text begun end line text2 begun2 goes whole line_is none few text_is begun_is =
    let all = begun ++ end in
    let few_all : length text + length all < MAX_BYTES = rw (sym line_is) few in
    let none_all : is_of_calls all ≡ false = rw (sym line_is) none in
    rw (text_is, begun_is, line_is) (
      record {
        opening = one_more text all goes.opening (no_ends begun end goes.begins whole) none_all;
        begins = tt;
        few = omega (arith, few_all, length-append text (all ++ 10 ∷ []), length-append all (10 ∷ []));
      },
      parts_of text begun end [],
    )

-- with this line, whose line feed was seen, the opening is too long
pub long_by_line : (text begun end behind line : List ℕ) → GoesOn text begun → HasNoEnd end → line ≡ begun ++ end → is_of_calls line ≡ false
    → MAX_BYTES < length text + length line + 1 → HasLongOpening (((text ++ begun) ++ end) ++ 10 ∷ behind)
long_by_line text begun end behind line goes whole line_is none many =
    let all = begun ++ end in
    let many_all : MAX_BYTES < length text + length all + 1 = rw (sym line_is) many in
    let none_all : is_of_calls all ≡ false = rw (sym line_is) none in
    record {
      text = text ++ (all ++ 10 ∷ []);
      begun = [];
      rest = behind;
      parts = sym (parts_of text begun end behind) ∙ sym (ap (λ t. t ++ behind) (append-nil (text ++ (all ++ 10 ∷ []))));
      opening = one_more text all goes.opening (no_ends begun end goes.begins whole) none_all;
      begins = tt;
      many = omega (arith, many_all, length-append text (all ++ 10 ∷ []), length-append all (10 ∷ []));
    }

-- what is too long stays so with more behind it
longer : (all more : List ℕ) → HasLongOpening all → HasLongOpening (all ++ more)
longer all more long = record {
  text = long.text;
  begun = long.begun;
  rest = long.rest ++ more;
  parts = ap (λ t. t ++ more) long.parts ∙ append_assoc (long.text ++ long.begun) long.rest more;
  opening = long.opening;
  begins = long.begins;
  many = long.many;
}

-- what the reader has told is too long, and so is all that it had
pub long_of_all : (all mid left : Option (List ℕ)) (before taken : List ℕ) → Consumes all mid before → Consumes mid left taken → HasLongOpening (before ++ taken) → IfSome all HasLongOpening
long_of_all None mid left before taken told more long = tt
long_of_all (Some xs) None left before taken told more long = absurd told
long_of_all (Some xs) (Some ys) None before taken told more long = absurd more
long_of_all (Some xs) (Some ys) (Some zs) before taken told more long =
    let is : xs ≡ (before ++ taken) ++ zs = told ∙ ap (λ t. before ++ t) more ∙ sym (append_assoc before taken zs) in
    rw is (longer (before ++ taken) zs long)

-- a fault of the bytes at hand is one of the reader's
pub blames : (long all : Type 0) (f : TextFault) → (long → all) → BlamesLength long f → BlamesNoRow all f
blames long all fault.ReadFailed so b = tt
blames long all fault.TooLong so b = so b
blames long all (fault.Row n c) so b = absurd b
blames long all fault.OutOfMemory so b = tt
