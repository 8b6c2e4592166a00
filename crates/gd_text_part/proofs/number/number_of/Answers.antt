use Rattle.std.proofs.Common.{rules, ◌≡◌, ◌==◌, nat_lt, length, false, arith, sym, ◌∙◌}
use Rattle.gd_text_part.proofs.Digits.{one_more, fits, reads_on, stops, is_done, is_number, digit_below, within}
use Rattle.gd_text_part.specs.declared.number.TheConstants.{MAX_DIGITS}
use Rattle.gd_text_part.proofs.number.number_of.Goals as goal

pub returns-then-not-is_ascii_digit-clause-number : goal.returns-then-not-is_ascii_digit-clause-number
returns-then-not-is_ascii_digit-clause-number c =
    let some : (length c.args.bytes.now == 0) ≡ false = search rules in
    let few : nat_lt MAX_DIGITS (length c.args.bytes.now) ≡ false = search rules in
    stops c.digits.number c.digits.b-index c.args.bytes.now _ (omega arith) (sym c.if-not-is_ascii_digit.ensures.value) c.digits.invariant.told
    ∙ sym (is_number c.args.bytes.now some few)

pub overflow_mul-number : goal.overflow_mul-number
overflow_mul-number c = let f = fits c.digits.number c.digits.b-index c.digits.invariant.small (omega arith) in omega (arith, f)

pub overflow_add-number : goal.overflow_add-number
overflow_add-number c =
    let f = fits c.digits.number c.digits.b-index c.digits.invariant.small (omega arith) in
    omega (arith, f, c.from.ensures, digit_below c.args.bytes.now c.digits.b-index (sym c.if-not-is_ascii_digit.ensures.value))

pub digits-preserved : goal.digits-preserved
digits-preserved c =
    let digit = sym c.if-not-is_ascii_digit.ensures.value in
    let below = digit_below c.args.bytes.now c.digits.b-index digit in
    rw c.from.ensures (record {
      told = reads_on c.digits.number c.digits.b-index c.args.bytes.now _ (omega arith) digit c.digits.invariant.told;
      small = one_more c.digits.number c.digits.b-index _ c.digits.invariant.small below;
    })

pub returns-clause-number : goal.returns-clause-number
returns-clause-number c =
    let some : (length c.args.bytes.now == 0) ≡ false = search rules in
    let few : nat_lt MAX_DIGITS (length c.args.bytes.now) ≡ false = search rules in
    is_done c.digits.number c.digits.b-index c.args.bytes.now _ (omega arith) c.digits.invariant.told ∙ sym (is_number c.args.bytes.now some few)

pub returns-clause-small : goal.returns-clause-small
returns-clause-small c = within c.digits.number c.digits.b-index c.digits.invariant.small (omega arith)
