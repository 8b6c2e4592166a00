use Rattle.std.proofs.Common.{rules, ◌≡◌, ◌≤◌, ◌==◌, nat_lt, false, None, length, arith, sym, ◌∙◌}
use Rattle.gd_units.specs.Names.{bad_byte}
use Rattle.gd_units.proofs.Padding.{is_padded, is_spelled}
use Rattle.gd_units.proofs.name.Name.of_bytes.Goals as goal

pub invariant_of-result : goal.invariant_of-result
invariant_of-result c =
    let t = c.copy_from_slice.ensures.after in
    let text = c.args.text.now in
    let short : length text ≤ 16 = omega arith in
    let some : (length text == 0) ≡ false = search rules in
    let few : nat_lt 16 (length text) ≡ false = search rules in
    let good : bad_byte text ≡ None = sym c.bad_byte.ensures ∙ c.in_default.is in
    rw t (record { short = short; rest = is_padded text; spelled = is_spelled text some few good })
