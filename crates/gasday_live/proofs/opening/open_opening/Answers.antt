use Rattle.std.proofs.Common.{◌≡◌, ◌<◌, ◌+◌, ℕ, inl, inr, length, refl, rules, true, false, sym, ap, ◌∙◌}
use Rattle.gd_text_part.specs.declared.fault.Cause.TheVariants as cause
use Rattle.gd_text_part.specs.declared.fault.TextFault.TheVariants as fault
use Rattle.gasday_part.specs.declared.opened.NoBook.TheVariants as none
use Rattle.gasday_live.proofs.Openings.{opening_is}
use Rattle.gasday_live.proofs.opening.open_opening.Goals as goal

pub returns-clause-opened : goal.returns-clause-opened
returns-clause-opened c =
    let rows = c.in-Ok.rows.items in
    let count : c.len-2.result ≡ length rows = search rules in
    opening_is c.args.text.now rows c.in_ok-book.book c.len-2.result (length c.args.text.now) c.in-Ok.ensures (rw c.as_slice.ensures.value at c.in_default.ensures) (c.is_closed.ensures.0 c.if-not-is_closed.false)
    (rw c.as_slice-2.ensures.value at c.in_ok-book.ensures.opened) count refl

pub returns-then-not-is_closed-clause-refused : goal.returns-then-not-is_closed-clause-refused
returns-then-not-is_closed-clause-refused c =
    let rows = c.in-Ok.rows.items in
    let count : c.len.result ≡ length rows = search rules in
    let small : c.len.result < 18446744073709551615 = search rules in
    let no_call = rw c.as_slice.ensures.value at c.in_default.ensures in
    let told = c.quoted-then-not-is_closed.ensures small ∙ ap (λ (n : ℕ). none.Fault (fault.Row (n + 1) cause.FieldCount)) count in
    inr (rows, c.in-Ok.ensures.1, inl (length rows, inr (no_call, (λ closed. let bad : true ≡ false = sym (c.is_closed.ensures.1 closed) ∙ c.if-not-is_closed.true in cc), refl), told))
