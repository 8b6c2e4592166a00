use Rattle.std.proofs.Common.{◌≡◌, [], vec_len, arith, eqb-true, sym, ◌∙◌}
use Rattle.std.proofs.lemmas.List.{nil_from_length}
use Rattle.gasday_live.proofs.reading.open_first.Goals as goal

pub returns-in-Ok-clause-opened : goal.returns-in-Ok-clause-opened
returns-in-Ok-clause-opened c =
    let told = c.args.piece.now.told in
    let zero = eqb-true (vec_len told) 0 (sym c.is_empty.ensures ∙ c.if-not-is_empty.false) in
    let none : told.items ≡ [] = nil_from_length told.items (omega (arith, told.ok.0, zero)) in (rw c.as_slice.ensures.value at c.in-Ok.ensures.opened, none)
