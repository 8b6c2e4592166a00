use Rattle.std.proofs.Common.{vec_len, arith, eqb-true, sym, ◌∙◌}
use Rattle.std.proofs.lemmas.List.{nil_from_length}
use Rattle.gasday_live.proofs.BegunBooks.{head_is}
use Rattle.gasday_live.proofs.beginning.read_head.Goals as goal

pub returns-clause-head : goal.returns-clause-head
returns-clause-head g c =
    let opening = c.in_ok-text.field-0 in
    head_is opening.has_ended c.is_empty-is_whole.result opening.text.items opening.begun.items c.in_ok-text.ensures.opening c.else-has_ended.either (λ whole.
    let zero = eqb-true (vec_len opening.begun) 0 (sym c.is_empty-is_whole.ensures ∙ whole) in nil_from_length opening.begun.items (omega (arith, opening.begun.ok.0, zero)))

pub returns-then-not-is_whole-clause-fault : goal.returns-then-not-is_whole-clause-fault
returns-then-not-is_whole-clause-fault g c = tt
