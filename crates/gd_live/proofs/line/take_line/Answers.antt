use Rattle.std.proofs.Common.{ap, arith, sym, ◌++◌, ◌∙◌}
use Rattle.gd_text_part.specs.Lines.{is_of_calls}
use Rattle.gd_live.proofs.Growing.{ended, joined, long_by_line}
use Rattle.gd_live.proofs.line.take_line.Goals as goal

pub returns-then-len-clause-fault : goal.returns-then-len-clause-fault
returns-then-len-clause-fault c =
    let none = ap is_of_calls (sym c.as_slice.ensures.value) ∙ sym c.is_of_calls.ensures ∙ c.if-is_of_calls.false in
    long_by_line c.args.text.now.items c.args.begun.now.items c.args.end.now c.args.behind.now _ c.requires.stand c.requires.end
    c.in_ok-extend_from_slice.ensures.items none (omega arith)

pub returns-clause-taken : goal.returns-clause-taken
returns-clause-taken c =
    let none = ap is_of_calls (sym c.as_slice.ensures.value) ∙ sym c.is_of_calls.ensures ∙ c.if-is_of_calls.false in
    let text_is = c.in_ok-extend_from_slice-3.ensures.items ∙ ap (λ l. c.args.text.now.items ++ l) (c.as_slice-2.ensures.value ∙ c.in_ok-push-2.ensures.items) in
    joined c.args.text.now.items c.args.begun.now.items c.args.end.now _ _ _ c.requires.stand c.requires.end
    c.in_ok-extend_from_slice.ensures.items none (omega arith) text_is c.clear.ensures.items

pub returns-then-is_of_calls-clause-taken : goal.returns-then-is_of_calls-clause-taken
returns-then-is_of_calls-clause-taken c =
    let calls = ap is_of_calls (sym c.as_slice.ensures.value) ∙ sym c.is_of_calls.ensures ∙ c.if-is_of_calls.true in
    ended c.args.text.now.items c.args.begun.now.items c.args.end.now c.args.behind.now _ _ _ c.requires.stand c.requires.end
    c.in_ok-extend_from_slice.ensures.items calls c.in_ok-push.ensures.items c.in_ok-extend_from_slice-2.ensures.items
