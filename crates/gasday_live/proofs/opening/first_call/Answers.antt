use Rattle.std.proofs.Common.{rules, ◌<◌, length, sym, ◌∙◌, ap, ◌+◌}
use Rattle.gasday_live.proofs.Openings.{an_event, first_call, no_call_more, no_event}
use Rattle.gasday_live.proofs.opening.first_call.Goals as goal

pub rows-preserved : goal.rows-preserved
rows-preserved c =
    let low : c.rows.row-index < length c.args.rows.now = search rules in
    record {
      none = no_call_more c.args.rows.now c.rows.row-index c.row-item.result low c.row-item.is c.rows.invariant.none (sym c.event_of.ensures ∙ no_event c.event_of.result c.is_some.result c.is_some.ensures c.if-is_some.false);
      at_is = ap (λ n. n + 1) c.rows.invariant.at_is;
    }

pub returns-then-is_some : goal.returns-then-is_some
returns-then-is_some c =
    let low : c.rows.row-index < length c.args.rows.now = search rules in
    rw c.rows.invariant.at_is
    (low, c.rows.invariant.none, λ none. first_call c.args.rows.now c.rows.row-index c.row-item.result low c.row-item.is (λ no. an_event c.event_of.result c.is_some.result c.is_some.ensures c.if-is_some.true (c.event_of.ensures ∙ no)) none)
