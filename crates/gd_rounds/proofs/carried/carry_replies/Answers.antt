use Rattle.std.proofs.Common.{rules, ◌≡◌, ◌<◌, length, arith, ◌∙◌}
use Rattle.gd_rounds.proofs.Rows.{row_more, rows_are}
use Rattle.gd_rounds.proofs.carried.carry_replies.Goals as goal

pub lines-preserved : goal.lines-preserved
lines-preserved c =
    let now = c.lines in
    let keys = c.deref-key-items.result.now in
    let low : now.line < length keys = search rules in
    row_more keys c.last_published-quantities.result.now now.line c.key-item.result c.quantity_of.result now.rows.items c.push.new.self.items c.in_ok-row.row low c.key-item.is c.quantity_of.ensures c.in_ok-row.ensures now.invariant c.in_ok-push.ensures.items

pub returns : goal.returns
returns c day legal =
    let now = c.lines in
    let keys = c.deref-key-items.result.now in
    let past = c.lines-test.false in
    let end = now.auto.line-end in
    let all : now.line ≡ length keys = omega (arith, past, end) in
    now.invariant ∙ rows_are day c.args.history.now legal keys c.last_published-quantities.result.now now.line all (c.deref-key-items.ensures.value ∙ c.in_ok-keys.ensures day legal) c.last_published-quantities.ensures
