use Rattle.std.proofs.Common.{◌≡◌, ◌∙◌, List, [], reverse, ap, rules, sym, subst}
use Rattle.gd_text_part.specs.declared.row.Row.{Row}
use Rattle.gd_course.proofs.Running.{IsAt, turned, went_on, ran_all}
use Rattle.gd_course.proofs.course.run.Goals as goal

pub calls-preserved : goal.calls-preserved
calls-preserved g c =
    let kept = c.calls.invariant in
    let day = c.args.book.now.day in let h = c.args.book.now.history in let rows = c.args.rows.items in
    let group = c.calls.group.items in let told = c.calls.told.items in let between = c.calls.book.history in
    let r = c.in-Some.row in let left = reverse c.next_row.new.rows.items in
    let here = subst (λ (l : List Row). IsAt day h rows group l told between) (turned c.calls.left.items c.next_row.new.rows.items r c.in-Some.ensures) kept.here in
    let gave = rw c.as_slice.ensures.value at (rw kept.day at c.in_ok-answer.ensures.gives) in
    record {
      here = subst (λ (l : List Row). IsAt day h rows l left c.append.new.self.items c.call.new.book.history) (sym c.clear.ensures.items)
          (went_on day h rows group left told between r here c.in-Some-event_of.event c.in_ok-answer.answer.items c.append.new.self.items c.call.new.book.history
          (sym c.event_of.ensures ∙ c.in-Some-event_of.is) gave c.in_ok-append.ensures.items);
      day = c.call.ensures.day ∙ kept.day;
      board = c.call.ensures.board ∙ kept.board;
      cells = c.call.ensures.board ∙ kept.cells;
      holds = rw (sym (c.call.ensures.day ∙ kept.day)) c.history-in-Some.ensures.holds;
      posted = λ all. let goes_on = rw kept.day at c.in_ok-answer.ensures.posted in goes_on (kept.posted all);
    }

pub returns-clause-ok : goal.returns-clause-ok
returns-clause-ok g c =
    let none : c.calls.left.items ≡ [] = search rules in
    ran_all c.args.book.now.day c.args.book.now.history c.args.rows.items c.calls.group.items (reverse c.calls.left.items) c.calls.told.items c.calls.book.history (ap reverse none) c.calls.invariant.here
