use Rattle.std.proofs.Common.{arith, ◌≡◌, ◌+◌, ◌<◌, length, get_or, sym, subst, ◌∙◌, ap}
use Rattle.std.proofs.lemmas.Bool.{false≢true}
use Rattle.std.proofs.lemmas.List.{get_or_default}
use Rattle.gd_machine.specs.Day.{Day}
use Rattle.gd_machine.specs.History.{History}
use Rattle.gd_reconcile.specs.Fitting.{lists_of}
use Rattle.gd_reconcile.specs.declared.refusals.Query.{Query}
use Rattle.gd_reconcile.specs.Answering.{AnswersAt}
use Rattle.gd_reconcile.proofs.Queries.{least_same, least_less}
use Rattle.gd_reconcile.proofs.refusals.least_wrong.Goals.{then-not-branch, else-not-branch}
use Rattle.gd_reconcile.proofs.refusals.least_wrong.Goals as goal

pub loop-query-preserved : goal.loop-query-preserved
loop-query-preserved c =
    let v = c.loop-query.invariant in
    let book = c.args.replay.now in
    let lists = lists_of c.args.lists.now in
    let queries = c.args.queries.now in
    let at = c.loop-query.query-index in
    let within : at < length queries = omega arith in
    let d : Query = record { length = 0; list = 0; index = 0 } in
    let q : Query = get_or queries at d in
    let here : q ≡ get_or queries at q = get_or_default queries at d q within in
    record {
      day = c.in_ok-answers.ensures.day ∙ v.day;
      history = c.in_ok-answers.ensures.history ∙ v.history;
      ahead = λ x lt.
          let p = c.in_ok-answers.ensures.at in
          let less = c.requires.sorted at (at + 1) x (omega arith) lt in
          let same = ap (λ (y : Query). y.length) (get_or_default queries at d x within) in
          omega arith;
      least = elim c.if-not-branch.branch [
        | then-not-branch w ↦
            rw w.least-is (least_less book.day book.history lists queries at c.loop-query.least q w.earlier.result within here
            (λ ok.
            let is = c.in_ok-answers.ensures.answers.1 (subst (λ (y : Day). AnswersAt y c.loop-query.replay.history lists q.list q.index) (sym v.day)
            (subst (λ (h : History). AnswersAt book.day h lists q.list q.index) (sym v.history) ok)) in
            false≢true (sym w.if-not-branch.true ∙ is))
            w.earlier.ensures.one w.earlier.ensures.least v.least)
        | else-not-branch w ↦
            rw w.least-is (least_same book.day book.history lists queries at c.loop-query.least q within here
            (subst (λ (y : Day). AnswersAt y book.history lists q.list q.index) v.day
            (subst (λ (h : History). AnswersAt c.loop-query.replay.day h lists q.list q.index) v.history (c.in_ok-answers.ensures.answers.0 w.if-not-branch.false))) v.least)
      ];
    }
