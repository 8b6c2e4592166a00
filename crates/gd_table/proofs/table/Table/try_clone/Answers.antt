use Rattle.std.proofs.Common.{◌++◌, ◌∷◌, [], take, sym, ap, ◌∙◌, get_or, arith}
use Rattle.std.specs.Map.{lookup}
use Rattle.std.proofs.lemmas.List.{take_more}
use Rattle.gd_table.proofs.Places.{absent_before}
use Rattle.gd_table.proofs.table.Table.try_clone.Goals as goal

pub push-requires-clause-new : goal.push-requires-clause-new
push-requires-clause-new g c =
    let eq = g.K.PartialEq.eq in
    let es = c.args.self.now.entries in
    let entry = c.index-entries-at.result in
    let is = c.index-entries-at.is ∙ ap (λ l. get_or l c.loop-at.at entry) c.loop-at.invariant.same in
    ap (λ l. lookup (eq entry.0) l) c.loop-at.invariant.copied ∙ ap (λ p. lookup (eq p.0) (take c.loop-at.at es)) is
    ∙ absent_before g.met.K.Eq.laws es c.loop-at.at entry c.entries-entries.ensures.unique (rw c.loop-at.invariant.same at c.loop-at-test.true)

pub loop-at-preserved : goal.loop-at-preserved
loop-at-preserved g c =
    let es = c.args.self.now.entries in
    let entry = c.index-entries-at.result in
    let is = c.index-entries-at.is ∙ ap (λ l. get_or l c.loop-at.at entry) c.loop-at.invariant.same in
    record {
      copied =
          c.push.ensures.last ∙ ap (λ l. l ++ entry ∷ []) c.loop-at.invariant.copied ∙ ap (λ p. take c.loop-at.at es ++ p ∷ []) is
          ∙ sym (take_more es c.loop-at.at entry (rw c.loop-at.invariant.same at c.loop-at-test.true));
      room = omega (arith, c.push.ensures.kept, c.loop-at.invariant.room);
      same = c.loop-at.invariant.same;
    }
