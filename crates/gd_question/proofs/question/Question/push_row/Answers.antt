use Rattle.std.proofs.Common.{rules, ◌≡◌, ◌<◌, ◌++◌, ◌∷◌, [], length, arith, true, List, ap, subst, sym, ◌∙◌}
use Rattle.std.specs.Result.{is_ok}
use Rattle.std.proofs.lemmas.List.{length-append, length-map}
use Rattle.gd_question.specs.Posing.{Posed}
use Rattle.gd_question.specs.Rows.{line_of}
use Rattle.gd_question.specs.Stored.{IsRow}
use Rattle.gd_question.specs.declared.question.Row.{Row}
use Rattle.gd_question.proofs.QuestionInside.{rows_more}
use Rattle.gd_question.proofs.Sound.{Each}
use Rattle.gd_question.proofs.question.Question.push_row.Goals as goal

pub invariant_of-self-2 : goal.invariant_of-self-2
invariant_of-self-2 c =
    let q = c.self.inside in
    let i = c.self.invariant in
    let good : is_ok c.push.result ≡ true = search rules in
    let items : c.push.new.self.items ≡ q.rows.items ++ c.args.row ∷ [] = rw good at c.push.ensures.items in
    let one : IsRow q.system c.args.row = subst (λ (p : Posed). IsRow p.pipeline c.args.row) (sym c.self.view_is) c.requires.sound in
    let few : length q.rows.items < 20000 = subst (λ n. n < 20000) (sym (ap (λ (p : Posed). length p.asked.lines) c.self.view_is) ∙ length-map q.rows.items (line_of q.system)) c.requires.few in
    let size = ap length items ∙ length-append q.rows.items (c.args.row ∷ []) in
    record {
      system = i.system;
      limited = i.limited;
      few = omega arith;
      rows = subst (λ (l : List Row). Each q.system l) (sym items) (rows_more q.system q.rows.items c.args.row i.rows one);
    }
