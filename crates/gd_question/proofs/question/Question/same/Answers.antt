use Rattle.std.proofs.Common.{◌≡◌, true, ap, sym, ◌∙◌}
use Rattle.std.proofs.lemmas.Slice.Eq.{bytes_eq-Decides}
use Rattle.std.proofs.lemmas.Bool.Decides.{Decides-eqb}
use Rattle.gd_question.specs.Posing.{Posed}
use Rattle.gd_question.specs.Inside.{posed_of}
use Rattle.gd_question.proofs.Same.{same_system, same_capacities, same_rows}
use Rattle.gd_question.proofs.question.Question.same.Goals as goal
use Rattle.gd_question.proofs.question.Question.same.Goals.{then-same, else-same, then-same_capacities, else-same_capacities, then-same_rows, else-same_rows, then-eq, else-eq}

-- One test failed, which two that are the same would have passed.
pub returns-else-eq-2 : goal.returns-else-eq-2
returns-else-eq-2 c = (
  λ t. cc,
  λ e.
      let a = c.self.inside in
      let b = c.other.inside in
      let same : posed_of a ≡ posed_of b = c.self.view_is ∙ e ∙ sym c.other.view_is in
      let system = c.same.ensures.1 (same_system a b c.self.invariant c.other.invariant same) in
      let capacities = same_capacities a b c.self.invariant c.other.invariant same in
      let rows = same_rows a b c.self.invariant c.other.invariant same in
      let book = (bytes_eq-Decides a.book b.book).1 (ap (λ (v : Posed). v.book) same) in
      let cycle = (Decides-eqb a.cycle b.cycle).1 (ap (λ (v : Posed). v.cycle) same) in
      let one : c.if-same.value ≡ true = elim c.if-same.branch [ then-same w ↦ w.value-is ∙ w.same_capacities.ensures.1 (w.deref.ensures.value ∙ capacities ∙ sym w.deref-then-same.ensures.value) | else-same w ↦ cc ] in
      let two : c.if-same_capacities.value ≡ true = elim c.if-same_capacities.branch [ then-same_capacities w ↦ w.value-is ∙ w.same_rows.ensures.1 (w.deref-then-same_capacities.ensures.value ∙ rows ∙ sym w.deref-then-same_capacities-2.ensures.value) | else-same_capacities w ↦ cc ] in
      let three : c.if-same_rows.value ≡ true = elim c.if-same_rows.branch [ then-same_rows w ↦ w.value-is ∙ w.eq.ensures ∙ book | else-same_rows w ↦ cc ] in
      elim c.if-eq.branch [ then-eq w ↦ w.value-is ∙ w.eq-then-eq.ensures ∙ cycle | else-eq w ↦ cc ],
)
