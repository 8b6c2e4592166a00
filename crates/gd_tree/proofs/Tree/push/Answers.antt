use Rattle.std.proofs.Common.{◌≡◌, ◌<◌, ◌+◌, suc, ◌++◌, ◌∷◌, [], List, length, map, get_or, ap, ◌∙◌, sym, subst}
use Rattle.std.specs.Prelude.{if◌then◌else◌}
use Rattle.std.specs.Result.{is_ok}
use Rattle.std.proofs.lemmas.List.{map-append, length_push}
use Rattle.gd_rules.specs.Question.{Element}
use Rattle.gd_rules.specs.Question.Element.{Segment as segment}
use Rattle.gd_tree.specs.declared.Lift.{Lift}
use Rattle.gd_tree.specs.Grown.{Joins, IsGrown}
use Rattle.gd_tree.specs.Lifts.{LiftsUp, LiftsDown, IsLift}
use Rattle.gd_tree.specs.View.{segment_of}
use Rattle.gd_tree.proofs.Lifts.{grown_more, lifts_more, lift_sending, lift_taking}
use Rattle.gd_tree.proofs.Tree.push.Goals as goal
use Rattle.gd_tree.proofs.Tree.push.Goals.{then-next, else-next}

pub invariant_of-self-2 : goal.invariant_of-self-2
invariant_of-self-2 c =
    let t : List Element = map segment_of c.self-2.inside.segments.items in
    let x : Element = segment c.args.next.from c.args.next.to c.args.next.capacity in
    let view : t ≡ c.args.self.now = c.self-2.view_is in
    let joins : Joins (length t) x = subst (λ (l : List Element). Joins (length l) x) (sym view) c.requires in
    let segments : map segment_of c.push.new.self.items ≡ t ++ x ∷ [] = ap (map segment_of) c.in_ok-push.ensures.items ∙ map-append segment_of c.self-2.inside.segments.items (c.args.next ∷ []) in
    let lifts : c.push-2.new.self.items ≡ c.self-2.inside.lifts.items ++ c.if-next.lift ∷ [] =
    c.push-2.ensures.items ∙ ap (λ r. if is_ok r then c.reserve.new.self.items ++ c.if-next.lift ∷ [] else c.reserve.new.self.items) c.unwrap.ensures
    ∙ ap (λ (l : List Lift). l ++ c.if-next.lift ∷ []) c.reserve.ensures.items in
    let g : IsGrown (length t) t = c.self-2.invariant.grown in
    let last : IsLift (t ++ x ∷ []) (suc (length t)) c.if-next.lift = elim c.if-next.branch [
      | then-next w ↦ subst (IsLift (t ++ x ∷ []) (suc (length t))) (sym w.lift-is) (lift_sending t c.args.next.from c.args.next.to c.args.next.capacity w.next_up.result g joins w.if-next.true (subst (λ (l : List Element). LiftsUp l c.args.next.to w.next_up.result) (sym view) w.next_up.ensures))
      | else-next w ↦ subst (IsLift (t ++ x ∷ []) (suc (length t))) (sym w.lift-is) (lift_taking t c.args.next.from c.args.next.to c.args.next.capacity w.next_down.result g joins w.if-next.false (subst (λ (l : List Element). LiftsDown l c.args.next.from w.next_down.result) (sym view) w.next_down.ensures))
    ] in
    record {
      grown = subst (λ (l : List Element). IsGrown (length l) l) (sym segments) (grown_more t x g joins);
      counted = ap length lifts ∙ length_push c.self-2.inside.lifts.items c.if-next.lift ∙ ap (λ n. n + 1) c.self-2.invariant.counted ∙ sym (length_push t x) ∙ sym (ap length segments);
      lifts = λ k l h e.
          subst (λ (s : List Element). IsLift s (suc k) l) (sym segments)
          (lifts_more t x g joins c.self-2.inside.lifts.items c.if-next.lift c.self-2.invariant.counted c.self-2.invariant.lifts last k l (subst (λ (s : List Lift). k < length s) lifts h) (subst (λ (s : List Lift). l ≡ get_or s k l) lifts e));
    }
