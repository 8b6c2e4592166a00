use Rattle.std.proofs.Common.{ℕ, ◌≤◌, ◌++◌, ◌∷◌, [], List, sym, ap, ◌∙◌, arith}
use Rattle.std.specs.Map.{lookup}
use Rattle.std.proofs.lemmas.List.Elements.{All-more}
use Rattle.gd_rules.specs.Lines.{Key, same_key}
use Rattle.gd_book_part.proofs.Carry.{repeat_is, carried_more, absent_lookup}
use Rattle.gd_book_part.proofs.opening.carry_of.Goals as goal

pub returns-then-contains_key-clause-fault : goal.returns-then-contains_key-clause-fault
returns-then-contains_key-clause-fault c =
    let kept = c.loop-at.invariant in
    repeat_is c.args.carry.now c.loop-at.entries.entries c.loop-at.at c.index-carry-at.result c.loop-at-test.true c.index-carry-at.is kept.entered kept.distinct
    (sym c.contains_key.ensures ∙ c.if-contains_key.true)

pub loop-at-preserved : goal.loop-at-preserved
loop-at-preserved c =
    let kept = c.loop-at.invariant in
    let entry : Key × ℕ = c.index-carry-at.result in
    let last = c.push.ensures.last ∙ ap (λ (l : List (Key × ℕ)). l ++ entry ∷ []) c.reserve.ensures.entries in
    let bound = c.get-small.ensures in
    let at = ap (λ (x : Key × ℕ). x.1) c.index-carry-at.is in
    record {
      entered = carried_more c.args.carry.now c.loop-at.entries.entries c.push.new.self.entries c.loop-at.at entry c.loop-at-test.true c.index-carry-at.is kept.entered last;
      distinct = c.push.ensures.unique;
      small = All-more (λ (x : Key × ℕ). x.1 ≤ 1000000000) c.args.carry.now c.loop-at.at entry c.loop-at-test.true kept.small (omega (arith, bound.is, bound.bound, at));
    }

pub push-requires-clause-new : goal.push-requires-clause-new
push-requires-clause-new c =
    ap (λ (es : List (Key × ℕ)). lookup (same_key c.index-carry-at.result.0) es) c.reserve.ensures.entries
    ∙ absent_lookup (lookup (same_key c.index-carry-at.result.0) c.loop-at.entries.entries) (sym c.contains_key.ensures ∙ c.if-contains_key.false)
