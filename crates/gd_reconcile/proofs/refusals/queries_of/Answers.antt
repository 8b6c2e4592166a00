use Rattle.std.proofs.Common.{rules, arith, ◌≡◌, length, subst}
use Rattle.std.proofs.lemmas.List.{length-map}
use Rattle.std.specs.Global.{Vec}
use Rattle.std.proofs.lemmas.List.Sorted.{IsNonDecreasingBy-from_sort_by_key}
use Rattle.gd_office_part.specs.declared.kept.Receipt.{Receipt}
use Rattle.gd_reconcile.specs.Fitting.{lists_of}
use Rattle.gd_reconcile.specs.Answering.{AreQueries}
use Rattle.gd_reconcile.proofs.Queries.{queries_moved}
use Rattle.gd_reconcile.proofs.refusals.queries_of.Goals as goal

pub returns-clause-all : goal.returns-clause-all
returns-clause-all c =
    let last : c.loop-list.list ≡ length (lists_of c.args.lists.now) = omega (arith, length-map c.args.lists.now (λ (x : Vec Receipt). x.items)) in
    queries_moved c.args.most (lists_of c.args.lists.now) (length (lists_of c.args.lists.now)) 0 c.loop-list.queries.items _ c.sort_unstable_by_key.ensures.permutation
    (subst (λ n. AreQueries c.args.most (lists_of c.args.lists.now) n 0 c.loop-list.queries.items) last c.loop-list.invariant)

pub returns-clause-sorted : goal.returns-clause-sorted
returns-clause-sorted c = IsNonDecreasingBy-from_sort_by_key (λ q. q.length) _ c.sort_unstable_by_key.ensures.sorted (λ a r q k. search rules)
