use Rattle.std.proofs.Common.{ℕ, List, ◌+◌, ◌<◌, length, ap, sym, ◌∙◌, subst}
use Rattle.gd_network.specs.Flow.{IsFlowOf}
use Rattle.gd_network.specs.Arcs.{Net}
use Rattle.gd_network.specs.Links.{AreLinks, lists}
use Rattle.gd_network.proofs.Balance.{flow_balances}
use Rattle.gd_network.proofs.Clamping.{length_brought}
use Rattle.gd_network.proofs.Building.{arcs_all, flows_all}
use Rattle.gd_network.proofs.NodeNumbers.{is_first}
use Rattle.gd_network.proofs.Wiring.{wired}
use Rattle.gd_network.proofs.network.Network.at.Goals as goal

pub flow_of-requires : goal.flow_of-requires
flow_of-requires c = ap (λ (xs : List ℕ). length xs) c.in_ok-begun.ensures ∙ length_brought c.args.question.now.asked.lines c.args.schedule.now

pub invariant_of-result : goal.invariant_of-result
invariant_of-result c =
    let q = c.args.question.now.asked in
    let size = ap (λ (xs : List ℕ). length xs) c.in_ok-begun.ensures ∙ length_brought q.lines c.args.schedule.now in
    record {
      arcs = c.in_ok-arcs.ensures;
      links = subst (λ k. AreLinks (k + 1) c.in_ok-arcs.arcs.items (length c.in_ok-arcs.arcs.items) (lists c.in_ok-links.links.items)) c.element_count.ensures
          (subst (λ (n : Net). AreLinks (c.element_count.result + 1) n (length n) (lists c.in_ok-links.links.items)) c.deref.ensures.value c.in_ok-links.ensures);
      first = is_first q c.in_ok-arcs.arcs.items c.in_ok-begun.begun c.in_ok-first.first c.known.ensures (arcs_all q c.in_ok-arcs.arcs.items c.in_ok-arcs.ensures)
          (λ i h. c.known-2.ensures i (subst (λ n. i < n) (sym size) h)) c.in_ok-first.ensures;
      balances = flow_balances q c.in_ok-arcs.arcs.items c.in_ok-begun.begun c.in_ok-first.first c.known.ensures.lined (wired q c.in_ok-arcs.arcs.items (arcs_all q c.in_ok-arcs.arcs.items c.in_ok-arcs.ensures))
          (flows_all q c.in_ok-begun.begun c.in_ok-first.first c.in_ok-first.ensures);
    }

pub returns-clause-first : goal.returns-clause-first
returns-clause-first c =
    let q = c.args.question.now.asked in
    subst (λ x. IsFlowOf q x c.in_ok-first.first) c.in_ok-begun.ensures (flows_all q c.in_ok-begun.begun c.in_ok-first.first c.in_ok-first.ensures)
