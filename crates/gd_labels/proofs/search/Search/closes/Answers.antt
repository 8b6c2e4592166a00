use Rattle.std.proofs.Common.{◌≡◌, ◌≢◌, ◌<◌, ◌≤◌, ℕ, ap, List, [], ◌∷◌, ◌++◌, refl, length, map, get_or, rules, arith, ◌∙◌, sym}
use Rattle.std.proofs.lemmas.List.{get_or_default}
use Rattle.std.proofs.lemmas.Bool.Decides.{nat_tests}
use Rattle.gd_labels.specs.Links.{node_at}
use Rattle.gd_labels.proofs.Trails.{closed_gains, one_back, avoids_back, avoids_root}
use Rattle.gd_labels.proofs.SeparateLinks.{apart_push, apart_start}
use Rattle.gd_labels.proofs.search.Search.closes.Goals as goal
use Rattle.gd_labels.proofs.search.Search.closes.Goals.{then-loop-event-test+else-index-end, else-loop-event-test}

pub loop-event-init : goal.loop-event-init
loop-event-init g c =
    let events = c.requires.search in
    let u : ℕ = node_at c.args.links.now.from.items c.args.i in
    let current : List ℕ = c.args.self.now.current.items in
    let u_in : u < length current = c.requires.links.begins_in c.args.i c.requires.link in
    let walk_is : c.push.new.self.items ≡ c.args.i ∷ [] = c.in_ok-push.ensures.items ∙ ap (λ (xs : List ℕ). xs ++ c.args.i ∷ []) c.clear.ensures.items in
    let u_is : c.index.result.now ≡ u = c.index.ensures ∙ get_or_default c.args.links.now.from.items c.args.i _ 0 c.requires.link in
    let event_is : c.index-event.result.now ≡ get_or current u 0 = c.index-event.ensures ∙ get_or_default current c.index.result.now _ 0 (rw u_is u_in) ∙ ap (λ (k : ℕ). get_or current k 0) u_is in
    let chain = events.chain (get_or current u 0) (events.newest u u_in) in
    rw (walk_is, event_is) (record {
      known = events.newest u u_in;
      trail = (c.requires.link, refl, events.newest_node u u_in);
      worth = λ x. rw (x.newest_value u u_in, g.met.C.Cost.lawful.neutral (get_or (map g.C.Cost.meaning c.args.links.now.gain.items) c.args.i g.C.Cost.scale.none)) refl;
      avoids = λ a. a;
      apart = apart_start c.args.self.now.node.items c.args.self.now.before.items (length current) c.args.links.now.to.items c.args.i (get_or current u 0) (chain.0) (chain.1) (chain.2);
    })

pub loop-event-preserved : goal.loop-event-preserved
loop-event-preserved g c =
    let i = c.loop-event.invariant in
    let events = c.requires.search in
    let event : ℕ = c.loop-event.event in
    let high : length c.args.self.now.current.items ≤ event = search rules in
    let end = c.index-end.ensures ∙ get_or_default c.args.links.now.to.items c.args.i _ 0 (omega (arith, c.requires.links.ends, c.requires.link)) in
    let at_event = c.index-in-loop-event.ensures ∙ get_or_default c.args.self.now.node.items event _ 0 i.known in
    let differs : node_at c.args.self.now.node.items event ≢ node_at c.args.links.now.to.items c.args.i = λ same. c.if-index-end.true (at_event ∙ same ∙ sym end) in
    let same_j : get_or c.args.self.now.link.items event 0 ≡ c.index-in-loop-event-2.result.now = get_or_default c.args.self.now.link.items event 0 _ (rw events.links i.known) ∙ sym c.index-in-loop-event-2.ensures in
    let same_earlier : get_or c.args.self.now.before.items event 0 ≡ c.index-event-in-loop-event.result.now = get_or_default c.args.self.now.before.items event 0 _ (rw events.befores i.known) ∙ sym c.index-event-in-loop-event.ensures in
    let back = one_back g.met.C.Cost.lawful events event _ _ _ _ c.loop-event.walk.items high i.known same_j same_earlier i.trail (i.worth events) in
    rw c.in_ok-push-2.ensures.items (record {
      known = back.1;
      trail = back.2;
      worth = λ x. (one_back g.met.C.Cost.lawful x event _ _ _ _ c.loop-event.walk.items high i.known same_j same_earlier i.trail (i.worth x)).3;
      avoids = λ rest. i.avoids (avoids_back c.args.self.now.node.items c.args.self.now.before.items _ event _ _ high differs same_earlier rest);
      apart = apart_push c.args.self.now.node.items c.args.self.now.before.items (length c.args.self.now.current.items) c.args.links.now.to.items c.loop-event.walk.items event (node_at c.args.links.now.to.items c.args.i) _ _ high
          (ap (λ (k : ℕ). node_at c.args.links.now.to.items k) (sym same_j) ∙ events.ends event high i.known) differs same_earlier i.apart;
    })

pub returns-clause-closed : goal.returns-clause-closed
returns-clause-closed g c = λ same.
    let i = c.loop-event.invariant in
    let event : ℕ = c.loop-event.event in
    let read : c.index-2.result.now ≡ c.index-end.result.now = grind (arith, nat_tests) in
    let end = c.index-end.ensures ∙ get_or_default c.args.links.now.to.items c.args.i _ 0 (omega (arith, c.requires.links.ends, c.requires.link)) in
    let at_event = c.index-2.ensures ∙ get_or_default c.args.self.now.node.items event _ 0 i.known in
    record {
      node = node_at c.args.links.now.to.items c.args.i;
      closed = rw (sym at_event ∙ read ∙ end) at i.trail;
      gains = closed_gains g.met.C.Cost.lawful c.requires.search event _ _ c.loop-event.walk.items i.known (sym at_event ∙ read ∙ end) c.requires.improves (i.worth c.requires.search);
      once = i.apart.once;
    }

pub returns-clause-avoids : goal.returns-clause-avoids
returns-clause-avoids g c = λ other.
    let i = c.loop-event.invariant in
    let event : ℕ = c.loop-event.event in
    let apart : c.index-2.result.now ≢ c.index-end.result.now = grind (arith, nat_tests) in
    let end = c.index-end.ensures ∙ get_or_default c.args.links.now.to.items c.args.i _ 0 (omega (arith, c.requires.links.ends, c.requires.link)) in
    let at_event = c.index-2.ensures ∙ get_or_default c.args.self.now.node.items event _ 0 i.known in
    let differs : node_at c.args.self.now.node.items event ≢ node_at c.args.links.now.to.items c.args.i = λ same. apart (at_event ∙ same ∙ sym end) in
    elim c.loop-event-test.branch [
      | then-loop-event-test+else-index-end w ↦
          absurd (differs (sym (w.index-in-loop-event.ensures ∙ get_or_default c.args.self.now.node.items event _ 0 i.known) ∙ w.if-index-end.false ∙ end))
      | else-loop-event-test w ↦
          i.avoids (avoids_root c.args.self.now.node.items c.args.self.now.before.items _ event _ (search rules) differs)
    ]
