use Rattle.std.proofs.Common.{refl, sym, ◌∙◌}
use Rattle.std.proofs.lemmas.List.{length-map}
use Rattle.gd_network.specs.Links.{lists}
use Rattle.gd_network.proofs.LinkLists.{links_more}
use Rattle.gd_network.proofs.links.links_of.Goals as goal

pub loop-number-preserved : goal.loop-number-preserved
loop-number-preserved c =
    links_more c.args.nodes c.args.arcs.now c.loop-number.number (lists c.loop-number.links.items) (lists c.add.new.links.items) _ c.loop-number.invariant
    (length-map c.add.new.links.items _ ∙ c.in_ok-add.ensures.sized ∙ sym (length-map c.loop-number.links.items _))
    refl c.in_ok-add.ensures.noted
