use Rattle.gd_office_part.proofs.kept.make_call.Goals as goal

pub returns-in-Publish-clause-fresh : goal.returns-in-Publish-clause-fresh
returns-in-Publish-clause-fresh c = rw c.in-Publish.is c.publish.ensures.fresh

pub returns-in-Publish-clause-stays : goal.returns-in-Publish-clause-stays
returns-in-Publish-clause-stays c = c.publish.ensures.stays
