use Rattle.std.proofs.Common.{◌+◌, ◌-◌, length, set, ap, ◌∙◌}
use Rattle.gd_book_part.proofs.CycleEnds.{publish_more}
use Rattle.gd_book_part.proofs.tables.Tables.close_cycle.Goals as goal

pub returns : goal.returns
returns c =
    λ reply. publish_more c.args.opening.now c.args.history.now c.args.moment c.args.certificate.now reply c.args.self.now c.later_of-self.result _ c.later_of-self.ensures c.requires.kept c.requires.accepted
    (ap (λ n. set c.args.self.now.published (n - 1) (length c.args.history.now + 1)) (c.from-over.ensures ∙ c.requires.kept.cycle))
