use Rattle.std.proofs.Common.{◌-◌, set, ap, ◌∙◌}
use Rattle.gd_book_part.proofs.CycleEnds.{skip_more}
use Rattle.gd_book_part.proofs.tables.Tables.skip.Goals as goal

pub returns : goal.returns
returns c =
    λ reply. skip_more c.args.opening.now c.args.history.now c.args.moment reply c.args.self.now c.later_of-self.result _ c.former_place-place.result c.later_of-self.ensures c.requires.kept c.requires.accepted
    (ap (λ n. set c.args.self.now.published (n - 1) c.former_place-place.result) (c.from-over.ensures ∙ c.requires.kept.cycle)) c.former_place-place.ensures
