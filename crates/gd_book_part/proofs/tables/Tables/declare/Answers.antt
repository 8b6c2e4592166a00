use Rattle.gd_book_part.proofs.NextEvent.{declare_more}
use Rattle.gd_book_part.proofs.tables.Tables.declare.Goals as goal

pub returns : goal.returns
returns c = λ reply. declare_more c.args.opening.now c.args.history.now c.args.moment c.args.round c.args.cut.now reply c.args.self.now c.later_of-self.result c.later_of-self.ensures c.requires.kept c.requires.accepted
