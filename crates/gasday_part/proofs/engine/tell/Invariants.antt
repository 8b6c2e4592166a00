use Rattle.gasday_part.proofs.Writing.{IsPrinted}
use Rattle.gasday_part.proofs.engine.tell.Given as goal

abbrev pub invariant-replies : goal.invariant-replies
invariant-replies g l = IsPrinted (g.W.Write.contents l.fn.writer) (g.W.Write.contents l.writer) l.replies l.reply-index l.block.items
