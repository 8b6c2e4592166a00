use Rattle.std.proofs.Common.{◌≡◌, ◌++◌, map}
use Rattle.std.specs.Vec.Iter.{into_iter_items}
use Rattle.gasday_part.specs.Solutions.{moved}
use Rattle.gasday_part.proofs.solution.all_moved.Given as goal

-- what is told so far, and what is left
abbrev pub invariant-loop-reply : goal.invariant-loop-reply
invariant-loop-reply l = l.all.items ++ map (moved l.before l.more) (into_iter_items l.reply-iterator) ≡ map (moved l.before l.more) l.fn.replies.items
