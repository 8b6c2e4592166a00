use Rattle.std.proofs.Common.{◌≡◌, ◌∷◌, length, map}
use Rattle.std.specs.List.{range_with_len}
use Rattle.gd_replies.specs.Days.{bound_row}
use Rattle.gd_replies.specs.declared.reply.Reply.TheVariants as reply
use Rattle.gd_replies.proofs.day.frozen_replies.Given as goal

-- The head, and the lines so far.
abbrev pub invariant-lines : goal.invariant-lines
invariant-lines l =
    l.rows.items
    ≡ reply.Frozen l.number l.question.cycle l.question.round (length l.question.asked.lines)
    ∷ map (bound_row l.question.asked) (range_with_len 0 l.line)
