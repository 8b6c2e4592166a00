use Rattle.std.proofs.Common.{◌≡◌, ◌+◌, ◌++◌, drop, map}
use Rattle.std.specs.List.{enumerate_from}
use Rattle.gd_replies.specs.Replies.{sched_rows}
use Rattle.gd_replies.specs.declared.reply.Reply.TheVariants as reply
use Rattle.gd_replies.proofs.solved.push_schedule.Given as goal

-- The rows so far and those of the lines that are left are all rows.
abbrev pub invariant-lines : goal.invariant-lines
invariant-lines l = l.rows.items ++ map (λ line. reply.Sched line.0 line.1) (enumerate_from (l.index + 1) (drop l.index l.schedule)) ≡ l.fn.rows.items ++ sched_rows l.schedule
