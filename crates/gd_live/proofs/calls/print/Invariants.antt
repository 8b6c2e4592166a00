use Rattle.std.proofs.Common.{◌≡◌, ◌++◌, take, string_bytes}
use Rattle.gd_replies.specs.Lines.{lines_of}
use Rattle.gd_live.proofs.calls.print.Given as goal

-- the replies so far were printed
abbrev pub invariant-told : goal.invariant-told
invariant-told l = string_bytes l.text ≡ string_bytes l.fn.text ++ lines_of (take l.reply-index l.told)
