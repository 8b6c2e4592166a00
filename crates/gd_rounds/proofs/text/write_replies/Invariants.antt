use Rattle.std.proofs.Common.{◌≡◌, ◌++◌, take}
use Rattle.std.specs.Prelude.{string_bytes}
use Rattle.gd_replies.specs.Lines.{lines_of}
use Rattle.gd_rounds.proofs.text.write_replies.Given as goal

-- the rows so far are appended
abbrev pub invariant-rows : goal.invariant-rows
invariant-rows l = string_bytes l.text ≡ string_bytes l.fn.text ++ lines_of (take l.row-index l.rows)
