-- What a clause sees of an answer.
use Rattle.std.specs.Prelude.{Bool, [], ◌∷◌, ◌++◌, List, if◌then◌else◌}
use Rattle.gd_replies.specs.declared.reply.Reply.{Reply}
use Rattle.gasday_part.specs.declared.answer.Answer.{Answer}
use Rattle.gasday_part.specs.Answers.{Told, no_memory}

-- the row that tells that memory ran out, where it is to be told
abbrev pub last_row : Bool → List Reply
last_row short = if short then no_memory ∷ [] else []

abbrev pub answer_seen : Answer → Told
answer_seen a = record { replies = a.replies.items ++ last_row a.short; status = a.status }
