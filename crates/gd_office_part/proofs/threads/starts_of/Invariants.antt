use Rattle.std.proofs.Common.{◌≡◌, map, take}
use Rattle.gd_office_part.specs.Sending.{start_of}
use Rattle.gd_office_part.proofs.threads.starts_of.Given as goal

abbrev pub invariant-loop-session : goal.invariant-loop-session
invariant-loop-session g l = l.starts.items ≡ map start_of (take l.session-index l.sessions)
