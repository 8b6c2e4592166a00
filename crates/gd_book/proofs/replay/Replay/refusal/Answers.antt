use Rattle.gd_machine.proofs.Sound.{prefix_sound}
use Rattle.gd_book.proofs.replay.Replay.refusal.Goals as goal

pub refusal-requires-clause-sound : goal.refusal-requires-clause-sound
refusal-requires-clause-sound c =
    let v = c.self.invariant in
    prefix_sound c.self.inside.opening.now v.opened c.self.inside.history.now v.legal v.passed c.self.inside.at
