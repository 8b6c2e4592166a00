use Rattle.std.proofs.Common.{◌<◌, length, sym, subst, arith}
use Rattle.gd_machine.proofs.Sound.{prefix_sound}
use Rattle.gd_book.specs.Replay.{Place}
use Rattle.gd_book.proofs.Replaying.{accepted_at, replayed_more}
use Rattle.gd_book.proofs.replay.Replay.go_on.Goals as goal

pub apply-requires-clause-sound : goal.apply-requires-clause-sound
apply-requires-clause-sound c =
    let v = c.self.invariant in
    prefix_sound c.self.inside.opening.now v.opened c.self.inside.history.now v.legal v.passed c.self.inside.at

pub apply-requires-clause-accepted : goal.apply-requires-clause-accepted
apply-requires-clause-accepted c =
    let within = subst (λ (p : Place). p.at < length p.history) (sym c.self.view_is) c.requires.within in
    (accepted_at c.self.inside.opening.now c.self.inside.history.now c.self.inside.at c.index-history-at.result c.self.invariant.legal within).0

pub invariant_of-self : goal.invariant_of-self
invariant_of-self c =
    let v = c.self.invariant in
    let within = subst (λ (p : Place). p.at < length p.history) (sym c.self.view_is) c.requires.within in
    record {
      opened = v.opened;
      tables = replayed_more c.self.inside.opening.now c.self.inside.history.now c.self.inside.at c.index-history-at.result c.apply.new.self v.legal within c.in-Ok.ensures.done;
      within = omega (arith, within);
      legal = v.legal;
      passed = v.passed;
    }
