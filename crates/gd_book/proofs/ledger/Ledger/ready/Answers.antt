use Rattle.std.proofs.Common.{sym, subst}
use Rattle.gd_machine.specs.Known.{IsSound}
use Rattle.gd_book.proofs.Legal.{sound_kept}
use Rattle.gd_book.proofs.ledger.Ledger.ready.Goals as goal

pub refusal-requires-clause-sound : goal.refusal-requires-clause-sound
refusal-requires-clause-sound c =
    subst (IsSound c.args.self.now.opening) (sym c.deref.ensures.value) (sound_kept c.args.self.now.opening c.args.self.now.tables c.args.self.now.history.items c.requires)
