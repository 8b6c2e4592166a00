use Rattle.std.proofs.Common.{List, ℕ, subst}
use Rattle.std.specs.Prelude.{OnOk}
use Rattle.gd_serving.specs.Seen.{seen}
use Rattle.gd_serving.specs.Yields.{Yield, Adds}
use Rattle.gd_live.specs.Seen.{stand_of}
use Rattle.gd_live.specs.Lines.{BareGives}
use Rattle.gd_live.proofs.live_book.LiveBook.take_line.Goals as goal

pub returns : goal.returns
returns g c = record {
  gives = subst
      (λ (l : List ℕ). OnOk c.take_bare.result ((more : Yield) × BareGives (stand_of c.args.self.now) l (stand_of c.take_bare.new.self) more × Adds (seen c.args.given.now) (seen c.take_bare.new.given) more))
      c.bare-plain.ensures c.take_bare.ensures;
}
