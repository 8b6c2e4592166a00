use Rattle.std.proofs.Common.{[], ◌∷◌, refl}
use Rattle.sqlite.specs.Held.{state}
use Rattle.gasday_live.proofs.BegunBooks.{front_more}
use Rattle.gasday_live.proofs.beginning.keep_opening.Goals as goal

pub returns-clause-kept : goal.returns-clause-kept
returns-clause-kept g c up had = c.append.ensures.appended up [] had refl

pub returns-clause-any_moment : goal.returns-clause-any_moment
returns-clause-any_moment g c up had =
    front_more [] ((c.args.text.now, []) ∷ []) (state g.S.Store c.args.conn.now) (state g.S.Store c.append.new.conn) had (c.append.ensures.any_moment up [] had refl)
