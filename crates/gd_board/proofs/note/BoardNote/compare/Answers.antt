use Rattle.std.proofs.Common.{[], ◌∷◌, ◌-◌}
use Rattle.gd_board.proofs.Agreeing.{agree_at}
use Rattle.gd_board.proofs.note.BoardNote.compare.Goals as goal

pub returns-clause-agree : goal.returns-clause-agree
returns-clause-agree c =
    rw (← c.self.view_is, ← c.other.view_is) (λ k. agree_at (c.self.inside.timely.known ∷ c.self.inside.evening.known ∷ c.self.inside.intraday_1.known ∷ c.self.inside.intraday_2.known ∷ c.self.inside.intraday_3.known ∷ [])
    (c.other.inside.timely.known ∷ c.other.inside.evening.known ∷ c.other.inside.intraday_1.known ∷ c.other.inside.intraday_2.known ∷ c.other.inside.intraday_3.known ∷ [])
    (c.compare.ensures.1, (c.compare-2.ensures.1, (c.compare-3.ensures.1, (c.compare-4.ensures.1, (c.compare-5.ensures.1, tt))))) (k - 1))
