use Rattle.gd_journal_store.proofs.appending.append.Goals as goal

pub returns-in_err-enter-clause-any_moment : goal.returns-in_err-enter-clause-any_moment
returns-in_err-enter-clause-any_moment g c = c.enter.ensures.any_moment

pub returns-clause-appended : goal.returns-clause-appended
returns-clause-appended g c = c.in_ok-enter.ensures.appended

pub returns-clause-any_moment : goal.returns-clause-any_moment
returns-clause-any_moment g c = c.enter.ensures.any_moment
