use Rattle.gd_live.proofs.FirstGroup.{all_pass, runs_on}
use Rattle.gd_live.proofs.one_text.calls_pass_over_an_opening.Goals as goal

pub returns-clause-passes : goal.returns-clause-passes
returns-clause-passes c = all_pass

pub returns-clause-runs : goal.returns-clause-runs
returns-clause-runs c = runs_on
