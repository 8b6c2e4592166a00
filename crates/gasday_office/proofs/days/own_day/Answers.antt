use Rattle.std.specs.Prelude.{map}
use Rattle.std.proofs.Common.{◌∙◌, subst, sym}
use Rattle.gd_text.specs.Building.{Builds}
use Rattle.gasday_office.specs.Days.{opened, head_at}
use Rattle.gasday_office.proofs.BookNames.{no_head}
use Rattle.gasday_office.proofs.days.own_day.Goals as goal

pub returns-in_default-clause-values : goal.returns-in_default-clause-values
returns-in_default-clause-values c =
    subst (Builds opened c.day_text_of.result)
    (sym (no_head (map opened c.args.days.now) c.args.rows.now (head_at 1 c.args.rows.now) (sym c.head_at.ensures.at ∙ c.in_default.is)))
    c.day_text_of.ensures.values
