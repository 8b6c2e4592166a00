use Rattle.gd_rules.specs.Schedule.{class_total}
use Rattle.gd_schedule.proofs.RowOrder.{by_class}
use Rattle.gd_schedule.proofs.order.compare_totals.Goals as goal

pub returns : goal.returns
returns c = by_class (class_total c.args.question.now.asked c.args.a.now) (class_total c.args.question.now.asked c.args.b.now) c.class_totals.result c.class_totals-2.result c.cmp.result c.class_totals.ensures c.class_totals-2.ensures c.cmp.ensures
