use Rattle.gd_rules.specs.Spread.{class_weight}
use Rattle.gd_schedule.proofs.RowOrder.{by_class}
use Rattle.gd_schedule.proofs.order.compare_weights.Goals as goal

pub returns : goal.returns
returns c = by_class (class_weight c.args.question.now.asked c.args.a.now) (class_weight c.args.question.now.asked c.args.b.now) c.class_weights.result c.class_weights-2.result c.cmp.result c.class_weights.ensures c.class_weights-2.ensures c.cmp.ensures
