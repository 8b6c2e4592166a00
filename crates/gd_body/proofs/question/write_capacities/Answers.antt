use Rattle.std.proofs.Common.{string_bytes}
use Rattle.gd_body.specs.Rows.{capacity_row}
use Rattle.gd_body.proofs.RowLists.{rows_more}
use Rattle.gd_body.proofs.question.write_capacities.Goals as goal

pub elements-preserved : goal.elements-preserved
elements-preserved c =
    rows_more (capacity_row c.args.question.now) (string_bytes c.args.text.now) (string_bytes c.elements.text) (string_bytes c.write_capacity.new.text) c.elements.element c.elements.invariant c.in_ok-write_capacity.ensures
