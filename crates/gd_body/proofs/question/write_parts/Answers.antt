use Rattle.std.proofs.Common.{string_bytes}
use Rattle.gd_body.specs.Rows.{part_row}
use Rattle.gd_body.proofs.RowLists.{row_more}
use Rattle.gd_body.proofs.question.write_parts.Goals as goal

pub elements-preserved : goal.elements-preserved
elements-preserved c =
    row_more (part_row c.args.system.now) (string_bytes c.args.text.now) (string_bytes c.elements.text) (string_bytes c.write_part.new.text) c.elements.element c.elements.invariant c.in_ok-write_part.ensures
