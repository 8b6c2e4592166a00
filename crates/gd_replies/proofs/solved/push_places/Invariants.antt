use Rattle.std.proofs.Common.{◌≡◌, ◌++◌, drop}
use Rattle.gd_text_part.specs.declared.row.Member.TheVariants as member
use Rattle.gd_replies.specs.Replies.{inside_rows}
use Rattle.gd_replies.proofs.solved.push_places.Given as goal

-- The rows so far and those of the places that are left are all rows.
abbrev pub invariant-places : goal.invariant-places
invariant-places l =
    l.rows.items ++ inside_rows member.Place (drop l.index l.system.places) (drop l.index l.inside)
    ≡ l.fn.rows.items ++ inside_rows member.Place l.system.places l.inside
