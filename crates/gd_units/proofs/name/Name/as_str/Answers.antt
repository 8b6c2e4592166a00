use Rattle.gd_units.proofs.NameText.{name_is_text}
use Rattle.gd_units.proofs.name.Name.as_str.Goals as goal

pub unreachable-requires : goal.unreachable-requires
unreachable-requires c = c.in-Err.ensures.cases.0 (rw c.as_bytes.ensures.bytes (name_is_text c.args.self.now c.as_bytes.ensures.named))
