use Rattle.std.proofs.Common.{ap, sym, ◌∙◌}
use Rattle.std.specs.Map.{keys_of}
use Rattle.std.proofs.lemmas.Map.Made.{is_some-lookup}
use Rattle.gd_table.proofs.Places.{keys_push}
use Rattle.gd_system.specs.Pipeline.{same_name}
use Rattle.gd_system.proofs.Growth.{entered_new, entered_known}
use Rattle.gd_system.proofs.builder.enter.Goals as goal

pub returns-then-not-contains_key-clause-keys : goal.returns-then-not-contains_key-clause-keys
returns-then-not-contains_key-clause-keys c =
    let es = c.args.names.now.entries in
    let new = sym (is_some-lookup (same_name c.args.name) es) ∙ sym c.contains_key.ensures ∙ c.if-not-contains_key.true in
    ap keys_of c.push.ensures.last ∙ keys_push es _ ∙ sym (entered_new (keys_of es) c.args.name new)

pub returns-else-not-contains_key-clause-keys : goal.returns-else-not-contains_key-clause-keys
returns-else-not-contains_key-clause-keys c =
    let es = c.args.names.now.entries in
    let there = sym (is_some-lookup (same_name c.args.name) es) ∙ sym c.contains_key.ensures ∙ c.if-not-contains_key.false in
    sym (entered_known (keys_of es) c.args.name there)
