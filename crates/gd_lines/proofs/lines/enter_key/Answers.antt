use Rattle.std.proofs.Common.{is_some, sym, ap, ◌∙◌}
use Rattle.std.specs.Map.{keys_of}
use Rattle.std.proofs.lemmas.List.{length-map}
use Rattle.std.proofs.lemmas.Map.Made.{is_some-lookup}
use Rattle.gd_table.proofs.Places.{keys_push}
use Rattle.gd_rules.specs.Lines.{same_key}
use Rattle.gd_lines.proofs.Entering.{there_is, entered_there, entered_last, last_at}
use Rattle.gd_lines.proofs.lines.enter_key.Goals as goal

pub returns-in-Some-clause-keys : goal.returns-in-Some-clause-keys
returns-in-Some-clause-keys c =
    let es = c.args.keys.now.entries in
    let there = sym (is_some-lookup (same_key c.args.key) es) ∙ sym c.get_index_of.ensures.found ∙ ap is_some c.in-Some.is in
    sym (entered_there c.args.key (keys_of es) there)

pub returns-in-Some-clause-key : goal.returns-in-Some-clause-key
returns-in-Some-clause-key c = there_is c.args.key (keys_of c.args.keys.now.entries) c.in-Some.line (sym c.get_index_of.ensures.is ∙ c.in-Some.is)

pub returns-in-None-clause-keys : goal.returns-in-None-clause-keys
returns-in-None-clause-keys c =
    let es = c.args.keys.now.entries in
    let new = sym (is_some-lookup (same_key c.args.key) es) ∙ sym c.get_index_of.ensures.found ∙ ap is_some c.in-None.is in
    ap keys_of c.push.ensures.last ∙ keys_push es _ ∙ sym (entered_last c.args.key (keys_of es) new)

pub returns-in-None-clause-number : goal.returns-in-None-clause-number
returns-in-None-clause-number c =
    let es = c.args.keys.now.entries in
    c.len-line.ensures.is ∙ sym (length-map es (λ e. e.0)) ∙ sym (last_at c.args.key (keys_of es) (sym c.get_index_of.ensures.is ∙ c.in-None.is))
