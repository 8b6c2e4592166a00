use Rattle.std.proofs.Common.{List, length, sym, ap, ◌∙◌}
use Rattle.std.specs.Prelude.{position}
use Rattle.std.proofs.lemmas.List.{length-map}
use Rattle.gd_table.specs.Table.{keys as keys_in}
use Rattle.gd_rules.specs.Lines.{Key, Nomination, same_key}
use Rattle.gd_lines.specs.Numbering.{number_within, numbered}
use Rattle.gd_lines.proofs.Entering.{too_many, next_number}
use Rattle.gd_lines.proofs.lines.Lines.check_key.Goals as goal

pub returns-then-count-ge-MAX_LINES : goal.returns-then-count-ge-MAX_LINES
returns-then-count-ge-MAX_LINES c =
    let count = c.len-count.ensures.is ∙ sym (length-map c.self.inside.keys.entries (λ e. e.0)) in
    let place = position (same_key c.args.key) in
    sym (too_many c.len-count.result c.if-count-ge-MAX_LINES.true)
    ∙ ap (number_within c.len-count.result) (sym c.in-None.is ∙ c.get_index_of.ensures.is)
    ∙ ap (λ n. number_within n (place (keys_in c.self.inside.keys))) count
    ∙ ap (λ (keys : List Key). number_within (length keys) (place keys)) c.self.invariant.keyed
    ∙ ap (λ (ns : List Nomination). numbered ns c.args.key) c.self.view_is

pub returns-else-count-ge-MAX_LINES : goal.returns-else-count-ge-MAX_LINES
returns-else-count-ge-MAX_LINES c =
    let count = c.len-count.ensures.is ∙ sym (length-map c.self.inside.keys.entries (λ e. e.0)) in
    let place = position (same_key c.args.key) in
    sym (next_number c.len-count.result c.if-count-ge-MAX_LINES.false)
    ∙ ap (number_within c.len-count.result) (sym c.in-None.is ∙ c.get_index_of.ensures.is)
    ∙ ap (λ n. number_within n (place (keys_in c.self.inside.keys))) count
    ∙ ap (λ (keys : List Key). number_within (length keys) (place keys)) c.self.invariant.keyed
    ∙ ap (λ (ns : List Nomination). numbered ns c.args.key) c.self.view_is
