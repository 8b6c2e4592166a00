use Rattle.std.proofs.Common.{List, sym, ap, ◌∙◌}
use Rattle.std.specs.List.{position_or_len}
use Rattle.gd_rules.specs.Lines.{Nomination, same_key, lines_of}
use Rattle.gd_book_part.proofs.Commitments.{absent_number}
use Rattle.gd_book_part.proofs.tables.Tables.line_number.Goals as goal

pub returns-in-None : goal.returns-in-None
returns-in-None c =
    c.len.ensures ∙ sym (absent_number c.args.self.now.lines c.args.key.now (sym c.find.ensures ∙ c.in-None.is))
    ∙ ap (λ (ns : List Nomination). position_or_len (same_key c.args.key.now) (lines_of ns)) c.requires.lines
