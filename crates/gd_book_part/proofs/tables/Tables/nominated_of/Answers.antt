use Rattle.std.proofs.Common.{ℕ, List, length, ap, ◌∙◌, arith}
use Rattle.gd_rules.specs.Lines.{Nomination, lines_of, line_key, of_line, until, last_quantity}
use Rattle.gd_machine.specs.Asking.{nominations}
use Rattle.gd_book_part.proofs.Asking.{nominated_is}
use Rattle.gd_book_part.proofs.tables.Tables.nominated_of.Goals as goal

pub returns : goal.returns
returns c =
    let ns : List Nomination = nominations c.args.opening.now c.args.history.now in
    let lines = c.requires.kept.lines in
    let count = c.lines_until-count.ensures.count in
    let known = c.requires.known in
    let same = ap (λ (l : List Nomination). length (lines_of (until c.args.cycle l))) lines ∙ ap (λ (k : ℕ). length (lines_of (until k ns))) c.requires.current in
    c.nominated.ensures
    ∙ nominated_is c.args.self.now.lines c.args.cycle c.args.line c.lines_until-count.result c.lines_until-count.ensures.first (omega (arith, count, same, known))
    ∙ ap (λ (l : List Nomination). last_quantity (of_line (line_key (until c.args.cycle l) c.args.line) (until c.args.cycle l))) lines
    ∙ ap (λ (k : ℕ). last_quantity (of_line (line_key (until k ns) c.args.line) (until k ns))) c.requires.current
