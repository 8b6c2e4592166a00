use Rattle.std.proofs.Common.{◌≤◌, List, All, sym, ap, subst, ◌∙◌}
use Rattle.gd_rules.specs.Lines.{Nomination, of_line, last_quantity}
use Rattle.gd_book_part.proofs.Commitments.{last_found, absent_key}
use Rattle.gd_book_part.proofs.tables.Tables.nominated_last.Goals as goal

pub returns-in-Some : goal.returns-in-Some
returns-in-Some c =
    let all = subst (All (λ (n : Nomination). (1 ≤ n.cycle) × (n.cycle ≤ 5))) (sym c.requires.kept.lines) c.requires.sound.in_day in
    record {
      is =
          c.get.ensures.is ∙ c.nominated.ensures
          ∙ last_found c.args.self.now.lines c.args.key.now c.in-Some.line all (sym c.find.ensures ∙ c.in-Some.is)
          ∙ ap (λ (ns : List Nomination). last_quantity (of_line c.args.key.now ns)) c.requires.kept.lines;
    }

pub returns-in-None : goal.returns-in-None
returns-in-None c =
    record { is = sym (ap (λ (ns : List Nomination). last_quantity (of_line c.args.key.now ns)) (sym c.requires.kept.lines) ∙ absent_key c.args.self.now.lines c.args.key.now (sym c.find.ensures ∙ c.in-None.is)) }
