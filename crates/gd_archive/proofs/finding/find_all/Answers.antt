use Rattle.std.proofs.Common.{rules, ◌≡◌, ◌+◌, ◌<◌, [], ◌∷◌, ◌++◌, length, sym, subst}
use Rattle.gd_archive.specs.Findings.{IsFinding, before_of}
use Rattle.gd_archive.proofs.Found.{FoundUpTo, one_more, stands_before}
use Rattle.gd_archive.proofs.finding.find_all.Goals as goal

pub rows-preserved : goal.rows-preserved
rows-preserved c =
    let rows = c.args.rows.now in
    let row = c.row-item.result in
    let i = c.rows.row-index in
    let last = c.in_ok-find_row.field-0 in
    let low : i < length rows = search rules in
    let items : c.push.new.self.items ≡ c.rows.findings.items ++ last ∷ [] = search rules in
    let found : IsFinding (before_of rows i) row last = subst (λ o. IsFinding o row last) c.rows.invariant.behind c.in_ok-find_row.ensures in
    record {
      found = subst (FoundUpTo rows (i + 1)) (sym items) (one_more rows c.rows.findings.items row last i c.rows.invariant.found c.row-item.is found);
      behind = stands_before rows i row low c.row-item.is;
    }
