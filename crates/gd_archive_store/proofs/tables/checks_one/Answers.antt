use Rattle.std.proofs.Common.{◌≡◌, ◌≤◌, length, suc, arith, ◌∙◌, sym, rules}
use Rattle.sqlite_schema.specs.Code.{terms_in}
use Rattle.gd_archive_store.proofs.Terms.{one_check, one_whole}
use Rattle.gd_archive_store.proofs.tables.checks_one.Goals as goal

pub returns-then-nodes-lt2 : goal.returns-then-nodes-lt2
returns-then-nodes-lt2 c =
    let nodes = c.as_slice-nodes.result.now in
    let roots = c.as_slice.result.now in
    let same : terms_in nodes roots ≡ c.args.checks.now = rw (c.as_slice-nodes.ensures, c.as_slice.ensures) c.checks.view_is in
    let low : suc (length nodes) ≤ 2 = search rules in
    (λ b. absurd cc, λ h. let it = one_whole nodes roots (same ∙ h) in absurd (omega (arith, it.1, low)))

pub returns : goal.returns
returns c =
    let nodes = c.as_slice-nodes.result.now in
    let roots = c.as_slice.result.now in
    let same : terms_in nodes roots ≡ c.args.checks.now = rw (c.as_slice-nodes.ensures, c.as_slice.ensures) c.checks.view_is in
    let deep : 2 ≤ length nodes = search rules in
    let test = c.is_number.ensures in
    (λ b. sym same ∙ one_check nodes roots c.in-len1.len_at_least c.in-len1.len_below deep (test.0 b), λ h. test.1 (one_whole nodes roots (same ∙ h)).2)
