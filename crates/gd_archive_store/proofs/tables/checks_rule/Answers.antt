use Rattle.std.proofs.Common.{◌≡◌, ◌≤◌, length, suc, arith, ◌∙◌, sym, rules}
use Rattle.sqlite_schema.specs.Code.{terms_in}
use Rattle.gd_archive_store.proofs.Terms.{rule_check, rule_check_whole}
use Rattle.gd_archive_store.proofs.tables.checks_rule.Goals as goal

pub returns-then-nodes-lt3 : goal.returns-then-nodes-lt3
returns-then-nodes-lt3 c =
    let nodes = c.as_slice-nodes.result.now in
    let roots = c.as_slice.result.now in
    let same : terms_in nodes roots ≡ c.args.checks.now = rw (c.as_slice-nodes.ensures, c.as_slice.ensures) c.checks.view_is in
    let low : suc (length nodes) ≤ 3 = search rules in
    (λ b. absurd cc, λ h. let it = rule_check_whole nodes roots (same ∙ h) in absurd (omega (arith, it.1, low)))

pub returns : goal.returns
returns c =
    let nodes = c.as_slice-nodes.result.now in
    let roots = c.as_slice.result.now in
    let same : terms_in nodes roots ≡ c.args.checks.now = rw (c.as_slice-nodes.ensures, c.as_slice.ensures) c.checks.view_is in
    let deep : 3 ≤ length nodes = search rules in
    let test = c.is_rule.ensures in
    (λ b. sym same ∙ rule_check nodes roots c.in-len1.len_at_least c.in-len1.len_below deep (test.0 b), λ h. test.1 (rule_check_whole nodes roots (same ∙ h)).2)
