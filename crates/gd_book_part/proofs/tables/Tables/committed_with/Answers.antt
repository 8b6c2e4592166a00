use Rattle.std.proofs.Common.{◌≡◌, ◌+◌, ◌-◌, ◌≤◌, List, ap, ap₂, subst, ◌∙◌, arith}
use Rattle.gd_rules.specs.Lines.{Key, Nomination, of_line, last_quantity, committed}
use Rattle.gd_rules.specs.Lists.{nominated}
use Rattle.gd_machine.specs.Asking.{nominations}
use Rattle.gd_book_part.proofs.Commitments.{committed_then, nominated_last}
use Rattle.gd_book_part.proofs.tables.Tables.committed_with.Goals as goal

pub overflow_sub-result : goal.overflow_sub-result
overflow_sub-result c =
    let ns = nominations c.args.opening.now c.args.history.now in
    let key : Key = c.args.key.now in
    let within : nominated ns key 5 ≤ committed ns key.contract = subst (λ (l : List Nomination). nominated l key 5 ≤ committed l key.contract) c.requires.kept.lines (c.known.ensures.within key) in
    let last = nominated_last ns key c.requires.sound.in_day in
    let sum : c.committed.result ≡ committed ns key.contract = c.committed.ensures.is ∙ ap₂ committed c.requires.kept.lines (ap (λ (k : Key). k.contract) c.key.view_is) in
    let former : c.nominated_last-former.result ≡ last_quantity (of_line key ns) = c.nominated_last-former.ensures.is in
    omega (arith, within, last, sum, former)

pub returns : goal.returns
returns c =
    let ns = nominations c.args.opening.now c.args.history.now in
    let key : Key = c.args.key.now in
    let within : nominated ns key 5 ≤ committed ns key.contract = subst (λ (l : List Nomination). nominated l key 5 ≤ committed l key.contract) c.requires.kept.lines (c.known.ensures.within key) in
    let last = nominated_last ns key c.requires.sound.in_day in
    let sum : c.committed.result ≡ committed ns key.contract = c.committed.ensures.is ∙ ap₂ committed c.requires.kept.lines (ap (λ (k : Key). k.contract) c.key.view_is) in
    let former : c.nominated_last-former.result ≡ last_quantity (of_line key ns) = c.nominated_last-former.ensures.is in
    let then = committed_then ns key c.args.quantity (omega (arith, within, last)) in
    let quantity : c.get.result ≡ c.args.quantity = c.get.ensures.is in
    ap₂ (λ a b. a - b + c.get.result) sum former ∙ ap (λ n. committed ns key.contract - last_quantity (of_line key ns) + n) quantity ∙ then
