use Rattle.std.specs.Prelude.{OnOk}
use Rattle.std.proofs.Common.{◌≡◌, ℕ, ◌+◌, ◌∙◌, List, length, ap, sym, subst, Result, Ok, Err}
use Rattle.gd_text_part.specs.Rows.{◌>>=◌}
use Rattle.gd_text_part.specs.declared.fault.TextFault.{TextFault}
use Rattle.gd_text.specs.Building.{built_from}
use Rattle.gd_text.specs.Members.{members_from}
use Rattle.gd_day.specs.Groups.{checked}
use Rattle.gd_day.specs.Marks.{mark_step, AreBefore}
use Rattle.std.proofs.lemmas.Result.{err_from_is_err_and}
use Rattle.gd_day.proofs.MarkTables.{IsMarked, prices_checked, rows_marked}
use Rattle.gd_day.proofs.group.check_group.Goals as goal

pub returns-in_err-check_prices-clause-checked : goal.returns-in_err-check_prices-clause-checked
returns-in_err-check_prices-clause-checked c =
    let p = err_from_is_err_and c.from_residual.result c.from_residual.ensures.1 in
    let system = c.args.system.now in
    let group = c.args.group.now in
    let told = sym (prices_checked system c.args.first c.args.last.now group c.requires.sized c.requires.before) ∙ ap (λ (o : Result (List ℕ) TextFault). checked o) c.in_err-check_prices.ensures in
    rw (p.1, p.2) (sym (ap (λ (o : Result (Unit {0}) TextFault). o >>= λ made. checked (members_from c.args.first group system)) told))

pub returns-clause-checked : goal.returns-clause-checked
returns-clause-checked c =
    let system = c.args.system.now in
    let group = c.args.group.now in
    let told = sym (prices_checked system c.args.first c.args.last.now group c.requires.sized c.requires.before) ∙ ap (λ (o : Result (List ℕ) TextFault). checked o) c.in_ok-check_prices.ensures in
    c.check_members.ensures ∙ sym (ap (λ (o : Result (Unit {0}) TextFault). o >>= λ made. checked (members_from c.args.first group system)) told)

marked : (n m : ℕ) (built : Result (List ℕ) TextFault) (last : List ℕ) → built ≡ Ok last → IsMarked n m built → IsMarked n m (Ok last)
marked n m built last e h = subst (IsMarked n m) e h

whenever : {X : Type 0} (r : Result X TextFault) (P : Type 0) → P → OnOk r P
whenever (Ok x) P h = h
whenever (Err f) P h = tt

pub returns-clause-before : goal.returns-clause-before
returns-clause-before c =
    let group = c.args.group.now in
    whenever c.check_members.result (AreBefore (c.args.first + length group) c.check_prices.new.last)
    (marked (c.args.first + length group) (length c.args.last.now) (built_from (mark_step c.args.system.now c.args.first) c.args.first c.args.last.now group) c.check_prices.new.last c.in_ok-check_prices.ensures
    (rows_marked c.args.system.now c.args.first c.args.first c.args.last.now group c.requires.before)).0
