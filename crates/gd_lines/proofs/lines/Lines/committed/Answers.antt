use Rattle.std.proofs.Common.{◌≡◌, ◌∙◌, ap, arith}
use Rattle.std.specs.Prelude.{unwrap_or}
use Rattle.gd_table.specs.Table.{keys as keys_in}
use Rattle.gd_lines.specs.LinesInside.{accepted_of, sum_in}
use Rattle.gd_lines.proofs.After.{sum_small}
use Rattle.gd_lines.proofs.lines.Lines.committed.Goals as goal

pub returns-clause-small : goal.returns-clause-small
returns-clause-small c =
    let l = c.self.inside in
    let k = c.self.invariant in
    let is : c.unwrap_or.result ≡ sum_in l c.args.contract = c.unwrap_or.ensures ∙ ap (λ o. unwrap_or o 0) c.get.ensures in
    let sum = k.summed c.args.contract in
    let small = sum_small (accepted_of l) (keys_in l.keys) k.bounded k.keyed c.args.contract k.few in
    omega (arith, is, sum, small)
