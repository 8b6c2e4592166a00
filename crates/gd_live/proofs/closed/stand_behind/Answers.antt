use Rattle.std.proofs.Common.{[], ap, arith, sym, ◌∙◌}
use Rattle.std.proofs.lemmas.List.{drop_all}
use Rattle.csv.specs.declared.parser.State.TheVariants.{StartRecord}
use Rattle.gd_live.specs.CsvStands.{state_of}
use Rattle.gd_live.proofs.States.{state_behind, left_state}
use Rattle.gd_live.proofs.closed.stand_behind.Goals as goal

pub returns : goal.returns
returns c =
    let text = c.args.text.now in
    let none = drop_all c.bytes.byte-index text (omega arith) in
    sym (ap (state_behind (state_of c.bytes.stand)) none) ∙ c.bytes.invariant ∙ sym (left_state StartRecord [] [] text)
