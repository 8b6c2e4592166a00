use Rattle.std.proofs.Common.{rules, length, ◌≡◌, true, arith, ap, sym, ◌∙◌}
use Rattle.std.specs.Prelude.{Vec}
use Rattle.std.specs.Global.{Global}
use Rattle.csv.specs.Records.{fields_of}
use Rattle.std.specs.Result.{is_ok}
use Rattle.std.proofs.lemmas.Result.{err_from_is_err_and}
use Rattle.gd_text_part.specs.Csv.{records_left}
use Rattle.gd_text_part.specs.Texts.{IsWithin}
use Rattle.gd_text_part.specs.declared.row.Row.{Row}
use Rattle.gd_text_part.proofs.TextScan.{goes_on, refuses, misses, is_done}
use Rattle.gd_text_part.proofs.read.rows_of.Goals as goal

pub rows-preserved : goal.rows-preserved
rows-preserved c =
    let took = rw c.if-branch.true at c.in_ok-advance.ensures.takes in
    let told = rw took.1 at c.rows.invariant.told in
    let good : is_ok c.push.result ≡ true = search rules in
    let items = rw good at c.push.ensures.items in
    record {
      reading = took.0;
      told = rw (items, took.2) (goes_on c.args.form c.rows.place c.row_of.new.place c.rows.records.taken c.in-Ok.row (fields_of c.advance.new.self.current) (records_left c.advance.new.self) c.rows.rows.items _ (rw took.2 at c.in-Ok.ensures.row) told);
      all = omega (arith, c.rows.invariant.all, ap length took.1, took.2);
      scheds = omega (arith, c.in-Ok.ensures.scheds, took.2, c.rows.invariant.scheds);
    }

pub returns-in-Err : goal.returns-in-Err
returns-in-Err c =
    let took = rw c.if-branch.true at c.in_ok-advance.ensures.takes in
    let told = rw took.1 at c.rows.invariant.told in
    let few = c.in_ok-skip_rest-in-Err.ensures.few in
    let within : IsWithin c.args.text.now = record { bytes = c.requires; rows = omega (arith, few, c.rows.invariant.all, ap length took.1, took.2) } in
    refuses {X = Vec Row Global} (λ v. v.items) c.args.form c.args.text.now c.rows.place c.advance.new.self.taken c.rows.records.taken c.in-Err.fault (fields_of c.advance.new.self.current) (records_left c.advance.new.self) c.rows.rows.items took.2 within c.in-Err.ensures.row told

pub returns-in_err-at_end : goal.returns-in_err-at_end
returns-in_err-at_end c =
    let took = rw c.if-branch.false at c.in_ok-advance.ensures.takes in
    let told = rw took.0 at c.rows.invariant.told in
    let missing = rw took.1 at (sym c.at_end.ensures ∙ c.in_err-at_end.was) in
    let p = err_from_is_err_and c.from_residual-in_err-at_end.result c.from_residual-in_err-at_end.ensures.1 in
    rw (p.1, p.2) (
      record { bytes = c.requires; rows = omega (arith, c.rows.invariant.reading.few, c.rows.invariant.all, ap length took.0) },
      misses c.args.form c.rows.place c.rows.records.taken _ c.rows.rows.items _ missing told,
    )

pub returns : goal.returns
returns c =
    let took = rw c.if-branch.false at c.in_ok-advance.ensures.takes in
    let told = rw took.0 at c.rows.invariant.told in
    let whole = rw took.1 at (sym c.at_end.ensures ∙ c.in_ok-at_end.was) in (
      record { bytes = c.requires; rows = omega (arith, c.rows.invariant.reading.few, c.rows.invariant.all, ap length took.0) },
      is_done c.args.form c.rows.place c.rows.records.taken c.rows.rows.items _ whole told,
    )
