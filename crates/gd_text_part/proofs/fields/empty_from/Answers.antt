use Rattle.std.proofs.Common.{◌≡◌, ◌==◌, ◌∙◌, true, false, length, arith, sym, ap}
use Rattle.csv.specs.Records.{fields_of}
use Rattle.gd_text_part.specs.Rows.{field}
use Rattle.gd_text_part.proofs.EmptyFields.{goes_on, stops, is_done}
use Rattle.gd_text_part.proofs.fields.empty_from.Goals as goal

pub returns-then-not-is_empty : goal.returns-then-not-is_empty
returns-then-not-is_empty c =
    let some : (length (field (fields_of c.args.row.now) c.fields.at) == 0) ≡ false = ap (λ f. length f == 0) (sym c.field.ensures) ∙ sym c.is_empty.ensures ∙ c.if-not-is_empty.true in
    stops (fields_of c.args.row.now) c.fields.at _ (omega arith) some c.fields.invariant

pub fields-preserved : goal.fields-preserved
fields-preserved c =
    let none : (length (field (fields_of c.args.row.now) c.fields.at) == 0) ≡ true = ap (λ f. length f == 0) (sym c.field.ensures) ∙ sym c.is_empty.ensures ∙ c.if-not-is_empty.false in
    goes_on (fields_of c.args.row.now) c.fields.at _ (omega arith) none c.fields.invariant

pub returns : goal.returns
returns c = is_done (fields_of c.args.row.now) c.fields.at _ (omega arith) c.fields.invariant
