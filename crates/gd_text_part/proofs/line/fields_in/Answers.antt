use Rattle.std.proofs.Common.{◌++◌, ◌∙◌, ap, arith, sym}
use Rattle.csv.specs.Records.{fields_of}
use Rattle.gd_text_part.proofs.LineCuts.{joins_it, marks_on}
use Rattle.gd_text_part.proofs.line.fields_in.Goals as goal

pub bytes-preserved : goal.bytes-preserved
bytes-preserved c =
    let kept = c.bytes.invariant in
    record {
      begun = omega (arith, kept.begun);
      ended = kept.ended;
      marked = marks_on c.args.line.now c.bytes.at c.bytes-test.true (sym c.is_mark.ensures ∙ c.if-is_mark.false) ∙ kept.marked;
      cut = ap (λ fields. fields_of c.bytes.record ++ fields) (sym (joins_it c.args.line.now c.bytes.begin c.bytes.at c.bytes-test.true kept.begun c.if-line-at-eq44.false)) ∙ kept.cut;
    }
