use Rattle.std.proofs.Common.{◌∙◌, length, ap, refl, inl, arith}
use Rattle.csv.specs.Records.{fields_of}
use Rattle.gd_text_part.proofs.RecordReads.{takes, ends}
use Rattle.gd_text_part.proofs.records.Records.advance.Goals as goal

pub returns-in-Ok-true-clause-fault : goal.returns-in-Ok-true-clause-fault
returns-in-Ok-true-clause-fault c =
    let read = rw c.in-Ok-true.field-0-test at c.in-Ok-true.ensures.reads in
    let got = takes c.args.self.now.reader c.read_byte_record.new.self (fields_of c.read_byte_record.new.row) c.requires.known.0 c.requires.config c.requires.known.1 (read c.requires.trim c.requires.ready) in
    omega (arith, ap length got.2, c.if-self-eq-MAX_ROWS.true)

pub returns-in-Ok-true-2-clause-takes : goal.returns-in-Ok-true-2-clause-takes
returns-in-Ok-true-2-clause-takes c =
    let read = (rw c.in-Ok-true.field-0-test at c.in-Ok-true.ensures.reads) c.requires.trim c.requires.ready in
    let got = takes c.args.self.now.reader c.read_byte_record.new.self (fields_of c.read_byte_record.new.row) c.requires.known.0 c.requires.config c.requires.known.1 read in (
      record {
        trim = read.3 ∙ c.requires.trim;
        ready = inl (c.in-Ok-true.ensures.ready c.requires.trim);
        config = read.2 ∙ c.requires.config;
        flexible = c.in-Ok-true.ensures.flexible ∙ c.requires.flexible;
        known = (got.0, got.1);
        few = omega (arith, c.requires.few, c.if-self-eq-MAX_ROWS.false);
      },
      got.2,
      refl,
    )

pub returns-in-Ok-false-clause-takes : goal.returns-in-Ok-false-clause-takes
returns-in-Ok-false-clause-takes c =
    let read = (rw c.in-Ok-false.field-0-test at c.in-Ok-false.ensures.reads) c.requires.trim c.requires.ready in
    (ends c.args.self.now.reader c.read_byte_record.new.self (fields_of c.read_byte_record.new.row) c.requires.known.0 c.requires.config c.requires.known.1 read, refl)
