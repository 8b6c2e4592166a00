use Rattle.std.proofs.Common.{◌≡◌, ◌+◌, length}
use Rattle.gd_text_part.specs.Csv.{IsReading, records_left}
use Rattle.gd_text_part.proofs.records.Records.skip_rest.Given as goal

abbrev pub invariant-rest : goal.invariant-rest
invariant-rest l = record {
  reading : IsReading l.self;
  all : l.self.taken + length (records_left l.self) ≡ l.fn.self.taken + length (records_left l.fn.self);
}

abbrev pub decreases-rest : goal.decreases-rest
decreases-rest l = length (records_left l.self)
