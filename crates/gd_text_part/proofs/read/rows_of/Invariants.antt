use Rattle.std.proofs.Common.{◌≡◌, ◌≤◌, ◌+◌, length}
use Rattle.gd_text_part.specs.Csv.{IsReading, records_left, records_of}
use Rattle.gd_text_part.specs.Texts.{rows_from, rows_of}
use Rattle.gd_text_part.proofs.TextScan.{with_front}
use Rattle.gd_text_part.proofs.read.rows_of.Given as goal

abbrev pub invariant-rows : goal.invariant-rows
invariant-rows l = record {
  reading : IsReading l.records;
  told : with_front l.rows.items (rows_from l.form l.place l.records.taken (records_left l.records)) ≡ rows_of l.form l.text;
  all : l.records.taken + length (records_left l.records) ≡ length (records_of l.text);
  scheds : l.place.scheds ≤ l.records.taken;
}

abbrev pub decreases-rows : goal.decreases-rows
decreases-rows l = length (records_left l.records)
