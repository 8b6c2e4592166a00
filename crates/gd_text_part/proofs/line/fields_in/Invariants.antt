use Rattle.std.proofs.Common.{◌≡◌, ◌≤◌, ◌-◌, ◌++◌, [], take, drop}
use Rattle.csv.specs.Records.{fields_of, partial_of}
use Rattle.gd_text_part.specs.Lines.{cut_at_commas, is_marked}
use Rattle.gd_text_part.proofs.line.fields_in.Given as goal

-- the bytes that are left are cut, behind the field at hand, as all are, and are marked as all are
abbrev pub invariant-bytes : goal.invariant-bytes
invariant-bytes l = record {
  begun : l.begin ≤ l.at;
  ended : partial_of l.record ≡ [];
  marked : is_marked (drop l.at l.line) ≡ is_marked l.line;
  cut : fields_of l.record ++ cut_at_commas (take (l.at - l.begin) (drop l.begin l.line)) (drop l.at l.line) ≡ cut_at_commas [] l.line;
}
