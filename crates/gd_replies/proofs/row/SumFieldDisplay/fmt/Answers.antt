use Rattle.std.proofs.Common.{sym, subst}
use Rattle.std.specs.Str.{IsUtf8}
use Rattle.std.proofs.lemmas.Str.{IsUtf8-from_ascii}
use Rattle.hex.specs.Hex.{encode_lower, lower_digits}
use Rattle.hex.proofs.HexLemmas.{IsAscii-encode_with}
use Rattle.gd_replies.proofs.Digits.{IsAscii-lower_digits}
use Rattle.gd_replies.proofs.row.SumFieldDisplay.fmt.Goals as goal

pub unreachable-requires-in-Err : goal.unreachable-requires-in-Err
unreachable-requires-in-Err g c =
    let ascii = IsAscii-encode_with lower_digits c.as_slice.result.now IsAscii-lower_digits in
    let utf8 = IsUtf8-from_ascii (encode_lower c.as_slice.result.now) ascii in
    c.in-Err.ensures.cases.0 (subst IsUtf8 (sym c.in-Ok.ensures.written) utf8)
