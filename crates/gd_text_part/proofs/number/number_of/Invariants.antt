use Rattle.std.proofs.Common.{◌≡◌, ◌<◌, ◌^◌, drop}
use Rattle.gd_text_part.specs.Numbers.{number_after}
use Rattle.gd_text_part.proofs.number.number_of.Given as goal

abbrev pub invariant-digits : goal.invariant-digits
invariant-digits l = record {
  told : number_after l.number (drop l.b-index l.bytes) ≡ number_after 0 l.bytes;
  small : l.number < 10 ^ l.b-index;
}
