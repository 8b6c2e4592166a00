-- What a row is printed from.
use Rattle.std.specs.Prelude.{ℕ, codes, List, [], ◌∷◌}
use Rattle.std.specs.Fmt.{decimal, signed_decimal}
use Rattle.hex.specs.Hex.{encode_lower}
use Rattle.gd_certificate.specs.Names.{cert_fault_name}
use Rattle.gd_machine.specs.Names.{call_name, refusal_name}
use Rattle.gd_text_part.specs.Causes.{fault_row, fault_name, fault_detail}
use Rattle.gd_replies.specs.Lines.{refusal_detail, spread_field}
use Rattle.gd_replies.specs.declared.row.AllFields.{AllFields}
use Rattle.gd_replies.specs.declared.row.Field.{Field}
use Rattle.gd_replies.specs.declared.row.Field.TheVariants as field
use Rattle.gd_replies.specs.declared.row.Row.{Row}
use Rattle.gd_replies.specs.declared.row.Row.TheVariants as row

abbrev pub field_text : Field → List ℕ
field_text (field.Word word) = word.now
field_text (field.Number n) = decimal n
field_text (field.Signed z) = signed_decimal z
field_text (field.Spread spread) = spread_field spread.0
field_text (field.Name name) = name.now
field_text (field.Call call) = call_name call
field_text (field.Refusal refusal) = refusal_name refusal
field_text (field.Detail detail) = refusal_detail detail.0
field_text (field.Certificate fault) = cert_fault_name fault
field_text (field.Sum sum) = encode_lower sum.now

-- the kind and the seven fields of a row
abbrev pub all_fields : AllFields → List (List ℕ)
all_fields r =
    r.0.now ∷ field_text r.1.now ∷ field_text r.2.now ∷ field_text r.3.now ∷ field_text r.4.now ∷ field_text r.5.now ∷ field_text r.6.now ∷ field_text r.7.now ∷ []

-- the fields of a row; those behind them are empty
abbrev pub row_fields : Row → List (List ℕ)
row_fields (row.Fault f) = codes "fault" ∷ fault_row f ∷ fault_name f ∷ fault_detail f ∷ []
row_fields (row.One kind) = kind.now ∷ []
row_fields (row.Two kind a) = kind.now ∷ field_text a ∷ []
row_fields (row.Three kind a b) = kind.now ∷ field_text a ∷ field_text b ∷ []
row_fields (row.Four kind a b c) = kind.now ∷ field_text a ∷ field_text b ∷ field_text c ∷ []
row_fields (row.Five kind a b c d) = kind.now ∷ field_text a ∷ field_text b ∷ field_text c ∷ field_text d ∷ []
row_fields (row.Six kind a b c d e) =
    kind.now ∷ field_text a ∷ field_text b ∷ field_text c ∷ field_text d ∷ field_text e ∷ []
row_fields (row.Seven kind a b c d e g) =
    kind.now ∷ field_text a ∷ field_text b ∷ field_text c ∷ field_text d ∷ field_text e ∷ field_text g ∷ []
row_fields (row.Eight kind a b c d e g h) =
    kind.now ∷ field_text a ∷ field_text b ∷ field_text c ∷ field_text d ∷ field_text e ∷ field_text g ∷ field_text h ∷ []
