use Rattle.std.specs.Prelude.{◌⊎◌}
use Rattle.std.proofs.Common.{◌≡◌, ℕ, ◌∙◌, List, ap, inl, inr, Result, Ok, Err}
use Rattle.gd_rules.specs.Lines.{Key}
use Rattle.gd_system.specs.Pipeline.{Pipeline}
use Rattle.gd_contracts.specs.Holdings.{Holdings}
use Rattle.gd_text_part.specs.Dates.{YearMonthDay}
use Rattle.gd_text_part.specs.Rows.{◌>>=◌}
use Rattle.gd_text_part.specs.declared.fault.TextFault.{TextFault}
use Rattle.gd_text_part.specs.declared.fault.TextFault.TheVariants as fault
use Rattle.gd_text_part.specs.declared.row.Row.{Row}
use Rattle.gd_text.specs.Values.{pipeline_of}
use Rattle.gd_day.specs.Calls.{calls_of}
use Rattle.gd_day.specs.Carrying.{carry_of}
use Rattle.gd_day.specs.ContractRows.{contracts_on}
use Rattle.gd_day.specs.Groups.{checked_calls}
use Rattle.gd_day.specs.Heads.{head_of}
use Rattle.gd_day.specs.Opening.{Opened, opened_of}
use Rattle.gd_day.proofs.CallGroups.{all_pass}
use Rattle.gd_day.proofs.text.day_text_of.Goals as goal

abbrev Head : Type 0
Head = YearMonthDay × List ℕ × List ℕ

abbrev with_calls : Holdings → Head → List (Key × ℕ) → Unit {0} → Result Opened TextFault
with_calls holdings head carry made = Ok (record { date = head.0; zone = head.1; book = head.2; holdings = holdings; carry = carry })

abbrev with_carry : List Row → Holdings → Head → List (Key × ℕ) → Result Opened TextFault
with_carry rows holdings head carry = checked_calls holdings.pipeline (calls_of rows) >>= with_calls holdings head carry

abbrev with_head : List Row → Holdings → Head → Result Opened TextFault
with_head rows holdings head = carry_of rows >>= with_carry rows holdings head

abbrev with_holdings : List Row → Holdings → Result Opened TextFault
with_holdings rows holdings = head_of rows >>= with_head rows holdings

abbrev with_pipeline : List Row → Pipeline → Result Opened TextFault
with_pipeline rows p = contracts_on rows p >>= with_holdings rows

to_holdings : (rows : List Row) (p : Pipeline) (holdings : Holdings) → pipeline_of rows ≡ Ok p → contracts_on rows p ≡ Ok holdings → opened_of rows ≡ with_holdings rows holdings
to_holdings rows p holdings e f = ap (λ (o : Result Pipeline TextFault). o >>= with_pipeline rows) e ∙ ap (λ (o : Result Holdings TextFault). o >>= with_holdings rows) f

-- a refusal of a part is one of the whole
either : {X : Type 0} (f : TextFault) (part : Result X TextFault) (whole : Result Opened TextFault) (rest : X → Result Opened TextFault) → whole ≡ (part >>= rest)
    → (f ≡ fault.OutOfMemory) ⊎ (part ≡ Err f) → (f ≡ fault.OutOfMemory) ⊎ (whole ≡ Err f)
either f part whole rest e (inl m) = inl m
either {X = X} f part whole rest e (inr q) = inr (e ∙ ap (λ (o : Result X TextFault). o >>= rest) q)

pub returns-in-Ok-check_calls-clause-passed : goal.returns-in-Ok-check_calls-clause-passed
returns-in-Ok-check_calls-clause-passed c =
    let holdings = c.in_ok-contracts.contracts in
    all_pass holdings.pipeline (calls_of c.args.rows.now) (rw c.system.ensures at c.in-Ok-check_calls.ensures)
