-- What opens a book passes over rows of calls.
use Rattle.std.proofs.Common.{◌≡◌, ℕ, ◌+◌, Bool, true, false, List, [], ◌∷◌, ◌++◌, length, Result, Ok, Err, refl, ap, sym, subst, ◌∙◌, arith}
use Rattle.std.specs.Prelude.{Option, Some, None, if◌then◌else◌, ◌==◌}
use Rattle.std.specs.List.{AllByRecursion}
use Rattle.std.specs.Result.{is_ok}
use Rattle.gd_contracts.specs.Adding.{none_on}
use Rattle.gd_contracts.specs.Holdings.{Holdings}
use Rattle.gd_rules.specs.Lines.{Key}
use Rattle.gd_system.specs.Building.{empty}
use Rattle.gd_system.specs.Pipeline.{Pipeline}
use Rattle.gd_system.specs.declared.BuildFault.TheVariants as build
use Rattle.gd_text_part.specs.Rows.{◌>>=◌}
use Rattle.gd_text_part.specs.declared.fault.Cause.TheVariants as cause
use Rattle.gd_text_part.specs.declared.fault.TextFault.{TextFault}
use Rattle.gd_text_part.specs.declared.fault.TextFault.TheVariants as fault
use Rattle.gd_text_part.specs.declared.row.Row.{Row}
use Rattle.gd_text_part.specs.declared.row.Row.TheVariants as row
use Rattle.gd_live.specs.Calls.{is_of_call}
use Rattle.gd_live.proofs.AmongCalls.{bound, inside}
use Rattle.gd_text.specs.Building.{built_from}
use Rattle.gd_text.specs.Members.{members_from}
use Rattle.gd_text.specs.Prices.{prices_from}
use Rattle.gd_text.specs.Values.{pipeline_step, pipeline_of, finished}
use Rattle.gd_day.specs.Calls.{Call, calls_of}
use Rattle.gd_day.specs.Carrying.{carry_step, carry_of}
use Rattle.gd_day.specs.ContractRows.{contract_step, contracts_on}
use Rattle.gd_day.specs.Groups.{AllPass, Passes, checked, checked_group, checked_calls}
use Rattle.gd_day.specs.Heads.{Head, first_head, head_under, head_of}
use Rattle.gd_day.specs.Opening.{Opened, opened_of}
use Rattle.gd_day.proofs.RowNumbers.{prices_whatever, members_whatever}

-- ---- values that rows build

module _ {X : Type 0} (step : ℕ → X → Row → Result X TextFault) where
  -- rows behind rows go on with what these built
  pub goes_on : (n : ℕ) (x y : X) (rows more : List Row) → built_from step n x rows ≡ Ok y → built_from step n x (rows ++ more) ≡ built_from step (n + length rows) y more
  unfolding built_from
  goes_on n x y [] more h =
      let still : n ≡ n + 0 = omega arith in
      ap (λ z. built_from step n z more) (inside TextFault x y h) ∙ ap (λ k. built_from step k y more) still
  goes_on n x y (r ∷ rows) more h =
      let taken = bound (step n x r) _ y h in
      let count : n + 1 + length rows ≡ n + length (r ∷ rows) = omega arith in
      ap (λ (o : Result X TextFault). o >>= λ z. built_from step (n + 1) z (rows ++ more)) taken.1
      ∙ goes_on (n + 1) taken.0 y rows more taken.2 ∙ ap (λ k. built_from step k y more) count

  -- rows that the step passes over build nothing
  pub nothing_built : (P : Row → Type 0) → ((n : ℕ) (x : X) (r : Row) → P r → step n x r ≡ Ok x) → (n : ℕ) (x : X) (rows : List Row) → AllByRecursion P rows → built_from step n x rows ≡ Ok x
  unfolding built_from
  nothing_built P over n x [] all = refl
  nothing_built P over n x (r ∷ rows) all =
      ap (λ (o : Result X TextFault). o >>= λ z. built_from step (n + 1) z rows) (over n x r all.0) ∙ nothing_built P over (n + 1) x rows all.1

  still_built : ((n : ℕ) (x : X) (r : Row) → is_of_call r ≡ true → step n x r ≡ Ok x) → (n : ℕ) (x y : X) (rows more : List Row) → AllByRecursion (λ r. is_of_call r ≡ true) more
      → built_from step n x rows ≡ Ok y → built_from step n x (rows ++ more) ≡ Ok y
  still_built over n x y rows more all h = goes_on n x y rows more h ∙ nothing_built (λ r. is_of_call r ≡ true) over (n + length rows) y more all

pipeline_over : (n : ℕ) (p : Pipeline) (r : Row) → is_of_call r ≡ true → pipeline_step n p r ≡ Ok p
pipeline_over n p (row.Pipeline it) call = absurd cc
pipeline_over n p r call = refl

contract_over : (n : ℕ) (h : Holdings) (r : Row) → is_of_call r ≡ true → contract_step n h r ≡ Ok h
contract_over n h (row.Contract it) call = absurd cc
contract_over n h r call = refl

carry_over : (n : ℕ) (carry : List (Key × ℕ)) (r : Row) → is_of_call r ≡ true → carry_step n carry r ≡ Ok carry
carry_over n carry (row.Carry key quantity) call = absurd cc
carry_over n carry r call = refl

-- what is no fault is none at another row
pub no_fault : {X : Type 0} (b : Bool) (f g : TextFault) (x y : X) → (if b then Err f else Ok x) ≡ Ok y → (if b then Err g else Ok x) ≡ Ok y
no_fault true f g x y h = absurd cc
no_fault false f g x y h = h

still_finished : (n m : ℕ) (p q : Pipeline) → finished n p ≡ Ok q → finished m p ≡ Ok q
still_finished n m p q h = no_fault (length p.tree == 0) (fault.Row n (cause.Build build.NoSegment)) (fault.Row m (cause.Build build.NoSegment)) p q h

pipeline_still : (rows more : List Row) (p : Pipeline) → AllByRecursion (λ r. is_of_call r ≡ true) more → pipeline_of rows ≡ Ok p → pipeline_of (rows ++ more) ≡ Ok p
pipeline_still rows more p all h =
    let built = bound (built_from pipeline_step 1 empty rows) _ p h in
    ap (λ (o : Result Pipeline TextFault). o >>= finished (length (rows ++ more) + 1)) (still_built pipeline_step pipeline_over 1 empty built.0 rows more all built.1)
    ∙ still_finished (length rows + 1) (length (rows ++ more) + 1) built.0 p built.2

-- ---- the head

first_still : (rows more : List Row) (head : Head) → first_head rows ≡ Some head → first_head (rows ++ more) ≡ Some head
first_still [] more head h = absurd cc
first_still (row.Day date zone book ∷ rows) more head h = h
first_still (r ∷ rows) more head h = first_still rows more head h

head_still : (rows more : List Row) (head : Head) → head_of rows ≡ Ok head → head_of (rows ++ more) ≡ Ok head
head_still rows more head h = go (first_head rows) refl h
  where
    go : (found : Option Head) → first_head rows ≡ found → head_under rows found ≡ Ok head → head_of (rows ++ more) ≡ Ok head
    go (Some it) is found = ap (head_under (rows ++ more)) (first_still rows more it is) ∙ found
    go None is found = absurd cc

-- ---- the groups

checked_so : {X : Type 0} (o : Result X TextFault) → is_ok o ≡ true → checked o ≡ Ok tt
checked_so (Ok x) good = refl
checked_so (Err f) good = absurd cc

group_checked : (p : Pipeline) (n : ℕ) (group : List Row) → Passes p group → checked_group p n group ≡ Ok tt
group_checked p n group it =
    ap (λ (o : Result (Unit {0}) TextFault). o >>= λ made. checked (members_from n group p)) (checked_so (prices_from n group p) (prices_whatever p n group ∙ it.prices))
    ∙ checked_so (members_from n group p) (members_whatever p n group ∙ it.members)

calls_checked : (p : Pipeline) (calls : List Call) → AllPass p calls → checked_calls p calls ≡ Ok tt
calls_checked p [] all = refl
calls_checked p (c ∷ calls) all = ap (λ (o : Result (Unit {0}) TextFault). o >>= λ made. checked_calls p calls) (group_checked p c.first c.group all.0) ∙ calls_checked p calls all.1

-- ---- all of it

pub opened_still : (rows more : List Row) (o : Opened) → opened_of rows ≡ Ok o → AllByRecursion (λ r. is_of_call r ≡ true) more → AllPass o.holdings.pipeline (calls_of (rows ++ more)) → opened_of (rows ++ more) ≡ Ok o
opened_still rows more o h all passes =
    let pipeline = bound (pipeline_of rows) _ o h in
    let holdings = bound (contracts_on rows pipeline.0) _ o pipeline.2 in
    let head = bound (head_of rows) _ o holdings.2 in
    let carry = bound (carry_of rows) _ o head.2 in
    let made = bound (checked_calls holdings.0.pipeline (calls_of rows)) _ o carry.2 in
    let opened = inside TextFault (record { date = head.0.0; zone = head.0.1; book = head.0.2; holdings = holdings.0; carry = carry.0 }) o made.2 in
    let checked = calls_checked holdings.0.pipeline (calls_of (rows ++ more)) (subst (λ (it : Opened). AllPass it.holdings.pipeline (calls_of (rows ++ more))) (sym opened) passes) in
    rw (
      pipeline_still rows more pipeline.0 all pipeline.1,
      still_built contract_step contract_over 1 (none_on pipeline.0) holdings.0 rows more all holdings.1,
      head_still rows more head.0 head.1,
      still_built carry_step carry_over 1 [] carry.0 rows more all carry.1,
      checked,
    ) made.2
