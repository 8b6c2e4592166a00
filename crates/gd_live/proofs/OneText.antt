-- The lines of calls behind their opening are one text.
use Rattle.std.proofs.Common.{◌≡◌, ℕ, true, false, List, [], ◌++◌, Ok, ap, subst, ◌∙◌}
use Rattle.std.specs.Prelude.{map}
use Rattle.std.specs.List.{AllByRecursion}
use Rattle.csv.specs.Reading.{strip_bom}
use Rattle.gd_contracts.specs.Holdings.{Holdings}
use Rattle.gd_text_part.specs.Lines.{IsPlain, behind_opening, cut_at_commas}
use Rattle.gd_text_part.specs.Texts.{rows_of}
use Rattle.gd_text_part.specs.declared.kind.Form.TheVariants as form
use Rattle.gd_text_part.specs.declared.row.Row.{Row}
use Rattle.gd_live.specs.Calls.{is_of_call}
use Rattle.gd_live.specs.Fronts.{front_from}
use Rattle.gd_live.specs.TextLines.{IsClosed}
use Rattle.gd_serving.specs.Lines.{text_of_lines}
use Rattle.gd_live.proofs.AmongCalls.{opening_among}
use Rattle.gd_day.specs.Calls.{calls_of}
use Rattle.gd_day.specs.Groups.{AllPass}
use Rattle.gd_day.specs.Opening.{Opened}
use Rattle.gd_machine.specs.Day.{Day}
use Rattle.gd_machine.specs.History.{History}
use Rattle.gd_live.specs.Kept.{AreCalls}
use Rattle.gd_live.specs.OneText.{OpensAs, RunsAs}
use Rattle.gd_live.proofs.Alike.{all_of_calls, none_of_a_call}
use Rattle.gd_live.proofs.FirstGroup.{all_pass, runs_on}
use Rattle.gd_live.proofs.PassedOver.{opened_still}

-- what is said of the lines of calls behind an opening
abbrev pub CallsAreRead : Type 0
CallsAreRead =
    (opening : List ℕ) (lines : List (List ℕ)) (rows read : List Row) → IsClosed (strip_bom opening) → rows_of form.Day opening ≡ Ok rows → calls_of rows ≡ []
    → AllByRecursion IsPlain lines → front_from form.Day behind_opening 0 (map (cut_at_commas []) lines) ≡ Ok (read, behind_opening) → rows_of form.Day (opening ++ text_of_lines lines) ≡ Ok (rows ++ read)

module _ (are_read : CallsAreRead) (opening kept told : List ℕ) (o : Opened) (day : Day) (after : History) (opens : OpensAs opening o) (same : day.holdings ≡ o.holdings) (calls : AreCalls day [] kept told after) where
  none : AllByRecursion (λ r. is_of_call r ≡ false) opens.rows
  none = none_of_a_call opening opens.rows opens.reads opens.no_calls

  of_calls : AllByRecursion (λ r. is_of_call r ≡ true) calls.read
  of_calls = all_of_calls (map (cut_at_commas []) calls.lines) behind_opening 0 calls.read behind_opening opening_among calls.reads

  passes : AllPass day.holdings.pipeline (calls_of (opens.rows ++ calls.read))
  passes = all_pass day.holdings.pipeline opens.rows calls.read none calls.passes

  pub one_text : RunsAs (opening ++ kept) o day told after
  one_text = record {
    rows = opens.rows ++ calls.read;
    reads = ap (λ more. rows_of form.Day (opening ++ more)) calls.bytes ∙ are_read opening calls.lines opens.rows calls.read opens.closed opens.reads opens.no_calls calls.plain calls.reads;
    opens = opened_still opens.rows calls.read o opens.opens of_calls (subst (λ (h : Holdings). AllPass h.pipeline (calls_of (opens.rows ++ calls.read))) same passes);
    passes = passes;
    replies = calls.told;
    runs = runs_on day [] after opens.rows calls.read calls.told none calls.runs;
    told_is = calls.replies_are;
  }
