-- A small book: its opening, what is kept of one call behind it, and the one text of both.
use Rattle.std.specs.Prelude.{ℕ, List, [], ◌∷◌, ◌++◌, codes, pos, negsuc, Some, ⊤, refl}
use Rattle.std.specs.Str.{is_utf8, chars}
use Rattle.std.proofs.Common.{inl, inr}
use lib.Utf8.{encode}
use Rattle.csv.proofs.OnLiterals.{csv_on_literals}
use Rattle.csv.specs.Records.{field_at}
use Rattle.gd_rules.specs.Question.Element.{Segment as segment}
use Rattle.gd_system.specs.Pipeline.{Pipeline}
use Rattle.gd_text_part.specs.Events.{only_moment, moment_and_round}
use Rattle.gd_text_part.specs.Lines.{behind_opening}
use Rattle.gd_text_part.specs.Numbers.{number_after}
use Rattle.gd_text_part.specs.Rows.{empty_run, segment_row, day_row, sched_row, price_row}
use Rattle.gd_text_part.specs.Texts.{rows_from}
use Rattle.gd_text_part.specs.declared.row.EventRow.TheVariants.{Publish}
use Rattle.gd_text_part.specs.declared.row.PipelineRow.TheVariants.{Segment}
use Rattle.gd_text_part.specs.declared.row.Row.{Row}
use Rattle.gd_text_part.specs.declared.row.Row.TheVariants as row
use Rattle.gd_serving.specs.Lines.{text_of_lines}
use Rattle.gd_live.proofs.RowLines.{rows_plain}
use Rattle.gd_text.specs.Building.{built_from}
use Rattle.gd_day.specs.Opening.{Opened}
use Rattle.gd_machine.specs.Day.{Day}
use Rattle.gd_machine.specs.declared.refusal.Refusal.TheVariants as refusal
use Rattle.gd_replies.specs.Lines.{lines_of}
use Rattle.gd_machine.specs.declared.call.Call.TheVariants as call
use Rattle.gd_replies.specs.declared.reply.Reply.{Reply}
use Rattle.gd_replies.specs.declared.reply.Reply.TheVariants as reply
use Rattle.gd_live.specs.Kept.{AreCalls}
use Rattle.gd_live.specs.OneText.{OpensAs, RunsAs}

-- what an example unfolds
unfoldable computed : ⊤
unfolding csv_on_literals field_at is_utf8 chars encode number_after empty_run segment_row day_row sched_row price_row only_moment moment_and_round
    rows_from built_from
computed = tt

-- a segment and a head
abbrev opening : List ℕ
opening = text_of_lines (codes "segment,S1,A,B,100,,," ∷ codes "day,2026-03-08,UTC0,DEMO,,,," ∷ [])

abbrev opening_rows : List Row
opening_rows = row.Pipeline (Segment (codes "S1") (codes "A") (codes "B") 100) ∷ row.Day (record { year = 2026; month = 3; day = 8 }) (codes "UTC0") (Some (codes "DEMO")) ∷ []

abbrev pipeline : Pipeline
pipeline = record { places = codes "A" ∷ codes "B" ∷ []; segments = codes "S1" ∷ []; tree = segment 0 1 100 ∷ []; points = []; pools = [] }

abbrev opened : Opened
opened = record {
  date = record { year = 2026; month = 3; day = 8 };
  zone = codes "UTC0";
  book = codes "DEMO";
  holdings = record { pipeline = pipeline; contracts = [] };
  carry = [];
}

-- what is offered while the book isn't frozen
abbrev lines : List (List ℕ)
lines = codes "sched,1,7,,,,," ∷ codes "price,S1,4,1,-5,,," ∷ codes "publish,9,1,,,,," ∷ []

abbrev call_rows : List Row
call_rows = row.Sched 1 7 ∷ row.Price (codes "S1") 4 (pos 1) (negsuc 4) ∷ row.Event (Publish 9 1) ∷ []

abbrev told : List Reply
told = reply.Refused call.Publish refusal.NotFrozen ∷ []

abbrev day : Day
day = record { name = codes "DEMO"; holdings = opened.holdings; moments = []; carry = [] }

opens : OpensAs opening opened
unfolding computed
opens = record { closed = refl; rows = opening_rows; reads = refl; no_calls = refl; opens = refl }

are_calls : AreCalls day [] (text_of_lines lines) (lines_of told) []
unfolding computed
are_calls = record {
  lines = lines;
  plain = (rows_plain behind_opening 1 _ _ refl, (rows_plain behind_opening 1 _ _ refl, (rows_plain behind_opening 1 _ _ refl, tt)));
  bytes = refl;
  read = call_rows;
  reads = refl;
  whole = inr (row.Sched 1 7 ∷ row.Price (codes "S1") 4 (pos 1) (negsuc 4) ∷ [], Publish 9 1, refl);
  passes = (record { prices = refl; members = refl }, tt);
  told = told;
  runs = ([], told, [], inl (refl, (refl, refl)), (refl, refl), refl);
  replies_are = refl;
}

-- the one text is read so, and its one call has the rows of the opening in its group
one_text : RunsAs (opening ++ text_of_lines lines) opened day (lines_of told) []
unfolding computed
one_text = record {
  rows = opening_rows ++ call_rows;
  reads = refl;
  opens = refl;
  passes = (record { prices = refl; members = refl }, tt);
  replies = told;
  runs = ([], told, [], inl (refl, (refl, refl)), (refl, refl), refl);
  told_is = refl;
}
