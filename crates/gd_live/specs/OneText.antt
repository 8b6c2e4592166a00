-- The text of an opening, and the one text of a gas day whose calls follow it.
use Rattle.std.specs.Prelude.{◌≡◌, ℕ, List, [], Ok}
use Rattle.csv.specs.Reading.{strip_bom}
use Rattle.gd_text_part.specs.Texts.{rows_of}
use Rattle.gd_text_part.specs.declared.kind.Form.TheVariants as form
use Rattle.gd_text_part.specs.declared.row.Row.{Row}
use Rattle.gd_live.specs.TextLines.{IsClosed}
use Rattle.gd_day.specs.Calls.{calls_of}
use Rattle.gd_day.specs.Groups.{AllPass}
use Rattle.gd_day.specs.Opening.{Opened, opened_of}
use Rattle.gd_machine.specs.Day.{Day}
use Rattle.gd_machine.specs.History.{History}
use Rattle.gd_replies.specs.Lines.{lines_of}
use Rattle.gd_replies.specs.declared.reply.Reply.{Reply}
use Rattle.gd_course.specs.Course.{Runs}

-- The text opens a book with this, and makes no call; lines may follow it.
pub record OpensAs (text : List ℕ) (o : Opened) : Type 0 where
  pub closed : IsClosed (strip_bom text)
  pub rows : List Row
  pub reads : rows_of form.Day text ≡ Ok rows
  pub no_calls : calls_of rows ≡ []
  pub opens : opened_of rows ≡ Ok o

-- The text opens a book with this; a run of its calls on a book of this day, which has no event yet, tells these bytes and
-- leaves this history.
pub record RunsAs (text : List ℕ) (o : Opened) (day : Day) (told : List ℕ) (after : History) : Type 0 where
  pub rows : List Row
  pub reads : rows_of form.Day text ≡ Ok rows
  pub opens : opened_of rows ≡ Ok o
  pub passes : AllPass day.holdings.pipeline (calls_of rows)
  pub replies : List Reply
  pub runs : Runs day [] (calls_of rows) replies after
  pub told_is : told ≡ lines_of replies
