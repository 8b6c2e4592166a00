use Rattle.std.specs.Prelude.{map}
use Rattle.std.specs.List.{IsDistinct, All}
use Rattle.std.proofs.Common.{◌+◌, ◌∙◌, ◌∷◌, ◌++◌, [], Bool, false, List, length, ap, subst, sym, arith}
use Rattle.std.proofs.lemmas.List.{map-append}
use Rattle.std.proofs.lemmas.List.Elements.{All-push}
use Rattle.gd_rules.specs.Lines.{same_key}
use Rattle.gd_day.specs.Carrying.{keys}
use Rattle.gd_day.specs.Opening.{Opened}
use Rattle.gd_day.specs.declared.text.DayText.{DayText}
use Rattle.gasday_office.specs.Blocks.{Block}
use Rattle.gasday_office.specs.Days.{opened, opened_in, opened_after, days_of}
use Rattle.gasday_office.proofs.Cutting.{blocks_left, block_at, goes_in, begins}
use Rattle.gasday_office.proofs.BookNames.{goes_on}
use Rattle.gasday_office.proofs.days.days_of.Goals as goal

abbrev CarriesOnce : DayText → Type 0
CarriesOnce d = IsDistinct same_key (keys d.carry.items)

pub rows-preserved-then-not-begins_next : goal.rows-preserved-then-not-begins_next
rows-preserved-then-not-begins_next c =
    let kept = c.rows.invariant in
    let rows = c.args.rows.now in
    let days = map opened c.rows.days.items in
    record {
      left = ap (λ (headed : Bool). opened_after (length rows) days (blocks_left rows c.rows.start headed (c.rows.at + 1))) c.headed_by-headed.ensures
          ∙ ap (λ (blocks : List Block). opened_after (length rows) days blocks)
          (sym (goes_in rows c.rows.start c.rows.at c.rows.headed c.index-rows-at.result kept.begun c.rows-test.true c.index-rows-at.is (sym c.begins_next.ensures ∙ c.if-not-begins_next.true)))
          ∙ kept.left;
      begun = omega (arith, kept.begun);
      distinct = kept.distinct;
    }

pub rows-preserved : goal.rows-preserved
rows-preserved c =
    let kept = c.rows.invariant in
    let rows = c.args.rows.now in
    let items = c.rows.days.items in
    let day = c.in_ok-day.day in
    let block : Block = block_at rows c.rows.start c.rows.at in
    let next : List Block = blocks_left rows c.rows.at false (c.rows.at + 1) in
    let one_more = ap (λ (blocks : List Block). opened_after (length rows) (map opened items) blocks)
    (sym (begins rows c.rows.start c.rows.at c.rows.headed c.index-rows-at.result kept.begun c.rows-test.true c.index-rows-at.is (sym c.begins_next.ensures ∙ c.if-not-begins_next.false)))
    ∙ kept.left in
    let taken = ap (λ (l : List DayText). opened_in (length rows) (map opened l) block) (sym c.deref.ensures.value) ∙ c.in_ok-day.ensures.values in
    record {
      left = ap (λ (l : List DayText). opened_after (length rows) (map opened l) next) c.in_ok-push.ensures.items
          ∙ ap (λ (l : List Opened). opened_after (length rows) l next) (map-append opened items (day ∷ []))
          ∙ goes_on (opened day) (opened_in (length rows) (map opened items) block) (days_of rows) (λ d. opened_after (length rows) (map opened items ++ d ∷ []) next) one_more taken;
      begun = omega arith;
      distinct = subst (All CarriesOnce) (sym c.in_ok-push.ensures.items) (All-push CarriesOnce items day kept.distinct c.in_ok-day.ensures.distinct);
    }

pub returns-clause-distinct : goal.returns-clause-distinct
returns-clause-distinct c =
    subst (All CarriesOnce) (sym c.in_ok-push-2.ensures.items) (All-push CarriesOnce c.rows.days.items c.in_ok-day-2.day c.rows.invariant.distinct c.in_ok-day-2.ensures.distinct)
