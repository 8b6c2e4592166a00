-- The calendars of gas days, one after the other.
use Rattle.std.proofs.Common.{◌≡◌, ◌∙◌, ℕ, ◌+◌, ◌<◌, zero, suc, Bool, List, [], ◌∷◌, ◌++◌, length, take, get_or, map, Some, option_map, Result, Ok, Err, IfOk, refl, sym, ap, subst, inl, inr, arith}
use Rattle.std.specs.List.{All, AllZip, slice_get}
use Rattle.std.proofs.lemmas.List.{map-append, take_more, take-map, length-map}
use Rattle.std.proofs.lemmas.Option.{slice_get-map}
use Rattle.gd_day.specs.Opening.{Opened}
use Rattle.gd_day.specs.declared.text.DayText.{DayText}
use Rattle.gasday_office.specs.Calls.{seen_phase, asked_phase, pipelines}
use Rattle.gd_machine.specs.Day.{Day}
use Rattle.gasday_office.specs.Days.{opened}
use Rattle.gasday_office.specs.Phases.{Round, phases_of}
use Rattle.gd_office_part.specs.declared.threads.Phase.{Phase}
use Rattle.gd_system.specs.Pipeline.{Pipeline}
use Rattle.gd_text_part.specs.declared.row.Row.{Row}
use Rattle.gasday_part.specs.declared.answer.Answer.{Answer}
use Rattle.gasday_part.specs.AnswerSeen.{answer_seen}
use Rattle.gasday_part.specs.Answers.{ExplainsDay}
use Rattle.gasday_part.specs.declared.day.DayFault.{DayFault}
use Rattle.gasday_office.specs.Offices.{IsCalendarFor, HasCalendar, IsOpenedWith, LacksCalendar, TellsPhases, TellsDays}

pub there : {X : Type 0} (xs : List X) (i : ℕ) (x : X) → i < length xs → x ≡ get_or xs i x → slice_get xs i ≡ Some x
there [] i x below is = elim below [ ]
there (y ∷ xs) zero x below is = ap (λ (z : _). Some z) (sym is)
there (y ∷ xs) (suc i) x below is = let rest : i < length xs = omega (arith, below) in there xs i x rest is

-- this day is the first that has no calendar
pub lacks_at : (days : List DayText) (i : ℕ) (d : DayText) (f : DayFault) → i < length days → d ≡ get_or days i d
    → All HasCalendar (map opened (take i days)) → ExplainsDay d.date d.zone f → LacksCalendar (map opened days) f
lacks_at days i d f below is before why =
    inr (
      i,
      opened d,
      slice_get-map opened days i ∙ ap (option_map opened) (there days i d below is),
      subst (λ (l : List Opened). All HasCalendar l) (sym (take-map opened i days)) before,
      why,
    )

calendar_push : (days : List Opened) (calendars : List (List ℕ)) (d : Opened) (moments : List ℕ) → AllZip IsCalendarFor days calendars → IsCalendarFor d moments
    → AllZip IsCalendarFor (days ++ d ∷ []) (calendars ++ moments ∷ [])
calendar_push [] [] d moments all here = (here, tt)
calendar_push [] (m ∷ calendars) d moments all here = absurd all
calendar_push (x ∷ days) [] d moments all here = absurd all
calendar_push (x ∷ days) (m ∷ calendars) d moments all here = (all.0, calendar_push days calendars d moments all.1 here)

-- one day more has a calendar
pub calendars_more : (days : List DayText) (i : ℕ) (d : DayText) (calendars : List (List ℕ)) (moments : List ℕ) → i < length days → d ≡ get_or days i d
    → AllZip IsCalendarFor (map opened (take i days)) calendars → IsCalendarFor (opened d) moments
    → AllZip IsCalendarFor (map opened (take (i + 1) days)) (calendars ++ moments ∷ [])
calendars_more days i d calendars moments below is before here =
    let more : take (i + 1) days ≡ take i days ++ d ∷ [] = take_more days i d below ∙ ap (λ (x : DayText). take i days ++ x ∷ []) (sym is) in
    subst (λ (l : List Opened). AllZip IsCalendarFor l (calendars ++ moments ∷ [])) (sym (ap (map opened) more ∙ map-append opened (take i days) (d ∷ [])))
    (calendar_push (map opened (take i days)) calendars (opened d) moments before here)

-- each of these days has one
pub have_calendars : (days : List Opened) (calendars : List (List ℕ)) → AllZip IsCalendarFor days calendars → All HasCalendar days
have_calendars [] calendars all k d below = elim below [ ]
have_calendars (x ∷ days) [] all k d below = absurd all
have_calendars (x ∷ days) (m ∷ calendars) all zero d below = (m, all.0)
have_calendars (x ∷ days) (m ∷ calendars) all (suc k) d below = let rest : k < length days = omega (arith, below) in have_calendars days calendars all.1 k d rest

-- the pipelines of days, which are those of what they are opened with
pub pipelines_are : (days : List DayText) → map (λ d. d.contracts.pipeline) days ≡ map (λ o. o.holdings.pipeline) (map opened days)
pipelines_are [] = refl
pipelines_are (d ∷ days) = ap (λ (ps : List Pipeline). d.contracts.pipeline ∷ ps) (pipelines_are days)

-- what a run of the phases tells, by other names of the slots and the pipelines
pub tells_days : (strict : Bool) {E : Type 0} (r : Result Answer E) (days : List DayText) (books : List Day) (slots : ℕ) (texts : List Round) (phases : List Phase) (rows : List Row)
    → AllZip IsOpenedWith (map opened days) books → texts ≡ phases_of rows
    → map seen_phase phases ≡ map (asked_phase (pipelines days)) texts → slots ≡ length days
    → IfOk r (λ a. TellsPhases strict books slots phases (answer_seen a)) → IfOk r (λ a. TellsDays strict rows (map opened days) (answer_seen a))
tells_days strict (Err e) days books slots texts phases rows own read asked many tells = tt
tells_days strict (Ok a) days books slots texts phases rows own read asked many tells =
    let same : map seen_phase phases ≡ map (asked_phase (map (λ o. o.holdings.pipeline) (map opened days))) (phases_of rows) =
    asked ∙ ap (map (asked_phase (pipelines days))) read ∙ ap (λ (ps : List Pipeline). map (asked_phase ps) (phases_of rows)) (pipelines_are days) in
    let long : slots ≡ length (map opened days) = many ∙ sym (length-map days opened) in
    inl (books, own, (phases, same, subst (λ (n : ℕ). TellsPhases strict books n phases (answer_seen a)) long tells))
