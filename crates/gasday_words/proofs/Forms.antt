-- The forms of the command line.
use Rattle.std.proofs.Common.{All, drop, ◌≡◌, ◌==◌, ◌++◌, ◌∙◌, ◌⊎◌, ℕ, [], ◌∷◌, List, Bool, false, Option, Some, None, true, refl, sym, ap, subst, inl, inr, codes, is_some, map, Result, Ok, Err, IfOk, IfErr, OnOk}
use Rattle.std.specs.Fmt.{decimal}
use Rattle.std.specs.Option.{option_and_then, option_map}
use Rattle.std.proofs.lemmas.Option.{same_Some}
use Rattle.std.proofs.lemmas.List.Elements.{All-nil, All-cons}
use Rattle.clap.specs.Words.{App, IsAmong, Kinds, Row, Shape, Text, is_simple, is_simple_and_free, takes, fault_of}
use Rattle.clap.specs.Simple.{built, built_leaf, entered, names_of}
use Rattle.clap.specs.Walk.{nothing_held, stop_after}
use Rattle.clap.specs.Takes.{built_takes}
use Rattle.clap.specs.Faults.{built_fault, level_fault}
use Rattle.clap.proofs.OnLiterals.{clap_on_literals}
use Rattle.clap.specs.declared.error.kind.ErrorKind.TheVariants as kind
use Rattle.gasday_words.specs.declared.order.Request.{Request}
use Rattle.gasday_words.specs.declared.fault.UsageFault.{UsageFault}
use Rattle.gasday_words.specs.declared.fault.UsageFault.TheVariants.{Help, Version, Usage, OutOfMemory}
use Rattle.gasday_words.specs.declared.order.Command.{Command}
use Rattle.gasday_words.specs.declared.order.Command.TheVariants.{CheckAllowed, CheckBest, CheckCut, Solve, Calendar, Day, StrictDay}
use Rattle.gasday_words.specs.Ordered as ordered
use Rattle.gasday_words.specs.Ordered.{Ordered, Requested, over_texts, requested, waiting, without_texts}
use Rattle.gasday_words.specs.Meaning as spec
use Rattle.gasday_words.specs.Meaning.{gasday, meaning_of, arguments, check_order, check_texts, cycle_named, cycles, forms, forms_with, day_forms_with, clashes, helps, number_named, versions, request_from, request_in}
use Rattle.gasday_words.specs.Outcomes.{IsHelp, IsRequest, IsTold, IsUsageAnswer, IsVersion, RefusesChecks, RefusesClashes, RefusesNumbers, TakesAnswers, TakesDays, TakesFiles, TakesForms, TakesHelps, TakesOver, TakesRounds, TakesTexts, TakesVersions, TakesWaits}
use Rattle.gasday_words.proofs.Entering.{Meets, left_to}
use Rattle.gasday_words.proofs.Plain.{Word, fault_is, faults, known, level, level_is, named, plain, rows, rows_are, text_of}
use Rattle.gasday_words.proofs.Numbers.{decimal_is_plain, decimal_names}

pub is_simple_gasday : is_simple gasday ≡ true
unfolding clap_on_literals
is_simple_gasday = refl

pub is_free_gasday : is_simple_and_free gasday ≡ true
unfolding clap_on_literals
is_free_gasday = refl

-- ---- the commands

-- the program's command line, built
abbrev program : App
program = built gasday

-- a command, built
abbrev leaf : App → Shape
leaf a = built_leaf a.top

-- the word is met as the name of the command
abbrev IsNameOf : Text → App → Type 0
IsNameOf name a = Meets program name (leaf a)

check : IsNameOf (codes "check") spec.check
unfolding clap_on_literals
check = record { stops = refl; passes = refl; faultless = refl; found = refl }

solve : IsNameOf (codes "solve") spec.solve
unfolding clap_on_literals
solve = record { stops = refl; passes = refl; faultless = refl; found = refl }

calendar : IsNameOf (codes "calendar") spec.calendar
unfolding clap_on_literals
calendar = record { stops = refl; passes = refl; faultless = refl; found = refl }

day : IsNameOf (codes "day") spec.day
unfolding clap_on_literals
day = record { stops = refl; passes = refl; faultless = refl; found = refl }

office : IsNameOf (codes "office") spec.office
unfolding clap_on_literals
office = record { stops = refl; passes = refl; faultless = refl; found = refl }

audit : IsNameOf (codes "audit") spec.audit
unfolding clap_on_literals
audit = record { stops = refl; passes = refl; faultless = refl; found = refl }

book_text : IsNameOf (codes "text") spec.book_text
unfolding clap_on_literals
book_text = record { stops = refl; passes = refl; faultless = refl; found = refl }

question : IsNameOf (codes "question") spec.question
unfolding clap_on_literals
question = record { stops = refl; passes = refl; faultless = refl; found = refl }

carry : IsNameOf (codes "carry") spec.carry
unfolding clap_on_literals
carry = record { stops = refl; passes = refl; faultless = refl; found = refl }

migrate : IsNameOf (codes "migrate") spec.migrate
unfolding clap_on_literals
migrate = record { stops = refl; passes = refl; faultless = refl; found = refl }

-- ---- help is not the version

version_is_no_help : (ks : Kinds) → ks ≡ kind.DisplayHelp ∷ [] → ¬ (IsAmong kind.DisplayVersion ks)
version_is_no_help ks asks among =
    let in_help : IsAmong kind.DisplayVersion (kind.DisplayHelp ∷ []) = subst (IsAmong kind.DisplayVersion) asks among in
    elim in_help [ inl bad ↦ cc | inr none ↦ none ]

help_is_no_version : (ks : Kinds) → ks ≡ kind.DisplayVersion ∷ [] → ¬ (IsAmong kind.DisplayHelp ks)
help_is_no_version ks asks among =
    let in_version : IsAmong kind.DisplayHelp (kind.DisplayVersion ∷ []) = subst (IsAmong kind.DisplayHelp) asks among in
    elim in_version [ inl bad ↦ cc | inr none ↦ none ]

-- ---- what is answered to such words

-- words that clap takes and that mean m are answered by m
is_request : (r : Result Request UsageFault) (meaning : Option Requested) (taken : Bool) (m : Requested) → taken ≡ true → meaning ≡ Some m
    → IfOk r (λ o. meaning ≡ Some (requested o)) → IfErr r (λ e. taken ≡ true → is_some meaning ≡ true → e ≡ OutOfMemory)
    → IsRequest m r
is_request (Ok o) meaning taken m is_taken is ok err = same_Some _ _ (sym ok ∙ is)
is_request (Err e) meaning taken m is_taken is ok err = err is_taken (ap is_some is)

-- words that ask for help alone are answered by help
is_help : (r : Result Request UsageFault) (words : List Text) → fault_of gasday words ≡ kind.DisplayHelp ∷ []
    → OnOk r (fault_of gasday words ≡ []) → IfErr r (IsTold words) → IsHelp r
is_help (Ok o) words asks faultless told = let bad : kind.DisplayHelp ∷ [] ≡ [] = sym asks ∙ faultless in cc
is_help (Err (Help text)) words asks faultless told = tt
is_help (Err (Version text)) words asks faultless told = absurd (version_is_no_help (fault_of gasday words) asks told.1)
is_help (Err (Usage text)) words asks faultless told = told.1 asks
is_help (Err OutOfMemory) words asks faultless told = tt

-- words that ask for the version alone are answered by the version
is_version : (r : Result Request UsageFault) (words : List Text) → fault_of gasday words ≡ kind.DisplayVersion ∷ []
    → OnOk r (fault_of gasday words ≡ []) → IfErr r (IsTold words) → IsVersion r
is_version (Ok o) words asks faultless told = let bad : kind.DisplayVersion ∷ [] ≡ [] = sym asks ∙ faultless in cc
is_version (Err (Help text)) words asks faultless told = absurd (help_is_no_version (fault_of gasday words) asks told.1)
is_version (Err (Version text)) words asks faultless told = tt
is_version (Err (Usage text)) words asks faultless told = told.2 asks
is_version (Err OutOfMemory) words asks faultless told = tt

-- words that clap takes and that mean no request are answered by a usage fault
is_usage : (r : Result Request UsageFault) (words : List Text) → fault_of gasday words ≡ [] → meaning_of words ≡ None
    → IfOk r (λ o. meaning_of words ≡ Some (requested o)) → IfErr r (IsTold words) → IsUsageAnswer r
is_usage (Ok o) words met none ok told = let bad : None ≡ Some (requested o) = sym none ∙ ok in cc
is_usage (Err (Help text)) words met none ok told = subst (IsAmong kind.DisplayHelp) met told.1
is_usage (Err (Version text)) words met none ok told = subst (IsAmong kind.DisplayVersion) met told.1
is_usage (Err (Usage text)) words met none ok told = tt
is_usage (Err OutOfMemory) words met none ok told = tt

-- what clap makes of words holds of the answer to them
pub record IsClaps (words : List Text) (r : Result Request UsageFault) : Type 0 where
  pub meaning : IfOk r (λ o. meaning_of words ≡ Some (requested o))
  pub faultless : OnOk r (fault_of gasday words ≡ [])
  pub taken : IfErr r (λ e. takes gasday words ≡ true → is_some (meaning_of words) ≡ true → e ≡ OutOfMemory)
  pub faults : IfErr r (IsTold words)

module _ (words : List Text) (r : Result Request UsageFault) (by : IsClaps words r) where
  -- ---- words that name no command

  alone : arguments words ≡ [] → IsRequest (without_texts (ordered.Text CheckAllowed)) r
  unfolding clap_on_literals
  alone h =
      let taken : takes gasday words ≡ true = ap (λ (ws : List Text). built_takes program nothing_held ws) h in
      let means : meaning_of words ≡ Some (without_texts (ordered.Text CheckAllowed)) =
      ap (λ (ws : List Text). request_in (entered program (stop_after program.top.rules (names_of program) ws))) h in
      is_request r (meaning_of words) (takes gasday words) _ taken means by.meaning by.taken

  helped : fault_of gasday words ≡ kind.DisplayHelp ∷ [] → IsHelp r
  helped asks = is_help r words asks by.faultless by.faults

  versioned : fault_of gasday words ≡ kind.DisplayVersion ∷ [] → IsVersion r
  versioned asks = is_version r words asks by.faultless by.faults

  -- ---- words that name a command

  module _ (name : Text) (a : App) (is_name : IsNameOf name a) (vs : List Word) (passes : level (leaf a) vs ≡ true) (h : arguments words ≡ name ∷ map text_of vs) where
    meaning_is : meaning_of words ≡ request_from (leaf a).name (rows (leaf a) vs)
    meaning_is = ap request_in (left_to name (leaf a) is_name words (map text_of vs) h).subcommand
        ∙ ap (λ (given : List Row). request_from (leaf a).name given) (rows_are (leaf a) vs passes)

    -- words that mean a request are answered by it
    answered_by : (m : Requested) → request_from (leaf a).name (rows (leaf a) vs) ≡ Some m → IsRequest m r
    answered_by m means =
        let taken = (left_to name (leaf a) is_name words (map text_of vs) h).takes ∙ level_is (leaf a) vs passes in
        is_request r (meaning_of words) (takes gasday words) m taken (meaning_is ∙ means) by.meaning by.taken

    -- words in which clap finds no fault, and which mean none, are answered by a usage fault
    refused : faults (leaf a) vs ≡ [] → request_from (leaf a).name (rows (leaf a) vs) ≡ None → IsUsageAnswer r
    refused faultless means =
        let met = (left_to name (leaf a) is_name words (map text_of vs) h).fault ∙ fault_is (leaf a) vs passes ∙ faultless in
        is_usage r words met (meaning_is ∙ means) by.meaning by.faults

  -- a command's name with `--help` behind it is answered by help
  helped_with : (name : Text) (a : App) → IsNameOf name a → level_fault (leaf a) [] nothing_held (codes "--help" ∷ []) false [] ≡ kind.DisplayHelp ∷ []
      → arguments words ≡ name ∷ codes "--help" ∷ [] → IsHelp r
  helped_with name a is_name asks h = helped ((left_to name (leaf a) is_name words (codes "--help" ∷ []) h).fault ∙ asks)

-- an order over these texts
abbrev over : Ordered → List Word → Requested
over o vs = over_texts o (map text_of vs)

-- words of each form that answers a text are answered by its order, over standard input
pub takes_forms : (words : List Text) (r : Result Request UsageFault) → IsClaps words r → TakesForms words r
unfolding clap_on_literals
takes_forms words r by =
    let P = TakesOver words [] r in
    let is = answered_by words r by in (
      alone words r by,
      All-cons P _ (drop 1 forms) (λ h. is (codes "check") spec.check check (known (codes "allowed") ∷ []) refl h (over (ordered.Text CheckAllowed) ([])) refl)
          (All-cons P _ (drop 2 forms) (λ h. is (codes "check") spec.check check (known (codes "best") ∷ []) refl h (over (ordered.Text CheckBest) ([])) refl)
          (All-cons P _ (drop 3 forms) (λ h. is (codes "check") spec.check check (known (codes "cut") ∷ []) refl h (over (ordered.Text CheckCut) ([])) refl)
          (All-cons P _ (drop 4 forms) (λ h. is (codes "solve") spec.solve solve ([]) refl h (over (ordered.Text Solve) ([])) refl)
          (All-cons P _ (drop 5 forms) (λ h. is (codes "calendar") spec.calendar calendar ([]) refl h (over (ordered.Text Calendar) ([])) refl)
          (All-cons P _ (drop 6 forms) (λ h. is (codes "day") spec.day day ([]) refl h (over (ordered.Text Day) ([])) refl)
          (All-cons P _ (drop 7 forms) (λ h. is (codes "office") spec.office office ([]) refl h (over (ordered.Office false) ([])) refl)
          (All-cons P _ (drop 8 forms) (λ h. is (codes "day") spec.day day (known (codes "--strict") ∷ []) refl h (over (ordered.Text StrictDay) ([])) refl)
          (All-cons P _ (drop 9 forms) (λ h. is (codes "office") spec.office office (known (codes "--strict") ∷ []) refl h (over (ordered.Office true) ([])) refl)
          (All-nil P))))))))),
    )

-- words of each such form with the name of one file behind them are answered by its order, over that file
of_one : (words : List Text) (r : Result Request UsageFault) → IsClaps words r → (a : ℕ) (rest : List ℕ) → (a == 45) ≡ false → All (TakesOver words ((a ∷ rest) ∷ []) r) forms
unfolding clap_on_literals
of_one words r by a rest other =
    let P = TakesOver words ((a ∷ rest) ∷ []) r in
    let A = named a rest other in
    let is = answered_by words r by in
    All-cons P _ (drop 1 forms) (λ h. is (codes "check") spec.check check (known (codes "allowed") ∷ A ∷ []) refl h (over (ordered.Text CheckAllowed) (A ∷ [])) refl)
    (All-cons P _ (drop 2 forms) (λ h. is (codes "check") spec.check check (known (codes "best") ∷ A ∷ []) refl h (over (ordered.Text CheckBest) (A ∷ [])) refl)
    (All-cons P _ (drop 3 forms) (λ h. is (codes "check") spec.check check (known (codes "cut") ∷ A ∷ []) refl h (over (ordered.Text CheckCut) (A ∷ [])) refl)
    (All-cons P _ (drop 4 forms) (λ h. is (codes "solve") spec.solve solve (A ∷ []) refl h (over (ordered.Text Solve) (A ∷ [])) refl)
    (All-cons P _ (drop 5 forms) (λ h. is (codes "calendar") spec.calendar calendar (A ∷ []) refl h (over (ordered.Text Calendar) (A ∷ [])) refl)
    (All-cons P _ (drop 6 forms) (λ h. is (codes "day") spec.day day (A ∷ []) refl h (over (ordered.Text Day) (A ∷ [])) refl)
    (All-cons P _ (drop 7 forms) (λ h. is (codes "office") spec.office office (A ∷ []) refl h (over (ordered.Office false) (A ∷ [])) refl)
    (All-cons P _ (drop 8 forms) (λ h. is (codes "day") spec.day day (known (codes "--strict") ∷ A ∷ []) refl h (over (ordered.Text StrictDay) (A ∷ [])) refl)
    (All-cons P _ (drop 9 forms) (λ h. is (codes "office") spec.office office (known (codes "--strict") ∷ A ∷ []) refl h (over (ordered.Office true) (A ∷ [])) refl)
    (All-nil P)))))))))

of_two : (words : List Text) (r : Result Request UsageFault) → IsClaps words r → (a b : ℕ) (rest others : List ℕ) → (a == 45) ≡ false → (b == 45) ≡ false
    → All (TakesOver words ((a ∷ rest) ∷ (b ∷ others) ∷ []) r) forms
unfolding clap_on_literals
of_two words r by a b rest others other another =
    let P = TakesOver words ((a ∷ rest) ∷ (b ∷ others) ∷ []) r in
    let A = named a rest other in
    let B = named b others another in
    let is = answered_by words r by in
    All-cons P _ (drop 1 forms) (λ h. is (codes "check") spec.check check (known (codes "allowed") ∷ A ∷ B ∷ []) refl h (over (ordered.Text CheckAllowed) (A ∷ B ∷ [])) refl)
    (All-cons P _ (drop 2 forms) (λ h. is (codes "check") spec.check check (known (codes "best") ∷ A ∷ B ∷ []) refl h (over (ordered.Text CheckBest) (A ∷ B ∷ [])) refl)
    (All-cons P _ (drop 3 forms) (λ h. is (codes "check") spec.check check (known (codes "cut") ∷ A ∷ B ∷ []) refl h (over (ordered.Text CheckCut) (A ∷ B ∷ [])) refl)
    (All-cons P _ (drop 4 forms) (λ h. is (codes "solve") spec.solve solve (A ∷ B ∷ []) refl h (over (ordered.Text Solve) (A ∷ B ∷ [])) refl)
    (All-cons P _ (drop 5 forms) (λ h. is (codes "calendar") spec.calendar calendar (A ∷ B ∷ []) refl h (over (ordered.Text Calendar) (A ∷ B ∷ [])) refl)
    (All-cons P _ (drop 6 forms) (λ h. is (codes "day") spec.day day (A ∷ B ∷ []) refl h (over (ordered.Text Day) (A ∷ B ∷ [])) refl)
    (All-cons P _ (drop 7 forms) (λ h. is (codes "office") spec.office office (A ∷ B ∷ []) refl h (over (ordered.Office false) (A ∷ B ∷ [])) refl)
    (All-cons P _ (drop 8 forms) (λ h. is (codes "day") spec.day day (known (codes "--strict") ∷ A ∷ B ∷ []) refl h (over (ordered.Text StrictDay) (A ∷ B ∷ [])) refl)
    (All-cons P _ (drop 9 forms) (λ h. is (codes "office") spec.office office (known (codes "--strict") ∷ A ∷ B ∷ []) refl h (over (ordered.Office true) (A ∷ B ∷ [])) refl)
    (All-nil P)))))))))

-- words of each such form with the names of one or two files behind them are answered by its order, over these files
pub takes_texts : (words : List Text) (r : Result Request UsageFault) → IsClaps words r → TakesTexts words r
takes_texts words r by a b rest others other another =
    (of_one words r by a rest other, of_two words r by a b rest others other another)

-- the request that `check` makes of these words, where its word names this check or none
abbrev checked_so : Text → List Text → Option Command → Option Requested
checked_so word texts check =
    option_and_then (λ o. Some (over_texts o (check_texts check (Some word) texts))) (check_order check (Some word) texts)

-- words that name a question's file and an answer's are answered by the check of the two
pub takes_answers : (words : List Text) (r : Result Request UsageFault) → IsClaps words r → TakesAnswers words r
unfolding clap_on_literals
takes_answers words r by a b question answer other another none h =
    let Q = named a question other in
    let A = named b answer another in
    answered_by words r by (codes "check") spec.check check (Q ∷ A ∷ []) refl h (over ordered.CheckAnswer (Q ∷ A ∷ []))
    (ap (checked_so (a ∷ question) ((b ∷ answer) ∷ [])) none)

-- words behind `check` that name none, and no two files, are answered by a usage fault
pub refuses_checks : (words : List Text) (r : Result Request UsageFault) → IsClaps words r → RefusesChecks words r
unfolding clap_on_literals
refuses_checks words r by a b c word text other is_word is_text is_other none =
    let W = named a word is_word in
    let A = named b text is_text in
    let B = named c other is_other in
    let is = refused words r by (codes "check") spec.check check in (
      (λ h. is (W ∷ []) refl h refl (ap (checked_so (a ∷ word) []) none)),
      λ h. is (W ∷ A ∷ B ∷ []) refl h refl (ap (checked_so (a ∷ word) ((b ∷ text) ∷ (c ∷ other) ∷ [])) none),
    )

-- words of each form that names an archive or a book's file are answered by its order
pub takes_files : (words : List Text) (r : Result Request UsageFault) → IsClaps words r → TakesFiles words r
unfolding clap_on_literals
takes_files words r by a rest other =
    let file = a ∷ rest in
    let P : List Text × Ordered → Type 0 = λ form. arguments words ≡ form.0 → IsRequest (without_texts form.1) r in
    let F = named a rest other in
    let is = answered_by words r by in
    All-cons P _ (drop 1 (forms_with file)) (λ h. is (codes "day") spec.day day (known (codes "--archive") ∷ F ∷ []) refl h (without_texts (ordered.ArchivedDay file false)) refl)
    (All-cons P _ (drop 2 (forms_with file)) (λ h. is (codes "day") spec.day day (known (codes "--book") ∷ F ∷ []) refl h (without_texts (ordered.LiveDay file)) refl)
    (All-cons P _ (drop 3 (forms_with file)) (λ h. is (codes "audit") spec.audit audit (F ∷ []) refl h (without_texts (ordered.Audit file)) refl)
    (All-cons P _ (drop 4 (forms_with file)) (λ h. is (codes "text") spec.book_text book_text (F ∷ []) refl h (without_texts (ordered.BookText file)) refl)
    (All-cons P _ (drop 5 (forms_with file)) (λ h. is (codes "question") spec.question question (F ∷ known (codes "1") ∷ []) refl h (without_texts (ordered.Question file 1 None)) refl)
    (All-cons P _ (drop 6 (forms_with file)) (λ h. is (codes "question") spec.question question (F ∷ known (codes "2") ∷ []) refl h (without_texts (ordered.Question file 2 None)) refl)
    (All-cons P _ (drop 7 (forms_with file)) (λ h. is (codes "question") spec.question question (F ∷ known (codes "3") ∷ []) refl h (without_texts (ordered.Question file 3 None)) refl)
    (All-cons P _ (drop 8 (forms_with file)) (λ h. is (codes "question") spec.question question (F ∷ known (codes "4") ∷ []) refl h (without_texts (ordered.Question file 4 None)) refl)
    (All-cons P _ (drop 9 (forms_with file)) (λ h. is (codes "question") spec.question question (F ∷ known (codes "5") ∷ []) refl h (without_texts (ordered.Question file 5 None)) refl)
    (All-cons P _ (drop 10 (forms_with file)) (λ h. is (codes "carry") spec.carry carry (F ∷ []) refl h (without_texts (ordered.Carry file)) refl)
    (All-cons P _ (drop 11 (forms_with file)) (λ h. is (codes "migrate") spec.migrate migrate (F ∷ []) refl h (without_texts (ordered.Migrate file)) refl)
    (All-cons P _ (drop 12 (forms_with file)) (λ h. is (codes "audit") spec.audit audit (known (codes "--all") ∷ F ∷ []) refl h (without_texts (ordered.AuditEach file)) refl)
    (All-cons P _ (drop 13 (forms_with file)) (λ h. is (codes "day") spec.day day (known (codes "--strict") ∷ known (codes "--archive") ∷ F ∷ []) refl h (without_texts (ordered.ArchivedDay file true)) refl)
    (All-nil P)))))))))))))

-- words of each form of a gas day that names a file, with the names of one or two files behind them, are answered by its order
-- over these files
pub takes_days : (words : List Text) (r : Result Request UsageFault) → IsClaps words r → TakesDays words r
unfolding clap_on_literals
takes_days words r by c file filed a b rest others other another =
    let P : List Text → List Text × Ordered → Type 0 = λ texts. TakesOver words texts r in
    let one = (a ∷ rest) ∷ [] in
    let two = (a ∷ rest) ∷ (b ∷ others) ∷ [] in
    let days = day_forms_with (c ∷ file) in
    let F = named c file filed in
    let A = named a rest other in
    let B = named b others another in
    let is = answered_by words r by in (
      All-cons (P one) _ (drop 1 days) (λ h. is (codes "day") spec.day day (known (codes "--archive") ∷ F ∷ A ∷ []) refl h (over (ordered.ArchivedDay (c ∷ file) false) (A ∷ [])) refl)
          (All-cons (P one) _ (drop 2 days) (λ h. is (codes "day") spec.day day (known (codes "--book") ∷ F ∷ A ∷ []) refl h (over (ordered.LiveDay (c ∷ file)) (A ∷ [])) refl)
          (All-cons (P one) _ (drop 3 days) (λ h. is (codes "day") spec.day day (known (codes "--strict") ∷ known (codes "--archive") ∷ F ∷ A ∷ []) refl h (over (ordered.ArchivedDay (c ∷ file) true) (A ∷ [])) refl)
          (All-nil (P one)))),
      All-cons (P two) _ (drop 1 days) (λ h. is (codes "day") spec.day day (known (codes "--archive") ∷ F ∷ A ∷ B ∷ []) refl h (over (ordered.ArchivedDay (c ∷ file) false) (A ∷ B ∷ [])) refl)
          (All-cons (P two) _ (drop 2 days) (λ h. is (codes "day") spec.day day (known (codes "--book") ∷ F ∷ A ∷ B ∷ []) refl h (over (ordered.LiveDay (c ∷ file)) (A ∷ B ∷ [])) refl)
          (All-cons (P two) _ (drop 3 days) (λ h. is (codes "day") spec.day day (known (codes "--strict") ∷ known (codes "--archive") ∷ F ∷ A ∷ B ∷ []) refl h (over (ordered.ArchivedDay (c ∷ file) true) (A ∷ B ∷ [])) refl)
          (All-nil (P two)))),
    )

-- the request that an order alone makes, where there is one
abbrev alone_in : Option Ordered → Option Requested
alone_in = option_and_then (λ o. Some (without_texts o))

-- words that name a question by a cycle and a round are answered by its order
pub takes_rounds : (words : List Text) (r : Result Request UsageFault) → IsClaps words r → TakesRounds words r
unfolding clap_on_literals
takes_rounds words r by a rest other n low high =
    let file = a ∷ rest in
    let P : Text × ℕ → Type 0 = λ cycle. arguments words ≡ codes "question" ∷ file ∷ cycle.0 ∷ decimal n ∷ []
    → IsRequest (without_texts (ordered.Question file cycle.1 (Some n))) r in
    let F = named a rest other in
    let R = plain (decimal n) (decimal_is_plain n low high) in
    let asks = λ (cycle : ℕ). ap (λ (round : Option ℕ). alone_in (option_map (λ k. ordered.Question file cycle (Some k)) round)) (decimal_names n low high) in
    let is = answered_by words r by (codes "question") spec.question question in
    All-cons P _ (drop 1 cycles) (λ h. is (F ∷ known (codes "1") ∷ R ∷ []) refl h (without_texts (ordered.Question file 1 (Some n))) (asks 1))
    (All-cons P _ (drop 2 cycles) (λ h. is (F ∷ known (codes "2") ∷ R ∷ []) refl h (without_texts (ordered.Question file 2 (Some n))) (asks 2))
    (All-cons P _ (drop 3 cycles) (λ h. is (F ∷ known (codes "3") ∷ R ∷ []) refl h (without_texts (ordered.Question file 3 (Some n))) (asks 3))
    (All-cons P _ (drop 4 cycles) (λ h. is (F ∷ known (codes "4") ∷ R ∷ []) refl h (without_texts (ordered.Question file 4 (Some n))) (asks 4))
    (All-cons P _ (drop 5 cycles) (λ h. is (F ∷ known (codes "5") ∷ R ∷ []) refl h (without_texts (ordered.Question file 5 (Some n))) (asks 5))
    (All-nil P)))))

-- what names no cycle, or no round, names no question
no_question : (file : Text) (cycle round : Option ℕ) → (cycle ≡ None) ⊎ (round ≡ None)
    → option_and_then (λ c. option_map (λ k. ordered.Question file c (Some k)) round) cycle ≡ None
no_question file None round none = refl
no_question file (Some c) None none = refl
no_question file (Some c) (Some k) (inl none) = cc
no_question file (Some c) (Some k) (inr none) = cc

-- words that name a question by a word that is no cycle, or by one that is no round, are answered by a usage fault
pub refuses_numbers : (words : List Text) (r : Result Request UsageFault) → IsClaps words r → RefusesNumbers words r
unfolding clap_on_literals
refuses_numbers words r by a b c file cycle round other another third =
    let F = named a file other in
    let C = named b cycle another in
    let R = named c round third in
    let is = refused words r by (codes "question") spec.question question in (
      (λ none h. is (F ∷ C ∷ []) refl h refl (ap (λ (found : Option ℕ). alone_in (option_map (λ k. ordered.Question (a ∷ file) k None) found)) none)),
      λ none h. is (F ∷ C ∷ R ∷ []) refl h refl (ap alone_in (no_question (a ∷ file) (cycle_named (b ∷ cycle)) (number_named (c ∷ round)) none)),
    )

-- the request of an order that waits as long as a word says, where that names a number
abbrev waiting_so : Ordered → Option ℕ → Option Requested
waiting_so o = option_map (λ n. waiting o n)

-- words of each form that names a file, with `--wait` behind them, are answered by its order, which waits; or by a usage fault
pub takes_waits : (words : List Text) (r : Result Request UsageFault) → IsClaps words r → TakesWaits words r
unfolding clap_on_literals
takes_waits words r by a c rest word other another =
    let file = a ∷ rest in
    let F = named a rest other in
    let W = known (codes "--wait") in
    let V = named c word another in
    let all = forms_with file in
    let no = refused words r by in
    let Q : List Text × Ordered → Type 0 = λ form. arguments words ≡ form.0 ++ codes "--wait" ∷ (c ∷ word) ∷ [] → IsUsageAnswer r in (
      (λ n low high.
          let P : List Text × Ordered → Type 0 = λ form. arguments words ≡ form.0 ++ codes "--wait" ∷ decimal n ∷ [] → IsRequest (waiting form.1 n) r in
          let N = plain (decimal n) (decimal_is_plain n low high) in
          let is = answered_by words r by in
          let so = λ (o : Ordered). ap (waiting_so o) (decimal_names n low high) in
          All-cons P _ (drop 1 all) (λ h. is (codes "day") spec.day day (known (codes "--archive") ∷ F ∷ W ∷ N ∷ []) refl h (waiting (ordered.ArchivedDay file false) n) (so (ordered.ArchivedDay file false)))
          (All-cons P _ (drop 2 all) (λ h. is (codes "day") spec.day day (known (codes "--book") ∷ F ∷ W ∷ N ∷ []) refl h (waiting (ordered.LiveDay file) n) (so (ordered.LiveDay file)))
          (All-cons P _ (drop 3 all) (λ h. is (codes "audit") spec.audit audit (F ∷ W ∷ N ∷ []) refl h (waiting (ordered.Audit file) n) (so (ordered.Audit file)))
          (All-cons P _ (drop 4 all) (λ h. is (codes "text") spec.book_text book_text (F ∷ W ∷ N ∷ []) refl h (waiting (ordered.BookText file) n) (so (ordered.BookText file)))
          (All-cons P _ (drop 5 all) (λ h. is (codes "question") spec.question question (F ∷ known (codes "1") ∷ W ∷ N ∷ []) refl h (waiting (ordered.Question file 1 None) n) (so (ordered.Question file 1 None)))
          (All-cons P _ (drop 6 all) (λ h. is (codes "question") spec.question question (F ∷ known (codes "2") ∷ W ∷ N ∷ []) refl h (waiting (ordered.Question file 2 None) n) (so (ordered.Question file 2 None)))
          (All-cons P _ (drop 7 all) (λ h. is (codes "question") spec.question question (F ∷ known (codes "3") ∷ W ∷ N ∷ []) refl h (waiting (ordered.Question file 3 None) n) (so (ordered.Question file 3 None)))
          (All-cons P _ (drop 8 all) (λ h. is (codes "question") spec.question question (F ∷ known (codes "4") ∷ W ∷ N ∷ []) refl h (waiting (ordered.Question file 4 None) n) (so (ordered.Question file 4 None)))
          (All-cons P _ (drop 9 all) (λ h. is (codes "question") spec.question question (F ∷ known (codes "5") ∷ W ∷ N ∷ []) refl h (waiting (ordered.Question file 5 None) n) (so (ordered.Question file 5 None)))
          (All-cons P _ (drop 10 all) (λ h. is (codes "carry") spec.carry carry (F ∷ W ∷ N ∷ []) refl h (waiting (ordered.Carry file) n) (so (ordered.Carry file)))
          (All-cons P _ (drop 11 all) (λ h. is (codes "migrate") spec.migrate migrate (F ∷ W ∷ N ∷ []) refl h (waiting (ordered.Migrate file) n) (so (ordered.Migrate file)))
          (All-cons P _ (drop 12 all) (λ h. is (codes "audit") spec.audit audit (known (codes "--all") ∷ F ∷ W ∷ N ∷ []) refl h (waiting (ordered.AuditEach file) n) (so (ordered.AuditEach file)))
          (All-cons P _ (drop 13 all) (λ h. is (codes "day") spec.day day (known (codes "--strict") ∷ known (codes "--archive") ∷ F ∷ W ∷ N ∷ []) refl h (waiting (ordered.ArchivedDay file true) n) (so (ordered.ArchivedDay file true)))
          (All-nil P)))))))))))))),
      λ none.
          let so = λ (o : Ordered). ap (waiting_so o) none in
          All-cons Q _ (drop 1 all) (λ h. no (codes "day") spec.day day (known (codes "--archive") ∷ F ∷ W ∷ V ∷ []) refl h refl (so (ordered.ArchivedDay file false)))
          (All-cons Q _ (drop 2 all) (λ h. no (codes "day") spec.day day (known (codes "--book") ∷ F ∷ W ∷ V ∷ []) refl h refl (so (ordered.LiveDay file)))
          (All-cons Q _ (drop 3 all) (λ h. no (codes "audit") spec.audit audit (F ∷ W ∷ V ∷ []) refl h refl (so (ordered.Audit file)))
          (All-cons Q _ (drop 4 all) (λ h. no (codes "text") spec.book_text book_text (F ∷ W ∷ V ∷ []) refl h refl (so (ordered.BookText file)))
          (All-cons Q _ (drop 5 all) (λ h. no (codes "question") spec.question question (F ∷ known (codes "1") ∷ W ∷ V ∷ []) refl h refl (so (ordered.Question file 1 None)))
          (All-cons Q _ (drop 6 all) (λ h. no (codes "question") spec.question question (F ∷ known (codes "2") ∷ W ∷ V ∷ []) refl h refl (so (ordered.Question file 2 None)))
          (All-cons Q _ (drop 7 all) (λ h. no (codes "question") spec.question question (F ∷ known (codes "3") ∷ W ∷ V ∷ []) refl h refl (so (ordered.Question file 3 None)))
          (All-cons Q _ (drop 8 all) (λ h. no (codes "question") spec.question question (F ∷ known (codes "4") ∷ W ∷ V ∷ []) refl h refl (so (ordered.Question file 4 None)))
          (All-cons Q _ (drop 9 all) (λ h. no (codes "question") spec.question question (F ∷ known (codes "5") ∷ W ∷ V ∷ []) refl h refl (so (ordered.Question file 5 None)))
          (All-cons Q _ (drop 10 all) (λ h. no (codes "carry") spec.carry carry (F ∷ W ∷ V ∷ []) refl h refl (so (ordered.Carry file)))
          (All-cons Q _ (drop 11 all) (λ h. no (codes "migrate") spec.migrate migrate (F ∷ W ∷ V ∷ []) refl h refl (so (ordered.Migrate file)))
          (All-cons Q _ (drop 12 all) (λ h. no (codes "audit") spec.audit audit (known (codes "--all") ∷ F ∷ W ∷ V ∷ []) refl h refl (so (ordered.AuditEach file)))
          (All-cons Q _ (drop 13 all) (λ h. no (codes "day") spec.day day (known (codes "--strict") ∷ known (codes "--archive") ∷ F ∷ W ∷ V ∷ []) refl h refl (so (ordered.ArchivedDay file true)))
          (All-nil Q))))))))))))),
    )

-- words of each form that names two files for one gas day are answered by a usage fault
pub refuses_clashes : (words : List Text) (r : Result Request UsageFault) → IsClaps words r → RefusesClashes words r
unfolding clap_on_literals
refuses_clashes words r by a b rest others other another =
    let P : List Text → Type 0 = λ form. arguments words ≡ form → IsUsageAnswer r in
    let both = clashes (a ∷ rest) (b ∷ others) in
    let A = named a rest other in
    let B = named b others another in
    let is = refused words r by in
    All-cons P _ (drop 1 both) (λ h. is (codes "day") spec.day day (known (codes "--archive") ∷ A ∷ known (codes "--book") ∷ B ∷ []) refl h refl refl)
    (All-cons P _ (drop 2 both) (λ h. is (codes "day") spec.day day (known (codes "--book") ∷ A ∷ known (codes "--archive") ∷ B ∷ []) refl h refl refl)
    (All-cons P _ (drop 3 both) (λ h. is (codes "day") spec.day day (known (codes "--strict") ∷ known (codes "--book") ∷ A ∷ []) refl h refl refl)
    (All-nil P)))

-- words of each form that asks for help are answered by help
pub takes_helps : (words : List Text) (r : Result Request UsageFault) → IsClaps words r → TakesHelps words r
unfolding clap_on_literals
takes_helps words r by =
    let P : List Text → Type 0 = λ form. arguments words ≡ form → IsHelp r in
    let is = helped_with words r by in
    All-cons P _ (drop 1 helps) (λ h. helped words r by (ap (λ (ws : List Text). built_fault program nothing_held ws) h))
    (All-cons P _ (drop 2 helps) (λ h. helped words r by (ap (λ (ws : List Text). built_fault program nothing_held ws) h))
    (All-cons P _ (drop 3 helps) (is (codes "check") spec.check check refl)
    (All-cons P _ (drop 4 helps) (is (codes "solve") spec.solve solve refl)
    (All-cons P _ (drop 5 helps) (is (codes "calendar") spec.calendar calendar refl)
    (All-cons P _ (drop 6 helps) (is (codes "day") spec.day day refl)
    (All-cons P _ (drop 7 helps) (is (codes "office") spec.office office refl)
    (All-cons P _ (drop 8 helps) (is (codes "audit") spec.audit audit refl)
    (All-cons P _ (drop 9 helps) (is (codes "text") spec.book_text book_text refl)
    (All-cons P _ (drop 10 helps) (is (codes "question") spec.question question refl)
    (All-cons P _ (drop 11 helps) (is (codes "carry") spec.carry carry refl)
    (All-cons P _ (drop 12 helps) (is (codes "migrate") spec.migrate migrate refl)
    (All-nil P))))))))))))

-- words of each form that asks for the version are answered by the version
pub takes_versions : (words : List Text) (r : Result Request UsageFault) → IsClaps words r → TakesVersions words r
unfolding clap_on_literals
takes_versions words r by =
    let P : List Text → Type 0 = λ form. arguments words ≡ form → IsVersion r in
    All-cons P _ (drop 1 versions) (λ h. versioned words r by (ap (λ (ws : List Text). built_fault program nothing_held ws) h))
    (All-cons P _ (drop 2 versions) (λ h. versioned words r by (ap (λ (ws : List Text). built_fault program nothing_held ws) h))
    (All-nil P))
