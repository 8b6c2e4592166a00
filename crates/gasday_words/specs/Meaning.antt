-- The command line of the program, and what its words mean.
use Rattle.std.specs.Prelude.{ℕ, ◌==◌, Bool, true, false, List, [], ◌∷◌, length, Option, Some, None, option_map, option_and_then, unwrap_or, drop, codes, if◌then◌else◌}
use Rattle.std.specs.Str.{bytes_eq}
use Rattle.std.specs.Str.Parse.{digits_value, without_leading_plus}
use Rattle.gasday_words.specs.declared.order.Command.{Command}
use Rattle.gasday_words.specs.declared.order.Command.TheVariants.{CheckAllowed, CheckBest, CheckCut, Solve, Calendar, Day, StrictDay}
use Rattle.gasday_words.specs.Ordered as ordered
use Rattle.gasday_words.specs.Ordered.{Ordered, Requested, without_texts}
use Rattle.clap.specs.Lexer.{usize_max}
use Rattle.clap.specs.ValueTests.{is_unsigned_in}
use Rattle.clap.specs.Words.{App, Row, Rule, Text, all_of, first_of, new_app, new_rule, subcommand_of, with_rule, with_subcommand}
use Rattle.clap.specs.declared.builder.action.ArgAction.TheVariants.{Append, SetTrue}

-- ---- the command line

-- WHAT, one word that has to be there
abbrev pub what : Rule
what = record (new_rule (codes "what")) { value_names = 1; required = true }

-- FILE, one word that has to be there
abbrev pub file : Rule
file = record (new_rule (codes "file")) { value_names = 1; required = true }

-- CYCLE, one word that has to be there
abbrev pub cycle : Rule
cycle = record (new_rule (codes "cycle")) { value_names = 1; required = true }

-- ROUND, one word that may be left out
abbrev pub round : Rule
round = record (new_rule (codes "round")) { value_names = 1 }

-- TEXT, any number of words
abbrev pub texts : Rule
texts = record (new_rule (codes "text")) {
  value_names = 1;
  action = Some Append;
  range = Some (record { start_inclusive = 0; end_inclusive = usize_max });
}

-- `--NAME VALUE`, which may be left out
abbrev pub option : Text → Rule
option name = record (new_rule name) { value_names = 1; long = Some name }

-- `--NAME`, which may be left out
abbrev pub flag : Text → Rule
flag name = record (new_rule name) { action = Some SetTrue; long = Some name }

-- `--wait SECONDS`
abbrev pub wait : Rule
wait = option (codes "wait")

-- `--strict`
abbrev pub strict : Rule
strict = flag (codes "strict")

-- `check WHAT [TEXT]..`
abbrev pub check : App
check = with_rule (with_rule (new_app (codes "check")) what) texts

-- `solve [TEXT]..`
abbrev pub solve : App
solve = with_rule (new_app (codes "solve")) texts

-- `calendar [TEXT]..`
abbrev pub calendar : App
calendar = with_rule (new_app (codes "calendar")) texts

-- `day [--archive FILE] [--book FILE] [--strict]`
abbrev pub kept_day : App
kept_day = with_rule (with_rule (with_rule (new_app (codes "day")) (option (codes "archive"))) (option (codes "book"))) strict

-- `day [--archive FILE] [--book FILE] [--strict] [--wait SECONDS] [TEXT]..`
abbrev pub day : App
day = with_rule (with_rule kept_day wait) texts

-- `office [--strict] [TEXT]..`
abbrev pub office : App
office = with_rule (with_rule (new_app (codes "office")) strict) texts

-- `audit [--all] [--wait SECONDS] FILE`
abbrev pub audit : App
audit = with_rule (with_rule (with_rule (new_app (codes "audit")) (flag (codes "all"))) wait) file

-- `text [--wait SECONDS] FILE`
abbrev pub book_text : App
book_text = with_rule (with_rule (new_app (codes "text")) wait) file

-- `question [--wait SECONDS] FILE CYCLE [ROUND]`
abbrev pub question : App
question = with_rule (with_rule (with_rule (with_rule (new_app (codes "question")) wait) file) cycle) round

-- `carry [--wait SECONDS] FILE`
abbrev pub carry : App
carry = with_rule (with_rule (new_app (codes "carry")) wait) file

-- `migrate [--wait SECONDS] FILE`
abbrev pub migrate : App
migrate = with_rule (with_rule (new_app (codes "migrate")) wait) file

-- a command that can tell its version
abbrev pub with_version : App → App
with_version a = record a { top = record a.top { has_version = true } }

-- the program before it has commands
abbrev pub bare : App
bare = with_version (new_app (codes "gasday"))

-- the program with the commands that take a text
abbrev pub with_texts : App
with_texts =
    with_subcommand (with_subcommand (with_subcommand (with_subcommand (with_subcommand bare check.top) solve.top) calendar.top) day.top)
    office.top

-- the program's command line
abbrev pub gasday : App
gasday =
    with_subcommand (with_subcommand (with_subcommand (with_subcommand (with_subcommand with_texts audit.top) book_text.top) question.top) carry.top)
    migrate.top

-- ---- the meaning of words

-- the check that the word after `check` names
abbrev pub check_named : Option Text → Option Command
check_named None = None
check_named (Some word) =
    if bytes_eq word (codes "allowed") then Some CheckAllowed
    else if bytes_eq word (codes "best") then Some CheckBest
    else if bytes_eq word (codes "cut") then Some CheckCut
    else None

-- the order of `check`: the check that its word names, over any texts; or that of an answer, where the word names none, and so is
-- a question's file, with the answer's behind it
abbrev pub check_order : Option Command → Option Text → List Text → Option Ordered
check_order (Some named) _ _ = Some (ordered.Text named)
check_order None (Some _) texts = if length texts == 1 then Some ordered.CheckAnswer else None
check_order None None _ = None

-- the files that `check` reads: where its word names no check that is the first of them
abbrev pub check_texts : Option Command → Option Text → List Text → List Text
check_texts None (Some question) texts = question ∷ texts
check_texts _ _ texts = texts

-- whether a flag is given, of which clap tells a word
abbrev pub is_given : Option Text → Bool
is_given None = false
is_given (Some word) = bytes_eq word (codes "true")

-- A gas day, with an archive or on a book's file where one is named. Both together name no order, and no gas day on a book's file is
-- strict.
abbrev pub day_kept_in : Bool → Option Text → Option Text → Option Ordered
day_kept_in false None None = Some (ordered.Text Day)
day_kept_in true None None = Some (ordered.Text StrictDay)
day_kept_in strict (Some name) None = Some (ordered.ArchivedDay name strict)
day_kept_in false None (Some name) = Some (ordered.LiveDay name)
day_kept_in _ _ _ = None

-- the audit of a file, or of each posting
abbrev pub audit_order : Bool → Text → Ordered
audit_order each file = if each then ordered.AuditEach file else ordered.Audit file

-- the cycle that a word names
abbrev pub cycle_named : Text → Option ℕ
cycle_named word =
    if bytes_eq word (codes "1") then Some 1
    else if bytes_eq word (codes "2") then Some 2
    else if bytes_eq word (codes "3") then Some 3
    else if bytes_eq word (codes "4") then Some 4
    else if bytes_eq word (codes "5") then Some 5
    else None

-- the greatest number that a word may name, since a gas day has no more rounds
abbrev pub most_number : ℕ
most_number = 1_000_000

-- the number that a word names, as clap reads one: decimal digits, before which a plus may stand
abbrev pub number_named : Text → Option ℕ
number_named word = if is_unsigned_in 1 most_number word then Some (digits_value 10 (without_leading_plus word)) else None

-- the frozen question of this file, in the cycle and the round that the words name; without a round it is the last one
abbrev pub question_of : Option Text → Option Text → Option Text → Option Ordered
question_of (Some file) (Some cycle) None = option_map (λ c. ordered.Question file c None) (cycle_named cycle)
question_of (Some file) (Some cycle) (Some round) =
    option_and_then (λ c. option_map (λ r. ordered.Question file c (Some r)) (number_named round)) (cycle_named cycle)
question_of _ _ _ = None

-- the same, of what `question` was given
abbrev pub question_in : List Row → Option Ordered
question_in given = question_of (first_of (codes "file") given) (first_of (codes "cycle") given) (first_of (codes "round") given)

-- the texts that a subcommand was given
abbrev pub texts_in : List Row → List Text
texts_in given = unwrap_or (all_of (codes "text") given) []

-- the order of a subcommand's name and of what it was given
abbrev pub order_from : Text → List Row → Option Ordered
order_from name given =
    if bytes_eq name (codes "check") then check_order (check_named (first_of (codes "what") given)) (first_of (codes "what") given) (texts_in given)
    else if bytes_eq name (codes "solve") then Some (ordered.Text Solve)
    else if bytes_eq name (codes "calendar") then Some (ordered.Text Calendar)
    else if bytes_eq name (codes "day") then day_kept_in (is_given (first_of (codes "strict") given)) (first_of (codes "archive") given) (first_of (codes "book") given)
    else if bytes_eq name (codes "office") then Some (ordered.Office (is_given (first_of (codes "strict") given)))
    else if bytes_eq name (codes "audit") then option_map (audit_order (is_given (first_of (codes "all") given))) (first_of (codes "file") given)
    else if bytes_eq name (codes "text") then option_map ordered.BookText (first_of (codes "file") given)
    else if bytes_eq name (codes "question") then question_in given
    else if bytes_eq name (codes "carry") then option_map ordered.Carry (first_of (codes "file") given)
    else if bytes_eq name (codes "migrate") then option_map ordered.Migrate (first_of (codes "file") given)
    else None

-- the files that the order of a subcommand reads, by its name and by what it was given
abbrev pub texts_read : Text → List Row → List Text
texts_read name given =
    if bytes_eq name (codes "check") then check_texts (check_named (first_of (codes "what") given)) (first_of (codes "what") given) (texts_in given)
    else texts_in given

-- the seconds of which the word after `--wait` tells; without it there are none
abbrev pub seconds_in : Option Text → Option ℕ
seconds_in None = Some 0
seconds_in (Some word) = number_named word

-- the request of a subcommand's name and of what it was given
abbrev pub request_from : Text → List Row → Option Requested
request_from name given =
    option_and_then (λ o. option_map (λ s. record { order = o; texts = texts_read name given; wait = s }) (seconds_in (first_of (codes "wait") given)))
    (order_from name given)

-- the request of the subcommand that was met: with none it is `check allowed`
abbrev pub request_in : Option (Text × List Row) → Option Requested
request_in None = Some (without_texts (ordered.Text CheckAllowed))
request_in (Some p) = request_from p.0 p.1

-- what the words mean, by clap's meaning of the command line
abbrev pub meaning_of : List Text → Option Requested
meaning_of words = request_in (subcommand_of gasday words)

-- the words after the program's own name
abbrev pub arguments : List Text → List Text
arguments words = drop 1 words

-- the forms that answer a text: the words behind the program's name, and the order that they are
abbrev pub forms : List (List Text × Ordered)
forms =
    (codes "check" ∷ codes "allowed" ∷ [], ordered.Text CheckAllowed)
    ∷ (codes "check" ∷ codes "best" ∷ [], ordered.Text CheckBest)
    ∷ (codes "check" ∷ codes "cut" ∷ [], ordered.Text CheckCut)
    ∷ (codes "solve" ∷ [], ordered.Text Solve)
    ∷ (codes "calendar" ∷ [], ordered.Text Calendar)
    ∷ (codes "day" ∷ [], ordered.Text Day)
    ∷ (codes "office" ∷ [], ordered.Office false)
    ∷ (codes "day" ∷ codes "--strict" ∷ [], ordered.Text StrictDay)
    ∷ (codes "office" ∷ codes "--strict" ∷ [], ordered.Office true)
    ∷ []

-- the forms of the program that name this archive or this book's file: the words behind its name, and the order that they are
abbrev pub forms_with : Text → List (List Text × Ordered)
forms_with file =
    (codes "day" ∷ codes "--archive" ∷ file ∷ [], ordered.ArchivedDay file false)
    ∷ (codes "day" ∷ codes "--book" ∷ file ∷ [], ordered.LiveDay file)
    ∷ (codes "audit" ∷ file ∷ [], ordered.Audit file)
    ∷ (codes "text" ∷ file ∷ [], ordered.BookText file)
    ∷ (codes "question" ∷ file ∷ codes "1" ∷ [], ordered.Question file 1 None)
    ∷ (codes "question" ∷ file ∷ codes "2" ∷ [], ordered.Question file 2 None)
    ∷ (codes "question" ∷ file ∷ codes "3" ∷ [], ordered.Question file 3 None)
    ∷ (codes "question" ∷ file ∷ codes "4" ∷ [], ordered.Question file 4 None)
    ∷ (codes "question" ∷ file ∷ codes "5" ∷ [], ordered.Question file 5 None)
    ∷ (codes "carry" ∷ file ∷ [], ordered.Carry file)
    ∷ (codes "migrate" ∷ file ∷ [], ordered.Migrate file)
    ∷ (codes "audit" ∷ codes "--all" ∷ file ∷ [], ordered.AuditEach file)
    ∷ (codes "day" ∷ codes "--strict" ∷ codes "--archive" ∷ file ∷ [], ordered.ArchivedDay file true)
    ∷ []

-- the words that name cycles, and the cycles
abbrev pub cycles : List (Text × ℕ)
cycles = (codes "1", 1) ∷ (codes "2", 2) ∷ (codes "3", 3) ∷ (codes "4", 4) ∷ (codes "5", 5) ∷ []

-- the forms of a gas day that name this file, with which texts may stand: the words behind the program's name, and the order
-- that they are
abbrev pub day_forms_with : Text → List (List Text × Ordered)
day_forms_with file =
    (codes "day" ∷ codes "--archive" ∷ file ∷ [], ordered.ArchivedDay file false)
    ∷ (codes "day" ∷ codes "--book" ∷ file ∷ [], ordered.LiveDay file)
    ∷ (codes "day" ∷ codes "--strict" ∷ codes "--archive" ∷ file ∷ [], ordered.ArchivedDay file true)
    ∷ []

-- the forms that name these two files for one gas day, an archive and a book's file, or a book's file for a strict gas day, and so are no
-- order
abbrev pub clashes : Text → Text → List (List Text)
clashes file other =
    (codes "day" ∷ codes "--archive" ∷ file ∷ codes "--book" ∷ other ∷ [])
    ∷ (codes "day" ∷ codes "--book" ∷ file ∷ codes "--archive" ∷ other ∷ [])
    ∷ (codes "day" ∷ codes "--strict" ∷ codes "--book" ∷ file ∷ [])
    ∷ []

-- the forms that ask for help
abbrev pub helps : List (List Text)
helps =
    (codes "--help" ∷ [])
    ∷ (codes "-h" ∷ [])
    ∷ (codes "check" ∷ codes "--help" ∷ [])
    ∷ (codes "solve" ∷ codes "--help" ∷ [])
    ∷ (codes "calendar" ∷ codes "--help" ∷ [])
    ∷ (codes "day" ∷ codes "--help" ∷ [])
    ∷ (codes "office" ∷ codes "--help" ∷ [])
    ∷ (codes "audit" ∷ codes "--help" ∷ [])
    ∷ (codes "text" ∷ codes "--help" ∷ [])
    ∷ (codes "question" ∷ codes "--help" ∷ [])
    ∷ (codes "carry" ∷ codes "--help" ∷ [])
    ∷ (codes "migrate" ∷ codes "--help" ∷ [])
    ∷ []

-- the forms that ask for the version
abbrev pub versions : List (List Text)
versions = (codes "--version" ∷ []) ∷ (codes "-V" ∷ []) ∷ []
