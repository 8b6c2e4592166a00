-- What is told of words.
use Rattle.std.specs.Prelude.{All, ◌≡◌, ◌≢◌, ◌==◌, ◌≤◌, ◌++◌, ℕ, false, List, [], ◌∷◌, Option, None, Some, Result, MatchResult, codes, ⊤, ◌⊎◌}
use Rattle.std.specs.Fmt.{decimal}
use Rattle.clap.specs.Words.{IsAmong, Kinds, Text, fault_of}
use Rattle.clap.specs.declared.error.kind.ErrorKind.{ErrorKind}
use Rattle.clap.specs.declared.error.kind.ErrorKind.TheVariants as kind
use Rattle.gasday_words.specs.declared.order.Command.TheVariants as command
use Rattle.gasday_words.specs.declared.order.Request.{Request}
use Rattle.gasday_words.specs.declared.fault.UsageFault.{UsageFault}
use Rattle.gasday_words.specs.declared.fault.UsageFault.TheVariants.{Help, Version, Usage, OutOfMemory}
use Rattle.gasday_words.specs.Ordered as ordered
use Rattle.gasday_words.specs.Ordered.{Ordered, Requested, over_texts, requested, waiting, without_texts}
use Rattle.gasday_words.specs.Meaning.{gasday, meaning_of, arguments, check_named, cycle_named, cycles, forms, forms_with, day_forms_with, clashes, helps, most_number, number_named, versions}

-- what is left of a request where clap finds these kinds of fault in the words
abbrev pub unless_at_fault : Kinds → Option Requested → Option Requested
unless_at_fault [] meaning = meaning
unless_at_fault (k ∷ ks) meaning = None

-- the request that the words name: clap finds no fault in them, and they mean one
abbrev pub named : List Text → Option Requested
named words = unless_at_fault (fault_of gasday words) (meaning_of words)

-- Help and the version are told only where they are asked for, and a usage fault only where neither is all that is asked
-- for. None is told where the words name an order.
abbrev pub IsTold : List Text → UsageFault → Type 0
IsTold words (Help text) = (named words ≡ None) × IsAmong kind.DisplayHelp (fault_of gasday words)
IsTold words (Version text) = (named words ≡ None) × IsAmong kind.DisplayVersion (fault_of gasday words)
IsTold words (Usage text) =
    (named words ≡ None) × (fault_of gasday words ≢ kind.DisplayHelp ∷ [])
    × (fault_of gasday words ≢ kind.DisplayVersion ∷ [])
IsTold words OutOfMemory = ⊤

-- what is told of a refusal by clap, of this kind
abbrev pub IsTelling : ErrorKind → UsageFault → Type 0
IsTelling k (Help text) = k ≡ kind.DisplayHelp
IsTelling k (Version text) = k ≡ kind.DisplayVersion
IsTelling k (Usage text) = (k ≢ kind.DisplayHelp) × (k ≢ kind.DisplayVersion) × (k ≢ kind.OutOfMemory)
IsTelling k OutOfMemory = ⊤

-- a usage fault, but for want of memory
abbrev pub IsUsage : UsageFault → Type 0
IsUsage (Usage text) = ⊤
IsUsage OutOfMemory = ⊤
IsUsage _ = ⊥

-- why there is no request: the matches name none, which is a usage fault, or memory is short
abbrev pub IsNoRequest : Option Requested → UsageFault → Type 0
IsNoRequest meaning fault = (fault ≡ OutOfMemory) ⊎ ((meaning ≡ None) × IsUsage fault)

-- help, but for want of memory
abbrev pub IsHelpFault : UsageFault → Type 0
IsHelpFault (Help text) = ⊤
IsHelpFault OutOfMemory = ⊤
IsHelpFault _ = ⊥

-- the version, but for want of memory
abbrev pub IsVersionFault : UsageFault → Type 0
IsVersionFault (Version text) = ⊤
IsVersionFault OutOfMemory = ⊤
IsVersionFault _ = ⊥

-- the answer is this request, but for want of memory
abbrev pub IsRequest : Requested → Result Request UsageFault → Type 0
IsRequest m r = MatchResult r (λ o. requested o ≡ m) (λ e. e ≡ OutOfMemory)

-- the answer is help, but for want of memory
abbrev pub IsHelp : Result Request UsageFault → Type 0
IsHelp r = MatchResult r (λ _. ⊥) IsHelpFault

-- the answer is the version, but for want of memory
abbrev pub IsVersion : Result Request UsageFault → Type 0
IsVersion r = MatchResult r (λ _. ⊥) IsVersionFault

-- the answer is a usage fault, but for want of memory
abbrev pub IsUsageAnswer : Result Request UsageFault → Type 0
IsUsageAnswer r = MatchResult r (λ _. ⊥) IsUsage

-- words of a form, with these words behind them, are taken as its order over these texts
abbrev pub TakesOver : List Text → List Text → Result Request UsageFault → List Text × Ordered → Type 0
TakesOver words texts r form = arguments words ≡ form.0 ++ texts → IsRequest (over_texts form.1 texts) r

-- With no words behind the program's name it is `check allowed`, and words of each form that answers a text are taken as its order,
-- over standard input.
abbrev pub TakesForms : List Text → Result Request UsageFault → Type 0
TakesForms words r =
    (arguments words ≡ [] → IsRequest (without_texts (ordered.Text command.CheckAllowed)) r) × All (TakesOver words [] r) forms

-- `-`, as a byte
abbrev pub hyphen : ℕ
hyphen = 45

-- What is said of one file or of two, whatever their names are: none is empty, and none begins with `-`.
abbrev pub OfOneOrTwo : (List Text → Type 0) → Type 0
OfOneOrTwo says =
    (a b : ℕ) (rest others : List ℕ) → (a == hyphen) ≡ false → (b == hyphen) ≡ false
    → says ((a ∷ rest) ∷ []) × says ((a ∷ rest) ∷ (b ∷ others) ∷ [])

-- words of each form that answers a text, with the names of one or two files behind them, are taken as its order over these files
abbrev pub TakesTexts : List Text → Result Request UsageFault → Type 0
TakesTexts words r = OfOneOrTwo (λ texts. All (TakesOver words texts r) forms)

-- words that name the files of a question and of an answer, whatever their names, are taken as the check of the answer over the two,
-- where the first name is no word for a check
abbrev pub TakesAnswers : List Text → Result Request UsageFault → Type 0
TakesAnswers words r =
    (a b : ℕ) (question answer : List ℕ) → (a == hyphen) ≡ false → (b == hyphen) ≡ false → check_named (Some (a ∷ question)) ≡ None
    → arguments words ≡ codes "check" ∷ (a ∷ question) ∷ (b ∷ answer) ∷ []
    → IsRequest (over_texts ordered.CheckAnswer ((a ∷ question) ∷ (b ∷ answer) ∷ [])) r

-- a word behind `check` that is no word for a check is a usage fault where no text stands behind it, or more than one
abbrev pub RefusesChecks : List Text → Result Request UsageFault → Type 0
RefusesChecks words r =
    (a b c : ℕ) (word text other : List ℕ) → (a == hyphen) ≡ false → (b == hyphen) ≡ false → (c == hyphen) ≡ false
    → check_named (Some (a ∷ word)) ≡ None
    → (arguments words ≡ codes "check" ∷ (a ∷ word) ∷ [] → IsUsageAnswer r)
    × (arguments words ≡ codes "check" ∷ (a ∷ word) ∷ (b ∷ text) ∷ (c ∷ other) ∷ [] → IsUsageAnswer r)

-- words of each form that names an archive or a book's file are taken as its order, whatever the file: a name that isn't
-- empty, and doesn't begin with `-`
abbrev pub TakesFiles : List Text → Result Request UsageFault → Type 0
TakesFiles words r =
    (b : ℕ) (rest : List ℕ) → (b == hyphen) ≡ false
    → All (λ form. arguments words ≡ form.0 → IsRequest (without_texts form.1) r) (forms_with (b ∷ rest))

-- words of each form of a gas day that names a file, whatever its name, with the names of one or two files behind them, are
-- taken as its order over these files
abbrev pub TakesDays : List Text → Result Request UsageFault → Type 0
TakesDays words r =
    (c : ℕ) (file : List ℕ) → (c == hyphen) ≡ false
    → OfOneOrTwo (λ texts. All (TakesOver words texts r) (day_forms_with (c ∷ file)))

-- words of each form that names two files for one gas day are a usage fault, whatever the files
abbrev pub RefusesClashes : List Text → Result Request UsageFault → Type 0
RefusesClashes words r =
    (a b : ℕ) (rest others : List ℕ) → (a == hyphen) ≡ false → (b == hyphen) ≡ false
    → All (λ form. arguments words ≡ form → IsUsageAnswer r) (clashes (a ∷ rest) (b ∷ others))

-- words that name a question by a cycle and by a round in decimal, whichever they are, are taken as its order, whatever the file
abbrev pub TakesRounds : List Text → Result Request UsageFault → Type 0
TakesRounds words r =
    (b : ℕ) (rest : List ℕ) → (b == hyphen) ≡ false → (n : ℕ) → 1 ≤ n → n ≤ most_number
    → All (λ cycle. arguments words ≡ codes "question" ∷ (b ∷ rest) ∷ cycle.0 ∷ decimal n ∷ []
    → IsRequest (without_texts (ordered.Question (b ∷ rest) cycle.1 (Some n))) r) cycles

-- words that name a question by a word that is no cycle, or behind it by one that is no round, are a usage fault, whatever the
-- file
abbrev pub RefusesNumbers : List Text → Result Request UsageFault → Type 0
RefusesNumbers words r =
    (a b c : ℕ) (file cycle round : List ℕ) → (a == hyphen) ≡ false → (b == hyphen) ≡ false → (c == hyphen) ≡ false
    → (cycle_named (b ∷ cycle) ≡ None → arguments words ≡ codes "question" ∷ (a ∷ file) ∷ (b ∷ cycle) ∷ [] → IsUsageAnswer r)
    × ((cycle_named (b ∷ cycle) ≡ None) ⊎ (number_named (c ∷ round) ≡ None)
    → arguments words ≡ codes "question" ∷ (a ∷ file) ∷ (b ∷ cycle) ∷ (c ∷ round) ∷ [] → IsUsageAnswer r)

-- words of each form that names a file, with `--wait` and a number of seconds in decimal behind them, are taken as its order,
-- which waits so long, whatever the file; and with a word that is no such number they are a usage fault
abbrev pub TakesWaits : List Text → Result Request UsageFault → Type 0
TakesWaits words r =
    (b c : ℕ) (rest word : List ℕ) → (b == hyphen) ≡ false → (c == hyphen) ≡ false
    → ((n : ℕ) → 1 ≤ n → n ≤ most_number
    → All (λ form. arguments words ≡ form.0 ++ codes "--wait" ∷ decimal n ∷ [] → IsRequest (waiting form.1 n) r) (forms_with (b ∷ rest)))
    × (number_named (c ∷ word) ≡ None
    → All (λ form. arguments words ≡ form.0 ++ codes "--wait" ∷ (c ∷ word) ∷ [] → IsUsageAnswer r) (forms_with (b ∷ rest)))

-- words of each form that asks for help are answered by help
abbrev pub TakesHelps : List Text → Result Request UsageFault → Type 0
TakesHelps words r = All (λ form. arguments words ≡ form → IsHelp r) helps

-- words of each form that asks for the version are answered by the version
abbrev pub TakesVersions : List Text → Result Request UsageFault → Type 0
TakesVersions words r = All (λ form. arguments words ≡ form → IsVersion r) versions
