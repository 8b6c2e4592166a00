-- What comes of an order that names a file, or the two files of a question and its answer.
use Rattle.std.specs.Prelude.{◌≡◌, ◌≢◌, ◌⊎◌, ℕ, min, List, [], ◌∷◌, length, take, drop, slice_get, Option, Some, None, Result}
use Rattle.sqlite_trees.specs.declared.store.Store.{Ghosts}
use Rattle.sqlite.specs.Held.{Held}
use Rattle.sqlite.specs.declared.error.Error.{Error}
use Rattle.gd_messages.specs.declared.text.Part.{Part}
use Rattle.gasday_words.specs.Ordered.{Ordered}
use Rattle.gasday_part.specs.Output.{WritesTold}
use Rattle.gasday_part.specs.Inquiries.{AsksText}
use Rattle.gasday_part.specs.declared.inquiry.Inquiry.{Inquiry}
use Rattle.gasday_files.specs.declared.input.Text.{Text}
use Rattle.gasday_files.specs.Refusals.{Refuses}
use Rattle.gasday_files.specs.Texts.{BlamesFile, IsMadeOf, standard_input}
use Rattle.gasday_orders.specs.Checked.{TellsAnswer}
use Rattle.gasday_orders.specs.Files.{AsksFile, AsksFor, IsInquiry, ServesFile}

-- where the second file begins, in a text of so many bytes
abbrev pub begun_by : ℕ → Option Part → ℕ
begun_by whole None = whole
begun_by whole (Some part) = min part.begin whole

-- how many bytes of a text are its first file's
abbrev pub first_length : Text → ℕ
first_length text = begun_by (length text.bytes.items) (slice_get text.parts.items 1)

-- Of a text of two files it is told whether the second one has the right answer to the question of the first one.
abbrev pub ChecksText : {S : Type 0} → Text → Option (Held S) → Option (List ℕ) → Option (List ℕ) → ℕ → Type 0
ChecksText text left before behind status =
    (left ≡ None)
    × WritesTold (TellsAnswer (take (first_length text) text.bytes.items) (drop (first_length text) text.bytes.items)) before behind status

-- an answer is checked, of the text of these files, or one of them can't be read
abbrev pub Checks : {S : Type 0} → List (List ℕ) → Option (Held S) → Option (List ℕ) → Option (List ℕ) → ℕ → Type 0
Checks names left before behind status =
    ((text : Text) × IsMadeOf names text × ChecksText text left before behind status) ⊎ Refuses (BlamesFile names) left before behind status

module _ {S : Type 0} (g : Ghosts S) (gives : Result (Held S) Error → Type 0) where
  -- Lines are served on the book of the file that the opener gives: of the files of these names, or of the input where none is named;
  -- or they can't be read.
  abbrev pub Serves : Option (List ℕ) → List (List ℕ) → Option (Held S) → Option (List ℕ) → Option (List ℕ) → ℕ → Type 0
  Serves input names left before behind status =
      ((names ≡ []) × ServesFile g gives input left before behind status)
      ⊎ ((names ≢ []) × (text : Text) × IsMadeOf names text × ServesFile g gives (Some text.bytes.items) left before behind status)
      ⊎ Refuses (BlamesFile names) left before behind status

  -- This is asked of the book of the file that the opener gives, which standard input's name never is, or of that of the text of this
  -- name.
  abbrev pub AsksThis : Inquiry → List ℕ → Option (Held S) → Option (List ℕ) → Option (List ℕ) → ℕ → Type 0
  AsksThis asked name left before behind status =
      ((name ≢ standard_input) × AsksFile g gives asked left before behind status)
      ⊎ ((text : Text) × IsMadeOf (name ∷ []) text × (left ≡ None) × AsksText text.bytes.items asked before behind status)

  -- What an order asks of the file of this name is asked, or that can't be read. Of one that asks nothing nothing is written, with
  -- status 2.
  abbrev pub Asks : Ordered → List ℕ → Option (Held S) → Option (List ℕ) → Option (List ℕ) → ℕ → Type 0
  Asks order name left before behind status =
      ((asked : Inquiry) × AsksFor order asked × AsksThis asked name left before behind status)
      ⊎ Refuses (BlamesFile (name ∷ [])) left before behind status
      ⊎ ((IsInquiry order → ⊥) × (left ≡ None) × (status ≡ 2) × (behind ≡ before))
