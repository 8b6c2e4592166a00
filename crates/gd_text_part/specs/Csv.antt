-- What a text is: its records by the rules of csv, with no header row.
use Rattle.std.specs.Prelude.{◌≡◌, ◌≤◌, ◌+◌, ℕ, Bool, true, false, List, [], ◌∷◌, length, Option, Some, None}
use Rattle.csv.specs.Reading.{Ready, default_config, is_flexible, reader_config, reader_state, reader_trim, records, records_from, source_of, strip_bom}
use Rattle.csv.specs.Records.{fields_of}
use Rattle.csv.specs.declared.parser.State.{State}
use Rattle.csv.specs.declared.reader.Trim.TheVariants as trim
use Rattle.gd_text_part.specs.declared.records.TheConstants.{MAX_ROWS}
use Rattle.gd_text_part.specs.declared.records.Records.{Records}

-- the records of a text, each a list of fields; a byte order mark at its start is dropped, and so are empty lines
abbrev pub records_of : List ℕ → List (List (List ℕ))
records_of text = records default_config (strip_bom text)

-- the bytes that are still to be read
abbrev pub bytes_left : Records → Option (List ℕ)
bytes_left r = source_of (λ s. Some s.now) r.reader

abbrev pub records_in : State → Option (List ℕ) → List (List (List ℕ))
records_in s None = []
records_in s (Some bytes) = records_from default_config (length bytes + 1) s bytes

-- the records that are still to be taken
abbrev pub records_left : Records → List (List (List ℕ))
records_left r = records_in (reader_state r.reader) (bytes_left r)

-- the next read takes a record as it stands in the text
pub record IsReading (r : Records) : Type 0 where
  pub trim : reader_trim r.reader ≡ trim.None
  pub ready : Ready r.reader
  pub config : reader_config r.reader ≡ default_config
  pub flexible : is_flexible r.reader ≡ true
  pub known : (bytes : List ℕ) × (bytes_left r ≡ Some bytes)
  pub few : r.taken ≤ MAX_ROWS

-- a record was taken, or none was left
abbrev pub Takes : Records → Records → Bool → Type 0
Takes old new true = IsReading new × (records_left old ≡ fields_of new.current ∷ records_left new) × (new.taken ≡ old.taken + 1)
Takes old new false = (records_left old ≡ []) × (new.taken ≡ old.taken)
