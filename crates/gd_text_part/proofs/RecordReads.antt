-- What a read of a record does to the records that are left.
use Rattle.std.proofs.Common.{Bor, ◌≡◌, ℕ, List, [], ◌∷◌, Some, true, false, refl}
use Rattle.csv.specs.Reading.{ReadRecord, Reached, default_config, source_of}
use Rattle.csv.specs.declared.reader.Reader.{Reader}
use Rattle.csv.proofs.ReadFacts.{rows-end, rows-more}
use Rattle.gd_text_part.specs.Csv.{records_in}
use Rattle.gd_text_part.proofs.AllRecords.{first_of_left, none_left}

-- a reader over bytes in memory, and the bytes that it has left
abbrev pub MemoryReader : Type 0
MemoryReader = Reader (Bor (List ℕ))

abbrev pub left : MemoryReader → List (List (List ℕ))
left a = records_in a.state (source_of (λ s. Some s.now) a)

pub takes : (a b : MemoryReader) (f : List (List ℕ)) (xs : List ℕ) → a.config ≡ default_config → source_of (λ s. Some s.now) a ≡ Some xs → ReadRecord (λ s. Some s.now) a b true f
    → (ys : List ℕ) × (source_of (λ s. Some s.now) b ≡ Some ys) × (left a ≡ f ∷ left b)
unfolding Reached
takes a b f xs config known read =
    let more = rows-more (λ (s : Bor (List ℕ)). Some s.now) a b f default_config a.state xs xs [] config known (refl, refl) read in
    let first = first_of_left default_config a.state xs f b.state more.0 more.2 in
    (more.0, more.1, rw (known, more.1) first)

pub ends : (a b : MemoryReader) (f : List (List ℕ)) (xs : List ℕ) → a.config ≡ default_config → source_of (λ s. Some s.now) a ≡ Some xs → ReadRecord (λ s. Some s.now) a b false f → left a ≡ []
ends a b f xs config known read =
    let none = rows-end (λ (s : Bor (List ℕ)). Some s.now) a b f default_config xs config known read in
    rw known (none_left default_config a.state xs none)
