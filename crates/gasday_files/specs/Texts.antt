-- The bytes of a text that several files make up.
use Rattle.std.specs.Prelude.{◌≡◌, ◌≢◌, ◌⊎◌, ◌++◌, ⊤, ℕ, Bool, true, false, List, [], ◌∷◌, length, drop, Contains, nat_eq, Option, IfSome}
use Rattle.std.specs.List.{starts_with, ends_with}
use Rattle.gd_text_part.specs.Texts.{BlamesNoRow, HasManyBytes}
use Rattle.gd_messages.specs.declared.text.Part.{Part}
use Rattle.gasday_words.specs.Ordered.{Ordered, Audit, AuditEach, Migrate}
use Rattle.gasday_files.specs.declared.input.Text.{Text}
use Rattle.gasday_files.specs.declared.input.Unread.{Unread}
use Rattle.gasday_files.specs.declared.input.Unread.TheVariants as unread

-- UTF-8's, with which some programs begin a file
abbrev pub byte_order_mark : List ℕ
byte_order_mark = 0xef ∷ 0xbb ∷ 0xbf ∷ []

abbrev pub without_mark_if : Bool → List ℕ → List ℕ
without_mark_if true file = drop 3 file
without_mark_if false file = file

-- what a file has behind its byte order mark, if it begins with one
abbrev pub unmarked : List ℕ → List ℕ
unmarked file = without_mark_if (starts_with nat_eq file byte_order_mark) file

abbrev pub ended_if : Bool → List ℕ → List ℕ
ended_if true bytes = bytes
ended_if false bytes = bytes ++ 10 ∷ []

-- bytes, with a line break behind them if they don't end with one
abbrev pub ended : List ℕ → List ℕ
ended bytes = ended_if (ends_with nat_eq bytes (10 ∷ [])) bytes

-- these bytes with those of a file behind them
abbrev pub joined : List ℕ → List ℕ → List ℕ
joined bytes file = ended (bytes ++ unmarked file)

-- the name of standard input among those of files
abbrev pub standard_input : List ℕ
standard_input = 45 ∷ []

-- the file of this name is put behind the others, and it is noted where it begins
abbrev pub Adds : List ℕ → Text → Text → Type 0
Adds name old new =
    ((file : List ℕ) × (new.bytes.items ≡ joined old.bytes.items file))
    × ((part : Part) × (part.name.now ≡ name) × (part.begin ≡ length old.bytes.items) × (new.parts.items ≡ old.parts.items ++ part ∷ []))

-- the files of these names make up a text, in order
pub data IsMadeOf : List (List ℕ) → Text → Type 0 where
  nothing : (text : Text) → text.bytes.items ≡ [] → text.parts.items ≡ [] → IsMadeOf [] text
  added : (names : List (List ℕ)) → (name : List ℕ) → (old : Text) → (new : Text) → IsMadeOf names old → Adds name old new
      → IsMadeOf (names ++ name ∷ []) new

-- The text that is read where these files are named: theirs, or where none is named all that the input has, if it tells that.
abbrev pub IsRead : Option (List ℕ) → List (List ℕ) → Text → Type 0
IsRead input names text =
    ((names ≡ []) × (text.parts.items ≡ []) × IfSome input (λ all. text.bytes.items ≡ all)) ⊎ ((names ≢ []) × IsMadeOf names text)

-- of an order that audits or migrates any text, since it looks at none
abbrev pub IsTextOf : Option (List ℕ) → Ordered → List (List ℕ) → Text → Type 0
IsTextOf input (Audit file) names text = ⊤
IsTextOf input (AuditEach file) names text = ⊤
IsTextOf input (Migrate file) names text = ⊤
IsTextOf input order names text = IsRead input names text

-- one of these files is blamed
abbrev pub BlamesFile : List (List ℕ) → Unread → Type 0
BlamesFile names (unread.File name error) = Contains names name.now
BlamesFile names (unread.Standard fault error) = ⊥

-- The input is blamed: it can't be read, there is no memory for it, or it has more bytes than a text may have, or at least as many as
-- there may be reads.
abbrev pub BlamesInput : Option (List ℕ) → Unread → Type 0
BlamesInput input (unread.File name error) = ⊥
BlamesInput input (unread.Standard fault error) = BlamesNoRow (IfSome input HasManyBytes) fault

-- why no text is read: the input is blamed, where no file is named, or one of those that are
abbrev pub IsUnread : Option (List ℕ) → List (List ℕ) → Unread → Type 0
IsUnread input names why = ((names ≡ []) × BlamesInput input why) ⊎ BlamesFile names why

-- a text may be read for this order: none is for one that audits or migrates
abbrev pub ReadsText : Ordered → Type 0
ReadsText (Audit file) = ⊥
ReadsText (AuditEach file) = ⊥
ReadsText (Migrate file) = ⊥
ReadsText order = ⊤
