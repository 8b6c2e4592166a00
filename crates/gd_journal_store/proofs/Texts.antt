-- What the statements of a journal compile to.
use Rattle.std.proofs.Common.{◌≡◌, List, [], ◌∷◌, ℕ, None, Ok, codes, refl, pos, negsuc, false}
use Rattle.sqlite.specs.Collation.TheVariants.{Binary}
use Rattle.sqlite_sql.specs.declared.ops.BinaryOp.TheVariants.{Compare}
use Rattle.sqlite_sql.specs.declared.ops.CompareOp.TheVariants.{Gt, Le}
use Rattle.sqlite.specs.declared.types.Value.TheVariants.{Null, Int}
use Rattle.sqlite.specs.Command.TheVariants.{Insert, Select, CreateTable}
use Rattle.sqlite.specs.Compile.{table_defined_by}
use Rattle.sqlite.specs.Source.TheVariants.{Values}
use Rattle.sqlite.specs.Term.{Term, lit, col, op2}
use Rattle.sqlite_tied.specs.Compute.{everything}
use Rattle.sqlite.specs.Query.{Query, inner, end}
use Rattle.sqlite.specs.Listing.{understood, reads_listing}
use Rattle.sqlite.proofs.Callers.{IsPlain, command_of, statement_of}
use Rattle.gd_journal_store.specs.Table.{no_schema, piece, journal}

abbrev pub create_text : List ℕ
create_text = codes "CREATE TABLE piece (number INTEGER PRIMARY KEY, rows BLOB NOT NULL, told BLOB NOT NULL)"

-- the text that makes the table is what it is taken for
pub create_is : (command_of (understood no_schema create_text) ≡ CreateTable) × (statement_of create_text (understood no_schema create_text) ≡ create_text) × (table_defined_by create_text ≡ Ok piece)
    × IsPlain (understood no_schema create_text)
unfolding understood everything
create_is = (refl, refl, refl, (refl, refl))

abbrev pub insert_text : List ℕ
insert_text = codes "INSERT INTO piece (number, rows, told) VALUES (?1, ?2, ?3)"

abbrev pub terms : List Term
terms = col 0 0 ∷ lit Null ∷ col 0 1 ∷ col 0 2 ∷ []

pub insert_is : command_of (understood journal insert_text) ≡ Insert 0 (Values terms 4)
unfolding understood everything
insert_is = refl

pub insert_plain : IsPlain (understood journal insert_text)
unfolding understood everything
insert_plain = (refl, refl)

abbrev pub all_text : List ℕ
all_text = codes "SELECT number, rows, told FROM piece ORDER BY number"

abbrev pub part_text : List ℕ
part_text = codes "SELECT number, rows, told FROM piece WHERE number > ?1 AND number <= ?2 ORDER BY number"

-- a query of numbers, rows and what was told, in order of the numbers
abbrev pub ordered_query : List Term → Query
ordered_query filter = record {
  from = inner 0 end;
  filter = filter;
  group = None;
  project = col 1 0 ∷ col 1 2 ∷ col 1 3 ∷ [];
  distinct = false;
  collations = [];
  order = (col 1 0, record { collation = Binary; descending = false }) ∷ [];
  limit = lit (Int (negsuc 0));
  offset = lit (Int (pos 0));
}

abbrev pub all_query : Query
all_query = ordered_query []

abbrev pub part_query : Query
part_query = ordered_query (op2 (Compare Gt Binary) (col 1 0) (col 0 0) ∷ op2 (Compare Le Binary) (col 1 0) (col 0 1) ∷ [])

abbrev names : List (List ℕ)
names = codes "number" ∷ codes "rows" ∷ codes "told" ∷ []

pub all_is : (command_of (understood journal all_text) ≡ Select (record { lets = []; body = all_query }) names) × (reads_listing journal all_text ≡ false) × IsPlain (understood journal all_text)
unfolding understood everything
all_is = (refl, refl, (refl, refl))

pub part_is : (command_of (understood journal part_text) ≡ Select (record { lets = []; body = part_query }) names) × (reads_listing journal part_text ≡ false) × IsPlain (understood journal part_text)
unfolding understood everything
part_is = (refl, refl, (refl, refl))
