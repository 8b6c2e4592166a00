-- What the statements of the archive compile to.
use Rattle.std.proofs.Common.{◌≡◌, ℕ, List, None, [], ◌∷◌, codes, Ok, refl, pos, negsuc, false}
use Rattle.sqlite.specs.Collation.TheVariants.{Binary}
use Rattle.sqlite_sql.specs.declared.ops.BinaryOp.TheVariants.{Compare}
use Rattle.sqlite_sql.specs.declared.ops.CompareOp.TheVariants.{Eq}
use Rattle.sqlite_sql.specs.declared.ops.UnaryOp.TheVariants.{ToNumeric}
use Rattle.sqlite.specs.declared.types.Value.TheVariants.{Null, Int, Text as Words}
use Rattle.sqlite.specs.Compile.{table_defined_by}
use Rattle.sqlite.specs.Schema.{Schema}
use Rattle.sqlite.specs.Table.{Table}
use Rattle.sqlite_schema.specs.declared.schema.Index.{Index}
use Rattle.sqlite_schema.specs.declared.schema.View.{View}
use Rattle.sqlite_value.specs.declared.keys.Key.{Key}
use Rattle.sqlite.specs.Command.TheVariants.{Insert, Select, CreateTable, DropTable}
use Rattle.sqlite.specs.Source.TheVariants.{Values}
use Rattle.sqlite.specs.Term.{Term, lit, col, op1, op2}
use Rattle.sqlite.specs.Query.{Query, inner, end}
use Rattle.sqlite.specs.Change.{without_table}
use Rattle.sqlite_tied.specs.Compute.{everything}
use Rattle.sqlite.specs.Listing.{understood, reads_listing}
use Rattle.sqlite.proofs.Callers.{IsPlain, command_of, statement_of}
use Rattle.gd_archive_store.proofs.Failing.{Fits}
use Rattle.gd_archive_store.specs.Tables.{no_schema, archive, posting, posting2, only_archive, version_1, version_2}

abbrev pub create_archive_text : List ℕ
create_archive_text = codes "CREATE TABLE archive (one INTEGER PRIMARY KEY CHECK (one = 1), version INTEGER NOT NULL)"

abbrev pub create_posting_text : List ℕ
create_posting_text = codes "CREATE TABLE posting (book TEXT NOT NULL, cycle INTEGER NOT NULL, round INTEGER NOT NULL, body BLOB NOT NULL, PRIMARY KEY (book, cycle))"

abbrev pub create_posting2_text : List ℕ
create_posting2_text = codes "CREATE TABLE posting2 (book TEXT NOT NULL, cycle INTEGER NOT NULL, round INTEGER NOT NULL, body BLOB NOT NULL, rule INTEGER NOT NULL CHECK (rule IN (1, 2)), PRIMARY KEY (book, cycle))"

abbrev pub insert_text : List ℕ
insert_text = codes "INSERT INTO posting2 (book, cycle, round, body, rule) VALUES (?1, ?2, ?3, ?4, ?5)"

abbrev pub find_text : List ℕ
find_text = codes "SELECT round, body, rule FROM posting2 WHERE book = ?1 AND cycle = ?2"

abbrev pub version_text : List ℕ
version_text = codes "SELECT version FROM archive"

-- the texts that make the tables are what they are taken for
pub archive_is : (command_of (understood no_schema create_archive_text) ≡ CreateTable) × (statement_of create_archive_text (understood no_schema create_archive_text) ≡ create_archive_text)
    × (table_defined_by create_archive_text ≡ Ok archive)
unfolding understood everything
archive_is = (refl, refl, refl)

pub posting_is : (command_of (understood only_archive create_posting_text) ≡ CreateTable) × (statement_of create_posting_text (understood only_archive create_posting_text) ≡ create_posting_text)
    × (table_defined_by create_posting_text ≡ Ok posting)
unfolding understood everything
posting_is = (refl, refl, refl)

pub posting2_is : (command_of (understood version_1 create_posting2_text) ≡ CreateTable) × (statement_of create_posting2_text (understood version_1 create_posting2_text) ≡ create_posting2_text)
    × (table_defined_by create_posting2_text ≡ Ok posting2)
unfolding understood everything
posting2_is = (refl, refl, refl)

abbrev pub terms : List Term
terms = lit Null ∷ col 0 0 ∷ col 0 1 ∷ col 0 2 ∷ col 0 3 ∷ col 0 4 ∷ []

pub insert_is : command_of (understood version_2 insert_text) ≡ Insert 2 (Values terms 6)
unfolding understood everything
insert_is = refl

pub insert_plain : IsPlain (understood version_2 insert_text)
unfolding understood everything
insert_plain = (refl, refl)

-- a query of one table in no order
abbrev plain_query : ℕ → List Term → List Term → Query
plain_query tree filter project = record {
  from = inner tree end;
  filter = filter;
  group = None;
  project = project;
  distinct = false;
  collations = [];
  order = [];
  limit = lit (Int (negsuc 0));
  offset = lit (Int (pos 0));
}

abbrev pub find_query : Query
find_query = plain_query 3 (op2 (Compare Eq Binary) (col 1 1) (col 0 0) ∷ op2 (Compare Eq Binary) (col 1 2) (op1 ToNumeric (col 0 1)) ∷ []) (col 1 3 ∷ col 1 4 ∷ col 1 5 ∷ [])

pub find_is : (command_of (understood version_2 find_text) ≡ Select (record { lets = []; body = find_query }) (codes "round" ∷ codes "body" ∷ codes "rule" ∷ [])) × (reads_listing version_2 find_text ≡ false)
unfolding understood everything
find_is = (refl, refl)

pub find_plain : IsPlain (understood version_2 find_text)
unfolding understood everything
find_plain = (refl, refl)

abbrev pub version_query : Query
version_query = plain_query 0 [] (col 1 2 ∷ [])

-- the version is read in whatever schema has the version's table first
abbrev pub ReadsVersion : Schema → Type 0
ReadsVersion schema =
    (command_of (understood schema version_text) ≡ Select (record { lets = []; body = version_query }) (codes "version" ∷ [])) × (reads_listing schema version_text ≡ false) × IsPlain (understood schema version_text)

pub version_is : (tables : List Table) (indexes : List Index) (views : List View) → ReadsVersion (record { tables = archive ∷ tables; indexes = indexes; views = views })
unfolding understood everything
version_is tables indexes views = (refl, refl, (refl, refl))

pub archive_plain : IsPlain (understood no_schema create_archive_text)
unfolding understood everything
archive_plain = (refl, refl)

pub posting_plain : IsPlain (understood only_archive create_posting_text)
unfolding understood everything
posting_plain = (refl, refl)

pub posting2_plain : IsPlain (understood version_1 create_posting2_text)
unfolding understood everything
posting2_plain = (refl, refl)

abbrev pub drop_posting_text : List ℕ
drop_posting_text = codes "DROP TABLE posting"

abbrev pub drop_archive_text : List ℕ
drop_archive_text = codes "DROP TABLE archive"

abbrev pub enter_version_text : List ℕ
enter_version_text = codes "INSERT INTO archive (one, version) VALUES (1, 2)"

abbrev pub old_text : List ℕ
old_text = codes "SELECT book, cycle, round, body FROM posting ORDER BY book, cycle"

abbrev pub all_text : List ℕ
all_text = codes "SELECT book, cycle, round, body, rule FROM posting2 ORDER BY book, cycle"

pub drop_posting_is : (command_of (understood version_1 drop_posting_text) ≡ DropTable 1) × IsPlain (understood version_1 drop_posting_text)
unfolding understood everything
drop_posting_is = (refl, (refl, refl))

pub drop_archive_is : (command_of (understood only_archive drop_archive_text) ≡ DropTable 0) × IsPlain (understood only_archive drop_archive_text)
unfolding understood everything
drop_archive_is = (refl, (refl, refl))

-- without its tables the schema is what it was before them
pub without_posting : without_table version_1 1 ≡ only_archive
without_posting = refl

pub without_archive : without_table only_archive 0 ≡ no_schema
without_archive = refl

abbrev pub version_terms : List Term
version_terms = lit (Int (pos 1)) ∷ lit Null ∷ lit (Int (pos 2)) ∷ []

pub enter_version_is : (command_of (understood version_2 enter_version_text) ≡ Insert 0 (Values version_terms 3)) × IsPlain (understood version_2 enter_version_text)
unfolding understood everything
enter_version_is = (refl, (refl, refl))

abbrev by : List Term → List (Term × Key)
by [] = []
by (t ∷ ts) = (t, record { collation = Binary; descending = false }) ∷ by ts

-- a query of one whole table in order of book and cycle
abbrev ordered_query : ℕ → List Term → Query
ordered_query tree project = record {
  from = inner tree end;
  filter = [];
  group = None;
  project = project;
  distinct = false;
  collations = [];
  order = by (col 1 1 ∷ col 1 2 ∷ []);
  limit = lit (Int (negsuc 0));
  offset = lit (Int (pos 0));
}

abbrev pub old_query : Query
old_query = ordered_query 1 (col 1 1 ∷ col 1 2 ∷ col 1 3 ∷ col 1 4 ∷ [])

abbrev pub all_query : Query
all_query = ordered_query 3 (col 1 1 ∷ col 1 2 ∷ col 1 3 ∷ col 1 4 ∷ col 1 5 ∷ [])

pub old_is : (command_of (understood version_1 old_text) ≡ Select (record { lets = []; body = old_query }) (codes "book" ∷ codes "cycle" ∷ codes "round" ∷ codes "body" ∷ [])) × (reads_listing version_1 old_text ≡ false)
    × IsPlain (understood version_1 old_text)
unfolding understood everything
old_is = (refl, refl, (refl, refl))

pub all_is : (command_of (understood version_2 all_text) ≡ Select (record { lets = []; body = all_query }) (codes "book" ∷ codes "cycle" ∷ codes "round" ∷ codes "body" ∷ codes "rule" ∷ [])) × (reads_listing version_2 all_text ≡ false)
    × IsPlain (understood version_2 all_text)
unfolding understood everything
all_is = (refl, refl, (refl, refl))

-- each query is the whole text, and takes the parameters that it is given
pub version_fits : (tables : List Table) (indexes : List Index) (views : List View) → Fits version_text [] (understood (record { tables = archive ∷ tables; indexes = indexes; views = views }) version_text)
unfolding understood everything
version_fits tables indexes views = (refl, refl)

pub find_fits : (book : List ℕ) (cycle : ℕ) → Fits find_text (Words book ∷ Int (pos cycle) ∷ []) (understood version_2 find_text)
unfolding understood everything
find_fits book cycle = (refl, refl)

pub all_fits : Fits all_text [] (understood version_2 all_text)
unfolding understood everything
all_fits = (refl, refl)
