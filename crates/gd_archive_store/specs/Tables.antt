-- The tables of an archive, as their texts define them.
use Rattle.std.specs.Prelude.{◌≡◌, true, false, [], ◌∷◌, None, Some, codes, List, ℕ, zero, suc, ℤ, ◌+◌, pos, Bool}
use Rattle.sqlite.specs.Collation.TheVariants.{Binary}
use Rattle.sqlite.specs.declared.types.Value.TheVariants.{Null, Int}
use Rattle.sqlite.specs.Table.{Table}
use Rattle.sqlite_schema.specs.declared.schema.Column.{Column}
use Rattle.sqlite_schema.specs.declared.schema.Index.{Index}
use Rattle.sqlite.specs.Kind.{Kind}
use Rattle.sqlite.specs.Schema.{Schema}
use Rattle.sqlite.specs.Kind.TheVariants.{Integer, Text, Any}
use Rattle.sqlite.specs.Term.{Term, lit, col, op2}
use Rattle.sqlite.specs.Change.{created}
use Rattle.sqlite_sql.specs.declared.ops.BinaryOp.TheVariants.{Compare, Or}
use Rattle.sqlite_sql.specs.declared.ops.CompareOp.TheVariants.{Eq}

-- a column with no default, in the order of its bytes
abbrev pub plain_column : List ℕ → Kind → Bool → Column
plain_column name kind not_null = record { name = name; kind = kind; is_strict = false; not_null = not_null; default = Null; collation = Binary }

-- the check that the column at this place is this number
abbrev pub is_number : ℕ → ℤ → Term
is_number place n = op2 (Compare Eq Binary) (col 1 place) (lit (Int n))

-- the check that the rule is 1 or 2
abbrev pub is_rule : Term
is_rule = op2 Or (is_number 5 (pos 1)) (is_number 5 (pos 2))

-- the columns of the version's table
abbrev pub archive_columns : List Column
archive_columns = plain_column (codes "one") Integer false ∷ plain_column (codes "version") Integer true ∷ []

-- the columns of the postings of version 1
abbrev pub posting_columns : List Column
posting_columns = plain_column (codes "book") Text true ∷ plain_column (codes "cycle") Integer true ∷ plain_column (codes "round") Integer true ∷ plain_column (codes "body") Any true ∷ []

-- the columns of the postings of version 2
abbrev pub posting2_columns : List Column
posting2_columns =
    plain_column (codes "book") Text true ∷ plain_column (codes "cycle") Integer true ∷ plain_column (codes "round") Integer true ∷ plain_column (codes "body") Any true ∷ plain_column (codes "rule") Integer true ∷ []

-- the table has this name and tree, and neither references nor computed defaults
pub record IsPlain (named : List ℕ) (at : ℕ) (table : Table) : Type 0 where
  pub name : table.name ≡ named
  pub tree : table.tree ≡ at
  pub references : table.references ≡ []
  pub computed : table.computed ≡ []
  pub stamps : table.stamps ≡ record { places = []; terms = []; formats = [] }
  pub is_counted : table.is_counted ≡ false

-- the table's one key is of book and cycle, in the order of their bytes
pub record IsKeyed (table : Table) : Type 0 where
  pub key : table.key ≡ None
  pub primary : table.primary ≡ 1 ∷ 2 ∷ []
  pub uniques : table.uniques ≡ (1 ∷ 2 ∷ []) ∷ []
  pub orders : table.orders ≡ (record { digits = 0 }) ∷ []

-- the index that SQL makes of the key of book and cycle, in the tree after the table's
abbrev pub key_index : List ℕ → ℕ → Index
key_index name table = record { name = name; tree = table + 1; table = table; columns = 1 ∷ 2 ∷ []; order = record { digits = 0 }; is_unique = true }

-- the version's table, whose one row has the rowid 1
abbrev pub archive : Table
archive = record {
  name = codes "archive";
  tree = 0;
  columns = archive_columns;
  key = Some 0;
  primary = 0 ∷ [];
  uniques = [];
  orders = [];
  checks = is_number 0 (pos 1) ∷ [];
  references = [];
  computed = [];
  stamps = record { places = []; terms = []; formats = [] };
  is_counted = false;
}

-- the postings of version 1
abbrev pub posting : Table
posting = record {
  name = codes "posting";
  tree = 0;
  columns = posting_columns;
  key = None;
  primary = 1 ∷ 2 ∷ [];
  uniques = (1 ∷ 2 ∷ []) ∷ [];
  orders = (record { digits = 0 }) ∷ [];
  checks = [];
  references = [];
  computed = [];
  stamps = record { places = []; terms = []; formats = [] };
  is_counted = false;
}

-- those of version 2
abbrev pub posting2 : Table
posting2 = record {
  name = codes "posting2";
  tree = 0;
  columns = posting2_columns;
  key = None;
  primary = 1 ∷ 2 ∷ [];
  uniques = (1 ∷ 2 ∷ []) ∷ [];
  orders = (record { digits = 0 }) ∷ [];
  checks = is_rule ∷ [];
  references = [];
  computed = [];
  stamps = record { places = []; terms = []; formats = [] };
  is_counted = false;
}

-- no table at all
abbrev pub no_schema : Schema
no_schema = record { tables = []; indexes = []; views = [] }

-- the version's table alone, in tree 0
abbrev pub only_archive : Schema
only_archive = created no_schema archive

-- the tables of version 1: the postings are in tree 1, and their key in tree 2
abbrev pub version_1 : Schema
version_1 = created only_archive posting

-- the tables of version 2: the postings are in tree 3, and their key in tree 4
abbrev pub version_2 : Schema
version_2 = created version_1 posting2

-- the tables that `make` makes, in their order, as far as there are so many of them
abbrev pub first_tables : ℕ → Schema
first_tables zero = no_schema
first_tables (suc zero) = only_archive
first_tables (suc (suc zero)) = version_1
first_tables (suc (suc (suc n))) = version_2

-- the tree of each of these tables
abbrev pub tree_of : ℕ → ℕ
tree_of zero = 0
tree_of (suc zero) = 1
tree_of (suc (suc n)) = 3

-- the version's table stands first, as in each version
abbrev pub HasArchive : Schema → Type 0
HasArchive schema = (tables : List Table) × (schema.tables ≡ archive ∷ tables)
