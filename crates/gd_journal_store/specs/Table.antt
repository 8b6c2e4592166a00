-- The table of a journal, as its text defines it.
use Rattle.std.specs.Prelude.{false, true, [], ◌∷◌, Some, codes, List, ℕ, Bool}
use Rattle.sqlite.specs.Collation.TheVariants.{Binary}
use Rattle.sqlite.specs.declared.types.Value.TheVariants.{Null}
use Rattle.sqlite.specs.Table.{Table}
use Rattle.sqlite_schema.specs.declared.schema.Column.{Column}
use Rattle.sqlite.specs.Kind.{Kind}
use Rattle.sqlite.specs.Kind.TheVariants.{Integer, Any}
use Rattle.sqlite.specs.Schema.{Schema}
use Rattle.sqlite.specs.Change.{created}

-- a column with no default, in the order of its bytes
abbrev pub plain_column : List ℕ → Kind → Bool → Column
plain_column name kind not_null = record { name = name; kind = kind; is_strict = false; not_null = not_null; default = Null; collation = Binary }

abbrev pub piece_columns : List Column
piece_columns = plain_column (codes "number") Integer false ∷ plain_column (codes "rows") Any true ∷ plain_column (codes "told") Any true ∷ []

-- the one table, whose rowid is the number
abbrev pub piece : Table
piece = record {
  name = codes "piece";
  tree = 0;
  columns = piece_columns;
  key = Some 0;
  primary = 0 ∷ [];
  uniques = [];
  orders = [];
  checks = [];
  references = [];
  computed = [];
  stamps = record { places = []; terms = []; formats = [] };
  is_counted = false;
}

-- no table at all
abbrev pub no_schema : Schema
no_schema = record { tables = []; indexes = []; views = [] }

-- the table of the pieces alone, in tree 0
abbrev pub journal : Schema
journal = created no_schema piece
