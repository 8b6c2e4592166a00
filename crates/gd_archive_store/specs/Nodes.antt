-- The nodes of a check, which stand for its term.
use Rattle.std.specs.Prelude.{◌≡◌, ℕ, ℤ, pos, List, slice_index_or}
use Rattle.sqlite_value.specs.declared.keys.Collation.TheVariants.{Binary as Bytes}
use Rattle.sqlite_value.specs.declared.value.Value.TheVariants.{Null, Int}
use Rattle.sqlite_sql.specs.declared.ops.BinaryOp.TheVariants.{Compare, Or}
use Rattle.sqlite_sql.specs.declared.ops.CompareOp.TheVariants.{Eq}
use Rattle.sqlite_schema.specs.declared.code.Op.{Op}
use Rattle.sqlite_schema.specs.declared.code.Op.TheVariants.{Literal, Column, Binary}

-- the node at a place
abbrev pub node : List Op → ℕ → Op
node nodes at = slice_index_or nodes at (Literal Null)

-- the node asks that the column at this place be this number
abbrev pub IsNumber : List Op → ℕ → ℕ → ℤ → Type 0
IsNumber nodes at place n = (a : ℕ) × (b : ℕ) × (node nodes at ≡ Binary (Compare Eq Bytes) a b) × (node nodes a ≡ Column 1 place) × (node nodes b ≡ Literal (Int n))

-- the node asks that the rule be 1 or 2
abbrev pub IsRule : List Op → ℕ → Type 0
IsRule nodes at = (a : ℕ) × (b : ℕ) × (node nodes at ≡ Binary Or a b) × IsNumber nodes a 5 (pos 1) × IsNumber nodes b 5 (pos 2)
