-- What a contract sees of a table.
use Rattle.std.specs.Prelude.{ℕ, Bool, List, Option, position, refl}
use Rattle.std.specs.List.{IsDistinct}
use Rattle.std.specs.Map.{keys_of, lookup}
use Rattle.std.specs.Coded.{Coded, code_by, coded×, coded_ℕ, coded_list}

-- The entries in their order, and how many more fit with no allocation.
pub record Table (K V : Type 0) : Type 0 where
  pub entries : List (K × V)
  pub spare : ℕ

abbrev pub table_code : {K V : Type 0} → Coded K → Coded V → Coded (Table K V)
table_code {K} {V} k v = code_by (List (K × V) × ℕ) (coded× (coded_list (coded× k v)) coded_ℕ) (λ t. (t.entries, t.spare)) (λ p. record { entries = p.0; spare = p.1 }) (λ _. refl)

module _ {K V : Type 0} where
  -- The keys in their order.
  abbrev pub keys : Table K V → List K
  keys t = keys_of t.entries

  -- The value at a key, by an equality of keys.
  abbrev pub get : (K → K → Bool) → Table K V → K → Option V
  get eq t key = lookup (eq key) t.entries

  -- The position of a key.
  abbrev pub index_of : (K → K → Bool) → Table K V → K → Option ℕ
  index_of eq t key = position (eq key) (keys t)

  -- No two keys are equal.
  abbrev pub IsUnique : (K → K → Bool) → Table K V → Type 0
  IsUnique eq t = IsDistinct eq (keys t)
