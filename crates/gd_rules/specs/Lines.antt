-- The lines of a gas day, and what is nominated on them: all of it is told by the list of accepted nominations, in the order of acceptance.
-- Names are lists of bytes. Cycles (NAESB WGQ 1.3.2) count from 1: Timely, Evening, Intraday 1, 2 and 3. Quantities are dekatherms for one gas day.
use Rattle.std.specs.Prelude.{ℕ, Bool, ◌==◌, ◌&&◌, nat_le, List, [], ◌∷◌, ◌++◌, get_or, position, filter, fold, sum_by, Option, if◌then◌else◌}
use Rattle.std.specs.List.{list_any}
use Rattle.std.specs.Cmp.Lexicographic.{pointwise}

-- Whose gas flows between which ends: a contract, a package within it, an origin and a destination make a line.
pub record Key : Type 0 where
  pub contract : List ℕ
  pub «package» : List ℕ
  pub origin : List ℕ
  pub dest : List ℕ

-- An accepted nomination: of which line, for which cycle, of which priority class, and how much.
pub record Nomination : Type 0 where
  pub key : Key
  pub cycle : ℕ
  pub class : ℕ
  pub quantity : ℕ

abbrev pub same_name : List ℕ → List ℕ → Bool
same_name a b = pointwise ◌==◌ a b

abbrev pub same_key : Key → Key → Bool
same_key a b = same_name a.contract b.contract && (same_name a.package b.package && (same_name a.origin b.origin && same_name a.dest b.dest))

-- ---- lines, numbered from 0 in the order of their first acceptance

-- The keys after one more: a new one goes last.
abbrev pub entered : List Key → Key → List Key
entered keys key = if list_any (same_key key) keys then keys else keys ++ key ∷ []

-- The lines' keys by number.
abbrev pub lines_of : List Nomination → List Key
lines_of ns = fold (λ keys n. entered keys n.key) [] ns

abbrev pub no_key : Key
no_key = record { contract = []; «package» = []; origin = []; dest = [] }

abbrev pub line_key : List Nomination → ℕ → Key
line_key ns line = get_or (lines_of ns) line no_key

-- The number of the line with this key.
abbrev pub find : List Nomination → Key → Option ℕ
find ns key = position (same_key key) (lines_of ns)

-- ---- what is nominated

-- The nominations of one line.
abbrev pub of_line : Key → List Nomination → List Nomination
of_line key ns = filter (λ n. same_key key n.key) ns

-- The nominations for this cycle and the former ones.
abbrev pub until : ℕ → List Nomination → List Nomination
until cycle ns = filter (λ n. nat_le n.cycle cycle) ns

-- The quantity of the last of these nominations, or 0.
abbrev pub last_quantity : List Nomination → ℕ
last_quantity ns = fold (λ former n. n.quantity) 0 ns

-- What a contract's lines have been nominated last, together (own).
abbrev pub committed : List Nomination → List ℕ → ℕ
committed ns contract = sum_by (λ key. last_quantity (of_line key ns)) (filter (λ key. same_name key.contract contract) (lines_of ns))

-- The nominations for one cycle, in the order of acceptance.
abbrev pub intake : List Nomination → ℕ → List Nomination
intake ns cycle = filter (λ n. n.cycle == cycle) ns

-- ---- time
