-- The spread (own): within a class the dekatherms of a line are worth the less, the later the tenth of its ceiling in which they lie.
-- So lines of a class that compete at one bottleneck are served tenth by tenth, which gives them about equal shares of their ceilings, floors aside.
use Rattle.std.specs.Prelude.{◌≡◌, ℕ, ◌+◌, ◌*◌, ◌/◌, ◌<◌, ◌≤◌, List, length, nat_lt, ◌==◌, if◌then◌else◌, ◌⊎◌}
use Rattle.gd_scale.specs.Sum.{sum_nat}
use Rattle.gd_rules.specs.Question.{Line, Question, line}
use Rattle.gd_rules.specs.Schedule.{quantity, class_total, HasBetterTotals, IsAllowed}
use Rattle.gd_rules.specs.Limits.{classes, tenths}

-- The last dekatherm of the tenth j of a ceiling.
abbrev pub tenth_end : ℕ → ℕ → ℕ
tenth_end ceiling j = ceiling * j / tenths

-- The tenth in which dekatherm d lies: how many of the tenths 0 to 9 end below it.
abbrev pub tenth_of : ℕ → ℕ → ℕ
tenth_of ceiling d = sum_nat tenths (λ j. if nat_lt (tenth_end ceiling j) d then 1 else 0)

-- Each of a line's dekatherms weighs its tenth.
abbrev pub line_weight : Line → ℕ → ℕ
line_weight l n = sum_nat n (λ d. tenth_of l.ceiling (d + 1))

abbrev pub class_weight : Question → List ℕ → ℕ → ℕ
class_weight q schedule class = sum_nat (length q.lines) (λ i. if (line q i).class == class then line_weight (line q i) (quantity schedule i) else 0)

-- Class totals are equal, and at the first class where the sums of weights differ, that of a is the less.
abbrev pub HasBetterSpread : Question → List ℕ → List ℕ → Type 0
HasBetterSpread q a b =
    ((c : ℕ) → 1 ≤ c → c ≤ classes → class_total q a c ≡ class_total q b c)
    × ((class : ℕ) × (1 ≤ class) × (class ≤ classes) × ((c : ℕ) → 1 ≤ c → c < class → class_weight q a c ≡ class_weight q b c) × (class_weight q a class < class_weight q b class))

-- The tariff's order of schedules: class totals decide, and the spread where all of them are equal.
abbrev pub IsBetter : Question → List ℕ → List ℕ → Type 0
IsBetter q a b = HasBetterTotals q a b ⊎ HasBetterSpread q a b

-- Allowed, and no allowed schedule is better.
abbrev pub IsBest : Question → List ℕ → Type 0
IsBest q schedule = IsAllowed q schedule × ((other : List ℕ) → IsAllowed q other → IsBetter q other schedule → ⊥)
