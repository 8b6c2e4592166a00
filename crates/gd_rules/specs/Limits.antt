-- How much there may be of what is counted. Each limit is this project's own, unless it says NAESB.
use Rattle.std.specs.Prelude.{ℕ, ◌+◌, ◌^◌}

-- the greatest quantity, in dekatherms for one gas day (own)
abbrev pub most_dekatherms : ℕ
most_dekatherms = 1_000_000_000

-- segments of a pipeline (own): a tree has one fewer than places
abbrev pub most_segments : ℕ
most_segments = 4095

-- places of a pipeline (own)
abbrev pub most_places : ℕ
most_places = 4096

-- points of a pipeline (own)
abbrev pub most_points : ℕ
most_points = 4096

-- pools of a pipeline (own)
abbrev pub most_pools : ℕ
most_pools = 256

-- elements of a pipeline (own): its segments, points and pools, 8,447 at most
abbrev pub most_elements : ℕ
most_elements = most_segments + most_points + most_pools

-- contracts on a pipeline (own)
abbrev pub most_contracts : ℕ
most_contracts = 4096

-- lines of a question, and of a gas day (own)
abbrev pub most_lines : ℕ
most_lines = 20_000

-- rounds of questions within a gas day (own)
abbrev pub most_rounds : ℕ
most_rounds = 1_000_000

-- priority classes (own; the stated tariff)
abbrev pub classes : ℕ
classes = 8

-- rate bands of interruptible service (own)
abbrev pub bands : ℕ
bands = 5

-- cycles of a gas day (NAESB WGQ 1.3.2)
abbrev pub cycles : ℕ
cycles = 5

-- parts into which the spread cuts a line's ceiling (own)
abbrev pub tenths : ℕ
tenths = 10

-- the greatest size of a number in a price (own)
abbrev pub most_price_word : ℕ
most_price_word = 2 ^ 40

-- the latest moment, in seconds since 1970-01-01T00:00:00Z (own)
abbrev pub latest_moment : ℕ
latest_moment = 4_200_000_000
