-- How large loads are.
use Rattle.std.proofs.Common.{◌≡◌, ℕ, suc, zero, ◌+◌, ◌*◌, ◌^◌, ◌<◌, ◌≤◌, arith, List, length, Bool, true, false}
use Rattle.std.specs.Prelude.{ℤ, pos, negsuc, neg_ℤ, ◌+ℤ◌, ◌*ℤ◌, ◌≤ℤ◌, if◌then◌else◌, ◌==◌}
use Rattle.std.specs.List.{count_by}
use Rattle.std.proofs.lemmas.List.Sums.{count_by-le-length}
use borrow.Author.Differences.{ints}
use lib.IntN.{pos-*ℤ-pos, negsuc-*ℤ-pos}
use Rattle.std.proofs.Math.Nat.{mul-le-mul_left, mul-le-mul_right}
use mir.Syntax.{w64}
use mir.Val.{to_z, SFits}
use Rattle.gd_scale.specs.Sum.{sum_int}
use Rattle.gd_rules.specs.Question.{Element, Line, Question, element, line, crossing, crossing_of}
use Rattle.gd_rules.specs.Question.Element.{Segment, Receipt, Delivery, Pool}
use Rattle.gd_rules.specs.Schedule.{quantity}
use Rattle.gd_schedule.specs.Sizes.{IsSized}

pub as_signed : (n : ℕ) → n ≤ 1000000000 → to_z w64 n ≡ pos n
as_signed n h = omega (arith, ints)

pub sized_wider : (a b : ℕ) (x : ℤ) → a ≤ b → IsSized a x → IsSized b x
sized_wider a b x h k = record {
  low = let p : neg_ℤ (pos a) ≤ℤ x = k.low in omega (arith, ints);
  high = let p : x ≤ℤ pos a = k.high in omega (arith, ints);
}

test_sized : (b : Bool) → IsSized 4095 (if b then pos 1 else pos 0)
test_sized true = record { low = omega (arith, ints); high = omega (arith, ints) }
test_sized false = record { low = omega (arith, ints); high = omega (arith, ints) }

pool_sized : (d o : Bool) → IsSized 4095 (if d then pos 1 else if o then negsuc 0 else pos 0)
pool_sized true o = record { low = omega (arith, ints); high = omega (arith, ints) }
pool_sized false true = record { low = omega (arith, ints); high = omega (arith, ints) }
pool_sized false false = record { low = omega (arith, ints); high = omega (arith, ints) }

-- A line crosses nothing more often than its route is long.
pub crossing_sized : (l : Line) (e : ℕ) (x : Element) → length l.route ≤ 4095 → IsSized 4095 (crossing_of l e x)
crossing_sized l e (Segment from to capacity) h = let k : count_by (λ k. k == e) l.route ≤ length l.route = count_by-le-length (λ k. k == e) l.route in record { low = omega (arith, ints); high = omega (arith, ints) }
crossing_sized l e (Receipt place capacity) h = test_sized (l.origin == e)
crossing_sized l e (Delivery place capacity) h = test_sized (l.dest == e)
crossing_sized l e (Pool place) h = pool_sized (l.dest == e) (l.origin == e)

pub times_sized : (a b n : ℕ) (c : ℤ) → IsSized a c → n ≤ b → IsSized (a * b) (c *ℤ pos n)
times_sized a b n (pos m) k h =
    let p : m ≤ a = (let q : pos m ≤ℤ pos a = k.high in omega (arith, ints)) in
    let f : m * n ≤ a * n = mul-le-mul_right n p in
    let g : a * n ≤ a * b = mul-le-mul_left a h in
    let e : pos m *ℤ pos n ≡ pos (m * n) = pos-*ℤ-pos m n in
    rw e (record { low = omega (arith, ints); high = omega (arith, ints) })
times_sized a b n (negsuc m) k h =
    let p : suc m ≤ a = (let q : neg_ℤ (pos a) ≤ℤ negsuc m = k.low in omega (arith, ints)) in
    let f : suc m * n ≤ a * n = mul-le-mul_right n p in
    let g : a * n ≤ a * b = mul-le-mul_left a h in
    let e : negsuc m *ℤ pos n ≡ neg_ℤ (pos (suc m * n)) = negsuc-*ℤ-pos m n in
    rw e (record { low = omega (arith, ints); high = omega (arith, ints) })

pub sized_more : (n b : ℕ) (x y : ℤ) → IsSized (n * b) x → IsSized b y → IsSized ((n + 1) * b) (x +ℤ y)
sized_more n b x y h k =
    let a : neg_ℤ (pos (n * b)) ≤ℤ x = h.low in
    let c : x ≤ℤ pos (n * b) = h.high in
    let d : neg_ℤ (pos b) ≤ℤ y = k.low in
    let e : y ≤ℤ pos b = k.high in
    let g : (n + 1) * b ≡ n * b + b = omega arith in
    rw g (record { low = omega (arith, ints); high = omega (arith, ints) })

pub sized_fits : (b : ℕ) (x : ℤ) → b < 2 ^ 63 → IsSized b x → SFits w64 x
sized_fits b x h k =
    let p : neg_ℤ (pos b) ≤ℤ x = k.low in
    let q : x ≤ℤ pos b = k.high in
    omega (arith, ints)

pub sum_sized : (n b : ℕ) (f : ℕ → ℤ) → ((i : ℕ) → i < n → IsSized b (f i)) → IsSized (n * b) (sum_int n f)
sum_sized zero b f h = record { low = omega (arith, ints); high = omega (arith, ints) }
sum_sized (suc n) b f h =
    let e : suc n ≡ n + 1 = omega arith in
    rw e (sized_more n b (sum_int n f) (f n) (sum_sized n b f (λ i k. h i (omega arith))) (h n (omega arith)))

-- What lines below the n-th bring to an element fits.
pub load_sized : (q : Question) (schedule : List ℕ) (e n : ℕ) → n ≤ 20000 → ((i : ℕ) → i < n → length (line q i).route ≤ 4095) → ((i : ℕ) → i < n → quantity schedule i ≤ 1000000000)
    → IsSized (2 ^ 61) (sum_int n (λ i. crossing q i e *ℤ pos (quantity schedule i)))
load_sized q schedule e n few short small =
    let p = sum_sized n (4095 * 1000000000) (λ i. crossing q i e *ℤ pos (quantity schedule i))
    (λ i h. times_sized 4095 1000000000 (quantity schedule i) (crossing q i e) (crossing_sized (line q i) e (element q e) (short i h)) (small i h)) in
    sized_wider (n * (4095 * 1000000000)) (2 ^ 61) (sum_int n (λ i. crossing q i e *ℤ pos (quantity schedule i))) (omega arith) p
