-- Moments of civil times: when there are none, and that there is only one.
use Rattle.std.proofs.Common.{◌≡◌, ℕ, zero, suc, ◌+◌, ◌/◌, ◌<◌, ◌≤◌, ◌↔◌, ℤ, pos, negsuc, neg_ℤ, ◌+ℤ◌, ◌<ℤ◌, List, [], ◌∷◌, length, get_or, map, Some, inl, inr, MatchOption, Result, Ok, Err, IfOk, ◌-ℤ◌, subst, sym, ◌∙◌, ap, refl, arith}
use Rattle.std.specs.Prelude.{int_div, IsOk, true, false, slice_set}
use Rattle.std.specs.Result.{is_ok, result_ok}
use Rattle.std.proofs.lemmas.Bool.{false≢true, cases_lt}
use Rattle.std.proofs.lemmas.List.{get_or-set_same, get_or-set_other}
use Rattle.jiff.proofs.SpanFacts.{signed_arith}
use Rattle.jiff.specs.Words.{epoch_day, ambiguous_at, instant_of, IsTimestampNanos, IsUniqueInstant}
use Rattle.jiff.specs.Types.{Date, DateTime, Timestamp, TimeZone, AmbiguousOffset, Unambiguous, Gap, Fold}
use Rattle.jiff.specs.Words.{Error}
use Rattle.jiff_core.proofs.DateLemmas.{epoch_day_range}
use Rattle.jiff_zoned.proofs.SameLemmas.{same_date, same_time}
use Rattle.gd_rules.specs.GasDay.Day.{Before, After}
use Rattle.gd_rules.specs.GasDay as gas_day
use Rattle.gd_zone.specs.declared.clock.CivilTime.{CivilTime}
use Rattle.gd_zone.specs.Clock.{time_of}
use Rattle.gd_zone.specs.Zone.{once, IsBeside, IsCivil, IsMomentOf, HasMoment, AreMoments}

-- an instant with such a second is one that the library has
quotient_range : (n : ℤ) (m : ℕ) → int_div n (pos 1_000_000_000) ≡ pos m → m ≤ 4_200_000_000 → IsTimestampNanos n
quotient_range (pos a) m e h =
    let whole : a / 1_000_000_000 ≡ m = cc in
    (omega (arith, signed_arith), omega (arith, signed_arith))
quotient_range (negsuc a) m e h = (omega (arith, signed_arith), omega (arith, signed_arith))

not_ok : {V : Type 0} (r : Result V Error) (e : Error) → r ≡ Err e → IsOk r → ⊥
not_ok {V} r e is ok =
    let bad : false ≡ true = subst (λ (s : Result V Error). is_ok s ≡ true) is ok in
    cc

-- where the library gives no instant there is no moment
pub no_moment : (civil : DateTime) (offset : AmbiguousOffset) (r : Result Timestamp Error) (e : Error) (m : ℕ) → IsUniqueInstant civil offset r → r ≡ Err e → once civil offset ≡ Some (pos m) → m ≤ 4_200_000_000 → ⊥
no_moment civil (Unambiguous offset) r e m u is found h =
    not_ok r e is (u.succeeds.1 (quotient_range (instant_of civil offset) m (cc) h))
no_moment civil (Gap before after) r e m u is found h = cc
no_moment civil (Fold before after) r e m u is found h = cc

-- the library has each day that is beside another
pub date_before : (date : Date) (r : Result Date Error) → (IsOk r ↔ (neg_ℤ (pos 4_371_587) <ℤ epoch_day date)) → IfOk r (λ d. epoch_day d ≡ epoch_day date -ℤ pos 1)
    → MatchOption (result_ok r) ((other : Date) → IsBeside date Before other → ⊥) (IsBeside date Before)
date_before date (Ok d) succeeds value = omega (arith, signed_arith)
date_before date (Err e) succeeds value = λ other beside. absurd (false≢true (succeeds.1 (omega (arith, signed_arith, epoch_day_range other))))

pub date_after : (date : Date) (r : Result Date Error) → (IsOk r ↔ (epoch_day date <ℤ pos 2_932_896)) → IfOk r (λ d. epoch_day d ≡ epoch_day date +ℤ pos 1)
    → MatchOption (result_ok r) ((other : Date) → IsBeside date After other → ⊥) (IsBeside date After)
date_after date (Ok d) succeeds value = value
date_after date (Err e) succeeds value = λ other beside. absurd (false≢true (succeeds.1 (omega (arith, signed_arith, epoch_day_range other))))

same_civil : (date : Date) (t : gas_day.Time) (a b : DateTime) → IsCivil date t a → IsCivil date t b → a ≡ b
same_civil date t a b p q =
    let day : a.date ≡ b.date = same_date a.date b.date (p.0 ∙ sym q.0) in
    let h : a.time.hour ≡ b.time.hour = cc in
    let m : a.time.minute ≡ b.time.minute = cc in
    let s : a.time.second ≡ b.time.second = cc in
    let n : a.time.subsec_nanosecond ≡ b.time.subsec_nanosecond = cc in
    let clock : a.time ≡ b.time = same_time a.time b.time (rw (h, m, s, n)) in
    λ i. record { date = day i; time = clock i }

same_moment : (zone : TimeZone) (date : Date) (t : gas_day.Time) (m n : ℕ) → HasMoment zone date t m → HasMoment zone date t n → m ≡ n
same_moment zone date t m n (a, p, e) (b, q, f) =
    let same : a ≡ b = same_civil date t a b p q in
    let there : once a (ambiguous_at zone a) ≡ once b (ambiguous_at zone b) = ap (λ (x : DateTime). once x (ambiguous_at zone x)) same in
    let first = e.0 in
    let second = f.0 in
    cc

-- a time of the clock without a moment at its date and time has none
pub no_moment_at : (zone : TimeZone) (date : Date) (t : gas_day.Time) (civil : DateTime) → IsCivil date t civil → ((m : ℕ) → IsMomentOf zone civil m → ⊥) → (m : ℕ) → HasMoment zone date t m → ⊥
no_moment_at zone date t civil is none m (other, p, e) =
    none m (subst (λ (x : DateTime). IsMomentOf zone x m) (same_civil date t other civil p is) e)

-- a zone gives civil times one list of moments at most
pub same_moments : (zone : TimeZone) (date : Date) (times : List gas_day.Time) (ms ns : List ℕ) → AreMoments zone date times ms → AreMoments zone date times ns → ms ≡ ns
same_moments zone date [] [] [] p q = refl
same_moments zone date [] [] (n ∷ ns) p q = absurd q
same_moments zone date [] (m ∷ ms) ns p q = absurd p
same_moments zone date (t ∷ times) [] ns p q = absurd p
same_moments zone date (t ∷ times) (m ∷ ms) [] p q = absurd q
same_moments zone date (t ∷ times) (m ∷ ms) (n ∷ ns) p q =
    let head : m ≡ n = same_moment zone date t m n p.0 q.0 in
    let rest : ms ≡ ns = same_moments zone date times ms ns p.1 q.1 in
    cc

pub AreMoments-length : (zone : TimeZone) (date : Date) (times : List gas_day.Time) (ms : List ℕ) → AreMoments zone date times ms → length ms ≡ length times
AreMoments-length zone date [] [] p = refl
AreMoments-length zone date [] (m ∷ ms) p = absurd p
AreMoments-length zone date (t ∷ times) [] p = absurd p
AreMoments-length zone date (t ∷ times) (m ∷ ms) p = ap suc (AreMoments-length zone date times ms p.1)

-- moments found one by one
pub AreMoments-from : (zone : TimeZone) (date : Date) (times : List gas_day.Time) (ms : List ℕ) (d : gas_day.Time) → length ms ≡ length times
    → ((k : ℕ) → k < length times → HasMoment zone date (get_or times k d) (get_or ms k 0)) → AreMoments zone date times ms
AreMoments-from zone date [] [] d e each = tt
AreMoments-from zone date [] (m ∷ ms) d e each = absurd (omega arith)
AreMoments-from zone date (t ∷ times) [] d e each = absurd (omega arith)
AreMoments-from zone date (t ∷ times) (m ∷ ms) d e each =
    (each 0 (omega arith), AreMoments-from zone date times ms d (omega arith) (λ k low. each (suc k) (omega arith)))

pub found_more : (zone : TimeZone) (date : Date) (times : List gas_day.Time) (d : gas_day.Time) (ms : List ℕ) (i m : ℕ) → i < length ms
    → ((k : ℕ) → k < i → HasMoment zone date (get_or times k d) (get_or ms k 0)) → HasMoment zone date (get_or times i d) m
    → (k : ℕ) → k < i + 1 → HasMoment zone date (get_or times k d) (get_or (slice_set ms i m) k 0)
found_more zone date times d ms i m room each has k less =
    elim (cases_lt k i) [
      | inl before ↦ rw (get_or-set_other ms i k m 0 (λ e. omega arith)) (each k before)
      | inr here ↦ let e : k ≡ i = omega arith in rw (e, get_or-set_same ms i m 0 room) has
    ]

-- each time has a moment
pub AreMoments-at : (zone : TimeZone) (date : Date) (times : List gas_day.Time) (ms : List ℕ) (d : gas_day.Time) (k : ℕ) → k < length times → AreMoments zone date times ms → (m : ℕ) × HasMoment zone date (get_or times k d) m
AreMoments-at zone date [] ms d k low p = absurd (omega arith)
AreMoments-at zone date (t ∷ times) [] d k low p = absurd p
AreMoments-at zone date (t ∷ times) (m ∷ ms) d zero low p = (m, p.0)
AreMoments-at zone date (t ∷ times) (m ∷ ms) d (suc k) low p = AreMoments-at zone date times ms d k (omega arith) p.1

-- the code's times are those of the rule
pub time_of-get_or : (times : List CivilTime) (k : ℕ) (d : CivilTime) → time_of (get_or times k d) ≡ get_or (map time_of times) k (time_of d)
time_of-get_or [] k d = refl
time_of-get_or (t ∷ times) zero d = refl
time_of-get_or (t ∷ times) (suc k) d = time_of-get_or times k d
