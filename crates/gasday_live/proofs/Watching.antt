-- A desk that is watched for faults.
use Rattle.std.proofs.Common.{◌≡◌, ◌+◌, ◌-◌, ◌==◌, ◌&&◌, ◌||◌, ℕ, Bool, true, false, List, length, nat_lt, refl, sym, ap, ◌∙◌, arith, length-append}
use Rattle.std.proofs.lemmas.Bool.Decides.{nat_tests}
use Rattle.gd_serving.specs.Yields.{Yield, Adds}
use Rattle.gd_live.specs.Lines.{Gives}
use Rattle.gd_live.specs.Seen.{at_desk}
use Rattle.gasday_live.specs.Watching.{is_fault, WatchedGives}
use Rattle.gasday_live.specs.declared.watched.Watched.{Watched}

pub or_true : (a : Bool) → true ≡ (a || true)
or_true true = refl
or_true false = refl

pub or_false : (a : Bool) → a ≡ (a || false)
or_false true = refl
or_false false = refl

same_count : (a b : ℕ) → ((a + b) == a) ≡ (b == 0)
same_count a b = grind (arith, nat_tests)

-- what was told and not kept, by the lengths behind it
told_alone : (old new y : Yield) (told kept : ℕ) → Adds old new y → told ≡ length old.told → kept ≡ length old.replies → ((length new.replies == kept) && nat_lt 1 (length new.told - told)) ≡ is_fault y
told_alone old new y told kept adds told_is kept_is =
    let replies : length new.replies ≡ kept + length y.replies = ap length adds.replies ∙ length-append old.replies y.replies ∙ ap (λ n. n + length y.replies) (sym kept_is) in
    let more_told : length new.told ≡ told + length y.told = ap length adds.told ∙ length-append old.told y.told ∙ ap (λ n. n + length y.told) (sym told_is) in
    let more : length new.told - told ≡ length y.told = omega arith in
    rw (more, replies, same_count kept (length y.replies))

-- a line whose fault is known by what was told and not kept
pub watched_gives : {V : Type 0} (s t : Watched V) (line : List ℕ) (old new : Yield) (told kept : ℕ) (b : Bool) → t.has_fault ≡ (s.has_fault || b) → told ≡ length old.told → kept ≡ length old.replies
    → b ≡ ((length new.replies == kept) && nat_lt 1 (length new.told - told)) → (y : Yield) × Gives (at_desk s.desk) line (at_desk t.desk) y × Adds old new y → (y : Yield) × WatchedGives s line t y × Adds old new y
watched_gives s t line old new told kept b fault told_is kept_is is (y, gives, adds) =
    (y, record { gives = gives; fault = fault ∙ ap (λ x. s.has_fault || x) (is ∙ told_alone old new y told kept adds told_is kept_is) }, adds)
