-- The rounds that end before a place.
use Rattle.std.proofs.Common.{◌≡◌, ℕ, ◌+◌, ◌<◌, Bool, true, false, nat_lt, List, length, take, Option, refl, subst, arith}
use Rattle.std.proofs.lemmas.Bool.{ltb-true, ltb-false}
use Rattle.std.specs.Prelude.{slice_get, Result, Ok, Some, None}
use Rattle.std.specs.Option.{MatchOption}
use Rattle.gd_machine.specs.Day.{Day}
use Rattle.gd_machine.specs.History.{History}
use Rattle.gd_machine.specs.Machine.{IsLegal}
use Rattle.gd_rounds.specs.Rounds.{EndsRound, Says, SaysRound, WasNeverFrozen}
use Rattle.gd_rounds.proofs.Frozen.{never}

-- none of these ends before the place
abbrev pub NoneBefore : History → ℕ → Option ℕ → ℕ → Type 0
NoneBefore h cycle round place = (p : ℕ) → p < place → ¬ (EndsRound h cycle round p)

-- the last that ends before the place has this text
pub record LastBefore (day : Day) (h : History) (cycle : ℕ) (round : Option ℕ) (place : ℕ) (text : List ℕ) : Type 0 where
  pub at : ℕ
  pub before : at < place
  pub ends : EndsRound h cycle round at
  pub last : (later : ℕ) → at < later → later < place → ¬ (EndsRound h cycle round later)
  pub says : Says day (take at h) (slice_get h at) text

-- one that ends at the place
pub ends_here : (day : Day) (h : History) (cycle : ℕ) (round : Option ℕ) (place : ℕ) (text : List ℕ) → EndsRound h cycle round place → Says day (take place h) (slice_get h place) text → LastBefore day h cycle round (place + 1) text
ends_here day h cycle round place text ends says = record {
  at = place;
  before = omega arith;
  ends = ends;
  last = λ later past early. absurd (omega (arith, past, early));
  says = says;
}

-- none ends at the place
pub none_more : (h : History) (cycle : ℕ) (round : Option ℕ) (place : ℕ) → ¬ (EndsRound h cycle round place) → NoneBefore h cycle round place → NoneBefore h cycle round (place + 1)
none_more h cycle round place none before p low ends = by (nat_lt p place) refl
  where
    by : (b : Bool) → nat_lt p place ≡ b → ⊥
    by true e = before p (ltb-true p place e) ends
    by false e =
        let far = ltb-false p place e in
        let same : p ≡ place = omega (arith, far, low) in
        none (subst (EndsRound h cycle round) same ends)

pub last_more : (day : Day) (h : History) (cycle : ℕ) (round : Option ℕ) (place : ℕ) (text : List ℕ) → ¬ (EndsRound h cycle round place) → LastBefore day h cycle round place text → LastBefore day h cycle round (place + 1) text
last_more day h cycle round place text none was =
    let before = was.before in
    record {
      at = was.at;
      before = omega (arith, before);
      ends = was.ends;
      last = λ later past low ends. by later past low ends (nat_lt later place) refl;
      says = was.says;
    }
  where
    by : (later : ℕ) → was.at < later → later < place + 1 → EndsRound h cycle round later → (b : Bool) → nat_lt later place ≡ b → ⊥
    by later past low ends true e = was.last later past (ltb-true later place e) ends
    by later past low ends false e =
        let far = ltb-false later place e in
        let same : later ≡ place = omega (arith, far, low) in
        none (subst (EndsRound h cycle round) same ends)

pub all_seen : (day : Day) (h : History) (cycle : ℕ) (round : Option ℕ) (place : ℕ) (text : List ℕ) → place ≡ length h + 1 → LastBefore day h cycle round place text → SaysRound day h cycle round text
all_seen day h cycle round place text end was =
    let before = was.before in
    record {
      place = was.at;
      within = omega (arith, before, end);
      ends = was.ends;
      last = λ later past low. was.last later past (omega (arith, low, end));
      says = was.says;
    }

pub none_seen : (day : Day) (h : History) → IsLegal day h → (cycle : ℕ) (round : Option ℕ) (place : ℕ) → place ≡ length h + 1 → NoneBefore h cycle round place → WasNeverFrozen h cycle round
none_seen day h legal cycle round place end none = never day h legal cycle round (λ p low. none p (omega (arith, low, end)))

-- where no text was found, none is there
pub none_left : {X E : Type 0} (found : Option X) (Nothing : Type 0) (Found : X → Type 0) → ◌≡◌ {A = Result (Option X) E} (Ok found) (Ok None) → MatchOption found Nothing Found → Nothing
none_left None Nothing Found e m = m
none_left (Some x) Nothing Found e m = let bad = e in cc
