-- Lines of calls, and openings, at worked examples.
use Rattle.std.specs.Prelude.{◌≡◌, true, false, [], ◌∷◌, ◌++◌, codes, ⊤, refl}
use Rattle.std.proofs.Common.{arith}
use Rattle.csv.specs.Records.{field_at}
use Rattle.gd_text_part.specs.Lines.{is_of_calls}
use Rattle.gd_live.specs.Openings.{IsOpening}

-- what an example unfolds
unfoldable computed : ⊤
unfolding field_at
computed = tt

-- rows of a group and calls are of calls, with a carriage return behind them and however few fields they have
of_calls : (is_of_calls (codes "sched,1,6,,,,,") ≡ true) × (is_of_calls (codes "skip,8,,,,,,") ≡ true)
    × (is_of_calls (codes "inside" ++ 13 ∷ []) ≡ true)
unfolding computed
of_calls = (refl, refl, refl)

-- rows of the opening are none, nor is what no kind is named by: an empty line, a quoted field, another word
of_none : (is_of_calls (codes "carry,F,G,R,D,5,,") ≡ false) × (is_of_calls [] ≡ false)
    × (is_of_calls (34 ∷ codes "skip" ++ 34 ∷ codes ",8,,,,,,") ≡ false) × (is_of_calls (codes "skips,8,,,,,,") ≡ false)
unfolding computed
of_none = (refl, refl, refl, refl)

-- a line of the opening, and behind it a whole line of calls and the beginning of another
goes_on : IsOpening (codes "day,D" ++ 10 ∷ []) (codes "skip,8" ++ 10 ∷ codes "ski") false
unfolding computed
goes_on = record {
  opening = record { lines = codes "day,D" ∷ []; bytes = refl; whole = ((refl, (refl, (refl, (refl, (refl, tt))))), tt); none_of_calls = (refl, tt) };
  few = omega arith;
  behind = record { line = codes "skip,8"; rest = codes "ski"; parts = refl; whole = (refl, (refl, (refl, (refl, (refl, (refl, tt)))))); of_calls = refl };
}

-- a line that is unfinished is no line of calls yet
ends : IsOpening [] (codes "ski") true
ends = record {
  opening = record { lines = []; bytes = refl; whole = tt; none_of_calls = tt };
  few = omega arith;
  behind = (refl, (refl, (refl, tt)));
}
