use Rattle.std.proofs.Common.{◌≡◌, map, take}
use Rattle.gd_office_part.specs.Sending.{kept_of}
use Rattle.gd_office_part.proofs.threads.count_all.Given as goal

abbrev pub invariant-loop-at : goal.invariant-loop-at
invariant-loop-at g l =
    record {
      numbers : map (λ s. s.numbers) (take l.at l.sessions) ≡ take l.at l.numbers;
      kept : map kept_of l.sessions ≡ map kept_of l.initial.sessions;
    }
