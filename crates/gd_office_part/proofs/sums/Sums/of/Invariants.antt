use Rattle.std.proofs.Common.{◌≡◌, ◌≤◌, ◌*◌, ◌^◌, take, sum_by}
use Rattle.gd_office_part.proofs.sums.Sums.of.Given as goal

abbrev pub invariant-loop-session : goal.invariant-loop-session
invariant-loop-session g l =
    record {
      calls : l.calls ≡ sum_by (λ s. s.numbers.calls) (take l.session-index l.sessions);
      nominations : l.nominations ≡ sum_by (λ s. s.numbers.nominations) (take l.session-index l.sessions);
      dekatherms : l.dekatherms ≡ sum_by (λ s. s.numbers.dekatherms) (take l.session-index l.sessions);
      few_calls : l.calls ≤ 2 ^ 64 * l.session-index;
      few_nominations : l.nominations ≤ 2 ^ 64 * l.session-index;
      few_dekatherms : l.dekatherms ≤ 2 ^ 64 * l.session-index;
    }
