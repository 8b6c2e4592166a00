use Rattle.std.proofs.Common.{ℕ, nat_lt, List, [], ◌∷◌, ◌++◌, map, sym, ap, ◌∙◌}
use Rattle.std.specs.Prelude.{filter, if◌then◌else◌}
use Rattle.std.specs.List.{range_with_len}
use Rattle.gd_archive.specs.Bumps.{taken}
use Rattle.gd_archive.proofs.Bumping.{taken_more}
use Rattle.gd_archive.proofs.bumps.taken_lines.Goals as goal

pub loop-line-preserved : goal.loop-line-preserved
loop-line-preserved c =
    let f : ℕ → ℕ × ℕ = λ i. (i, taken c.args.former.now c.args.posting.now i) in
    c.in_ok-push.ensures
    ∙ ap (λ (l : List (ℕ × ℕ)). l ++ (if nat_lt 0 c.taken.result then (c.loop-line.line, c.taken.result) ∷ [] else [])) c.loop-line.invariant
    ∙ ap (λ n. filter (λ b. nat_lt 0 b.1) (map f (range_with_len 0 c.loop-line.line)) ++ (if nat_lt 0 n then (c.loop-line.line, n) ∷ [] else [])) c.taken.ensures
    ∙ sym (taken_more f c.loop-line.line)
