use Rattle.std.proofs.Common.{◌≡◌, ℕ, ◌+◌, nat_lt, List, [], ◌∷◌, ◌++◌, map, sym, ap, ◌∙◌, arith}
use Rattle.std.specs.Prelude.{filter, if◌then◌else◌}
use Rattle.std.specs.List.{range_with_len}
use Rattle.std.proofs.lemmas.List.Elements.{filter-append}
use Rattle.std.proofs.lemmas.List.FromFn.{map-range_with_len_more}
use Rattle.gd_machine.specs.Asking.{bumped_by, line_count}
use Rattle.gd_book_part.proofs.tables.Tables.bumped_lines.Goals as goal

-- one line more
bumped_more : (f : ℕ → ℕ × ℕ) (n : ℕ) → filter (λ b. nat_lt 0 b.1) (map f (range_with_len 0 (n + 1))) ≡ filter (λ b. nat_lt 0 b.1) (map f (range_with_len 0 n)) ++ (if nat_lt 0 (f n).1 then f n ∷ [] else [])
bumped_more f n =
    ap (filter (λ b. nat_lt 0 b.1)) (map-range_with_len_more f 0 n n (omega arith))
    ∙ filter-append (λ b. nat_lt 0 b.1) (map f (range_with_len 0 n)) (f n ∷ [])

pub loop-line-preserved : goal.loop-line-preserved
loop-line-preserved c =
    let f : ℕ → ℕ × ℕ = λ n. (n, bumped_by c.args.opening.now c.args.history.now c.args.schedule.now n) in
    c.in_ok-push.ensures
    ∙ ap (λ (l : List (ℕ × ℕ)). l ++ (if nat_lt 0 c.bumped_by-by.result then (c.loop-line.line, c.bumped_by-by.result) ∷ [] else [])) c.loop-line.invariant
    ∙ ap (λ n. filter (λ b. nat_lt 0 b.1) (map f (range_with_len 0 c.loop-line.line)) ++ (if nat_lt 0 n then (c.loop-line.line, n) ∷ [] else [])) c.bumped_by-by.ensures
    ∙ sym (bumped_more f c.loop-line.line)

pub returns : goal.returns
returns c =
    let count = c.asked_lines-count.ensures.is in
    let end = c.loop-line.auto in
    let past = c.loop-line-test.false in
    let all : c.loop-line.line ≡ line_count c.args.opening.now c.args.history.now = omega (arith, count, end.line-end, past) in
    c.loop-line.invariant ∙ ap (λ n. filter (λ b. nat_lt 0 b.1) (map (λ (k : ℕ). (k, bumped_by c.args.opening.now c.args.history.now c.args.schedule.now k)) (range_with_len 0 n))) all
