-- Worked answers of solve, and where they differ from what they should be.
use Rattle.std.proofs.Common.{◌≡◌, ◌++◌, [], ◌∷◌, List, ℕ, codes, refl, false, true}
use Rattle.gd_text_part.specs.declared.fault.Cause.TheVariants as cause
use Rattle.gd_text_part.specs.declared.fault.TextFault.TheVariants as fault
use Rattle.gasday_words.specs.declared.order.Command.TheVariants.{CheckBest, CheckCut}
use Rattle.gasday_part.specs.Solutions.{check_of, counted_in, head_in, is_head, no_answer, other_head, row_count, rows_in}

-- a line, and a line feed behind it
abbrev line : List ℕ → List ℕ → List ℕ
line text rest = text ++ 10 ∷ rest

begins_with_best : is_head (codes "best,,") ≡ true
begins_with_best = refl

begins_with_rows : is_head (line (codes "capacity,S1,120") (line (codes "best,,") [])) ≡ false
begins_with_rows = refl

head_is : head_in (line (codes "best,") (line (codes "total,1,80") (line (codes "sched,1,80") []))) ≡ line (codes "best,") (line (codes "total,1,80") [])
head_is = refl

rows_are : rows_in (line (codes "cut,60") (line (codes "inside,") [])) ≡ line (codes "inside,") []
rows_are = refl

best_asks : check_of (codes "best,,") ≡ CheckBest
best_asks = refl

cut_asks : check_of (codes "cut,60") ≡ CheckCut
cut_asks = refl

-- an empty line is no row
two_rows : row_count true (line (codes "best,") (line [] (line (codes "total,1,80") []))) ≡ 2
two_rows = refl

-- another total in row 11, and one too many in row 12
other_total : other_head 10 (line (codes "total,3,0") (line (codes "total,4,21") [])) (line (codes "total,3,0") (line (codes "total,4,20") [])) ≡ fault.Row 11 (cause.BadField 3)
other_total = refl

one_more : other_head 11 (line (codes "total,4,20") (line (codes "total,5,0") [])) (line (codes "total,4,20") []) ≡ fault.Row 12 (cause.BadField 1)
one_more = refl

-- behind six rows of a question and five of a head
of_the_question : counted_in 6 5 6 ≡ 6
of_the_question = refl

of_the_answer : counted_in 6 5 8 ≡ 13
of_the_answer = refl

missing : no_answer 6 [] ≡ fault.Row 6 cause.Missing
missing = refl
