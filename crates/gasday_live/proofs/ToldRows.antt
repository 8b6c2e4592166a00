-- What is told of a run beside what its lines give.
use Rattle.std.proofs.Common.{◌≡◌, ◌≢◌, inl, inr, ℕ, List, [], ◌∷◌, Option, refl, sym, ◌∙◌}
use Rattle.std.proofs.KnownBytes.{Appends-kept}
use Rattle.std.specs.Io.KnownBytes.{Appends, Keeps}
use Rattle.gd_replies.specs.Lines.{lines_of}
use Rattle.gd_replies.specs.declared.reply.Reply.{Reply}
use Rattle.gasday_part.specs.Answers.{Told, one}
use Rattle.gasday_part.specs.Output.{Written}

-- an answer whose status is 0 was written as a whole
pub whole : (old new : Option (List ℕ)) (status : ℕ) (row : Reply) → Written old new status (one row 0) → status ≡ 0 → Appends old new (lines_of (row ∷ []))
whole old new status row (inl (all, is)) good = all
whole old new status row (inr (inl (n, m, front, is))) good = let bad : ◌≡◌ {A = ℕ} 2 0 = sym is ∙ good in cc
whole old new status row (inr (inr (m, front, is))) good = let bad : ◌≡◌ {A = ℕ} 2 0 = sym is ∙ good in cc

-- an answer whose status is 2 ends so
pub status_2 : (old new : Option (List ℕ)) (status : ℕ) (a : Told) → Written old new status a → a.status ≡ 2 → status ≡ 2
status_2 old new status a (inl (all, is)) two = is ∙ two
status_2 old new status a (inr (inl (n, m, front, is))) two = is
status_2 old new status a (inr (inr (m, front, is))) two = is

-- a row that isn't written as a whole
pub untold : (old new : Option (List ℕ)) (status : ℕ) (row : Reply) → Written old new status (one row 0) → status ≢ 0 → Written old new 2 (one row 2)
untold old new status row (inl (all, is)) other = absurd (other is)
untold old new status row (inr (inl (n, m, front, is))) other = inr (inl (n, m, front, refl))
untold old new status row (inr (inr (m, front, is))) other = inr (inr (m, front, refl))

-- or isn't flushed
pub unflushed : (old mid new : Option (List ℕ)) (status : ℕ) (row : Reply) → Written old mid status (one row 0) → status ≡ 0 → Keeps mid new → Written old new 2 (one row 2)
unflushed old mid new status row written good kept = inl (Appends-kept old mid new _ (whole old mid status row written good) kept, refl)

pub told : (old mid new : Option (List ℕ)) (status : ℕ) (row : Reply) → Written old mid status (one row 0) → status ≡ 0 → Keeps mid new → Appends old new (lines_of (row ∷ []))
told old mid new status row written good kept = Appends-kept old mid new _ (whole old mid status row written good) kept
