use Rattle.std.proofs.Common.{◌≡◌, Result, Ok, Bool, true, false}
use Rattle.std.specs.declared.alloc.AllocError.{AllocError}
use Rattle.gd_live.proofs.acceptance.offers_best.Goals as goal

not_told : ◌≡◌ {A = Result Bool AllocError} (Ok false) (Ok true) → ⊥
not_told e = cc

pub returns-in-Err : goal.returns-in-Err
returns-in-Err c e = absurd (not_told e)
