use Rattle.std.proofs.Common.{◌≡◌, Result, Ok, Err, subst, sym}
use Rattle.std.specs.Prelude.{IfErr}
use Rattle.std.proofs.KnownBytes.{Appends-nil}
use Rattle.std.proofs.lemmas.Result.{err_from_is_err_and}
use Rattle.gd_serving.specs.declared.failure.Failure.{Failure}
use Rattle.gd_serving.specs.declared.failure.Failure.TheVariants.{WriteFailed}
use Rattle.gd_serving.proofs.turn.keep_and_tell.Goals as goal

-- what fails for its write alone
of_write : (r : Result (Unit {0}) Failure) (P : Failure → Type 0) → IfErr r (λ why. why ≡ WriteFailed) → P WriteFailed → IfErr r P
of_write (Ok _) P is p = tt
of_write (Err why) P is p = subst P (sym is) p

pub returns-in_err-keep-clause-failed : goal.returns-in_err-keep-clause-failed
returns-in_err-keep-clause-failed g c =
    let p = err_from_is_err_and c.from_residual.result c.from_residual.ensures.1 in
    rw (p.1, p.2) (record { tells = Appends-nil _; leaves = c.keep.ensures.any_moment })

pub returns-clause-told : goal.returns-clause-told
returns-clause-told g c = rw (← c.as_slice.ensures.value) c.write_bytes.ensures.all

pub returns-clause-failed : goal.returns-clause-failed
returns-clause-failed g c =
    of_write c.write_bytes.result _ c.write_bytes.ensures.failed
    (record { bytes = c.write_bytes.ensures.front.0; tells = rw (← c.as_slice.ensures.value) c.write_bytes.ensures.front.1; keeps = λ up ps is at. (c.in_ok-keep.ensures.kept up ps is at).0 })
