use Rattle.std.proofs.Common.{◌∷◌, [], inl, length-append, arith}
use Rattle.gd_serving.specs.Seen.{seen}
use Rattle.gd_serving.specs.Yields.{kept_of}
use Rattle.gd_serving.proofs.turn.keep.Goals as goal

pub returns-then-is_nothing-clause-kept : goal.returns-then-is_nothing-clause-kept
returns-then-is_nothing-clause-kept g c = rw (← c.if-is_nothing.ensures) (λ up ps is at. (is, at))

pub returns-then-is_nothing-clause-any_moment : goal.returns-then-is_nothing-clause-any_moment
returns-then-is_nothing-clause-any_moment g c = rw (← c.if-is_nothing.ensures) (λ up ps is at db leaves. inl leaves)

pub returns-in_err-append-clause-any_moment : goal.returns-in_err-append-clause-any_moment
returns-in_err-append-clause-any_moment g c =
    rw (← c.if-is_nothing.ensures, ← c.as_slice.ensures.value, ← c.as_slice-2.ensures.value) c.append.ensures.any_moment

pub returns-clause-kept : goal.returns-clause-kept
returns-clause-kept g c = rw (← c.if-is_nothing.ensures) (λ up ps is at.
    (rw (← c.as_slice.ensures.value, ← c.as_slice-2.ensures.value) (c.in_ok-append.ensures.appended up ps is at), omega (arith, at, length-append ps (kept_of (seen c.args.given.now) ∷ []))))

pub returns-clause-any_moment : goal.returns-clause-any_moment
returns-clause-any_moment g c =
    rw (← c.if-is_nothing.ensures, ← c.as_slice.ensures.value, ← c.as_slice-2.ensures.value) c.append.ensures.any_moment

pub overflow_add-next : goal.overflow_add-next
overflow_add-next g c = omega arith
