-- What nothing is left of, and what keeps nothing.
use Rattle.std.proofs.Common.{◌≡◌, ◌≢◌, ℕ, ◌+◌, Bool, true, false, List, [], ◌∷◌, ◌++◌, length, sym, ap, ◌∙◌, arith}
use Rattle.std.proofs.lemmas.Bool.{eqb-true, eqb-false}
use Rattle.std.proofs.lemmas.List.{nil_from_length}
use Rattle.std.specs.Prelude.{◌==◌, not, if◌then◌else◌}
use Rattle.gd_serving.specs.Yields.{Adds, Yield, is_nothing, kept_count, kept_of, total}

pub no_bytes : (bytes : List ℕ) → true ≡ (length bytes == 0) → bytes ≡ []
no_bytes bytes e = nil_from_length bytes (eqb-true (length bytes) 0 (sym e))

pub some_bytes : (bytes : List ℕ) → false ≡ (length bytes == 0) → bytes ≢ []
some_bytes bytes e none = eqb-false (length bytes) 0 (sym e) (ap length none)

counted : (n : ℕ) (b : Bool) → true ≡ b → n ≡ n + (0 + (if not b then 1 else 0))
counted n true e = omega arith
counted n false e = absurd cc

-- a line that keeps nothing is no call more
pub no_call : (n : ℕ) (y : Yield) → true ≡ is_nothing (kept_of y) → n ≡ n + kept_count (y ∷ [])
no_call n y e = counted n (is_nothing (kept_of y)) e

-- what is added to nothing is all
pub alone : (old new y : Yield) → old ≡ total [] → Adds old new y → y ≡ new
alone old new y none adds =
    let rows : y.rows ≡ new.rows = sym (adds.rows ∙ ap (λ (o : Yield). o.rows ++ y.rows) none) in
    let replies : y.replies ≡ new.replies = sym (adds.replies ∙ ap (λ (o : Yield). o.replies ++ y.replies) none) in
    let told : y.told ≡ new.told = sym (adds.told ∙ ap (λ (o : Yield). o.told ++ y.told) none) in
    ap (λ (l : List ℕ). record { rows = l; replies = y.replies; told = y.told }) rows
    ∙ ap (λ (l : List ℕ). record { rows = new.rows; replies = l; told = y.told }) replies
    ∙ ap (λ (l : List ℕ). record { rows = new.rows; replies = new.replies; told = l }) told
