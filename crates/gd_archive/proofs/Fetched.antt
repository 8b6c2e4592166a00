-- A posting that was kept is the one that is fetched.
use Rattle.std.proofs.Common.{◌≡◌, ℕ, pos, Bool, IsPermutation, false, true, List, [], ◌∷◌, Option, Some, None, Ok, refl, sym, ap, subst, ◌∙◌, if◌then◌else◌}
use Rattle.std.proofs.lemmas.Option.{same_Some}
use Rattle.sqlite.specs.State.{State}
use Rattle.sqlite.specs.Order.{Row}
use Rattle.sqlite.specs.declared.types.Value.{Value}
use Rattle.sqlite.specs.declared.types.Value.TheVariants.{Int, Blob}
use Rattle.sqlite.proofs.Callers.{one_permutation}
use Rattle.gd_board.specs.declared.posting.Posting.{Posting}
use Rattle.gd_body.specs.Body.{IsBody, posting_in}
use Rattle.gd_archive_store.specs.Contents.{entry, kept_at}
use Rattle.gd_archive.specs.Soundness.{is_of, number, posting_at, where_of}
use Rattle.gd_archive.specs.declared.fault.Rule.{Rule}
use Rattle.gd_archive.specs.declared.fault.Rule.TheVariants.{Classes, Spread}
use Rattle.gd_archive.specs.Calls.{Fetches, Keeps, Tells}

-- what was kept under a test is what was there
under_test : (b : Bool) (q p : Posting) → (if b then Some q else None) ≡ Some p → q ≡ p
under_test true q p h = same_Some q p h
under_test false q p h = cc

where_is : (book : List ℕ) (cycle : ℕ) (round : Value) (o : Option Posting) (q p : Posting) → o ≡ Some q → where_of book cycle round o ≡ Some p → q ≡ p
where_is book cycle round None q p e h = cc
where_is book cycle round (Some r) q p e h = sym (same_Some r q e) ∙ under_test (is_of book cycle round r) r p h

-- the body of a posting tells no other posting
of_body : (p q : Posting) (body : List ℕ) → IsBody p body → posting_at p.book p.cycle (Int (pos p.round)) (Blob body) ≡ Some q → q ≡ p
of_body p q body is h = sym (where_is p.book p.cycle (Int (pos p.round)) (posting_in body) p q is.read_back h)

-- a row with the number 2 is ruled by the spread
ruled : (rule : Rule) → Int (pos 2) ≡ Int (pos (number rule)) → rule ≡ Spread
ruled Classes h = cc
ruled Spread h = refl

-- the row of a posting tells that posting
told : (p : Posting) (body : List ℕ) → IsBody p body → (found : Rule × Posting) → Tells p.book p.cycle (entry p.round body 2) (Ok found) → found ≡ (Spread, p)
told p body is (Classes, q) tells = absurd (let bad : Classes ≡ Spread = ruled Classes tells.1 in cc)
told p body is (Spread, q) tells = ap (λ (x : Posting). (Spread, x)) (tells.3 ∙ of_body p tells.0 body is tells.2)

-- what is found where one row was entered
pub is_kept : (first second third : State) (p : Posting) (found : Option (Rule × Posting)) → Keeps first second p (Ok tt) → Fetches second third p.book p.cycle (Ok found)
    → found ≡ Some (Spread, p)
is_kept first second third p None keeps fetches =
    let here : kept_at second.now p.book p.cycle ≡ entry p.round keeps.0 2 ∷ [] = keeps.2.2.here keeps.2.1 in
    let bad : entry p.round keeps.0 2 ∷ [] ≡ [] = sym here ∙ fetches.1 in
    absurd cc
is_kept first second third p (Some found) keeps fetches =
    let row = fetches.0 in
    let here : kept_at second.now p.book p.cycle ≡ entry p.round keeps.0 2 ∷ [] = keeps.2.2.here keeps.2.1 in
    let same = one_permutation (entry p.round keeps.0 2) _ (subst (λ (rows : List Row). IsPermutation rows (row ∷ fetches.1.1.0)) here fetches.1.1.1) in
    let is_entry : row ≡ entry p.round keeps.0 2 = cc in
    ap Some (told p keeps.0 keeps.1 found (subst (λ (r : Row). Tells p.book p.cycle r (Ok found)) is_entry fetches.2))
