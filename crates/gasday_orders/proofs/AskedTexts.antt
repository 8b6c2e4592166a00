-- Texts that orders are about.
use Rattle.std.proofs.Common.{◌≡◌, ◌≢◌, ◌≤◌, ℕ, Bor, List, [], ◌∷◌, length, map, Option, Some, IfSome, Result, subst, inl, inr, arith}
use Rattle.sqlite_trees.specs.declared.store.Store.{Ghosts}
use Rattle.sqlite.specs.Held.{Held}
use Rattle.sqlite.specs.declared.error.Error.{Error}
use Rattle.gasday_files.specs.Texts.{IsMadeOf}
use Rattle.gasday_files.specs.declared.input.Text.{Text}
use Rattle.gasday_orders.specs.Files.{ServesFile}
use Rattle.gasday_orders.specs.Orders.{Serves}

-- of the files of these names, which are those
pub named : (names of : List (Bor (List ℕ))) (text : Text) → names ≡ of → IsMadeOf (map (λ n. n.now) names) text → IsMadeOf (map (λ n. n.now) of) text
named names of text is made = subst (λ (it : List (Bor (List ℕ))). IsMadeOf (map (λ n. n.now) it) text) is made

-- some files are named
pub some_named : {A B : Type 0} (f : A → B) (items : List A) → 1 ≤ length items → map f items ≢ []
some_named f [] some = λ empty. omega (arith, some)
some_named f (x ∷ xs) some = λ empty. cc

-- of one file
pub found : (name : List ℕ) (text : Option Text) (this : Text) → text ≡ Some this → IfSome text (IsMadeOf (name ∷ [])) → IsMadeOf (name ∷ []) this
found name text this is made = subst (λ (it : Option Text). IfSome it (IsMadeOf (name ∷ []))) is made

-- whose lines are served
pub served : {S : Type 0} (g : Ghosts S) (gives : Result (Held S) Error → Type 0) (input : Option (List ℕ)) (names : List (List ℕ)) (left : Option (Held S)) (before behind : Option (List ℕ)) (status : ℕ)
    (text : Text) (lines : List ℕ) → names ≢ [] → IsMadeOf names text → lines ≡ text.bytes.items → ServesFile g gives (Some lines) left before behind status → Serves g gives input names left before behind status
served g gives input names left before behind status text lines some made is serves =
    inr (inl (some, text, made, subst (λ (bytes : List ℕ). ServesFile g gives (Some bytes) left before behind status) is serves))
