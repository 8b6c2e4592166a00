-- What is picked by slots.
use Rattle.std.proofs.Common.{◌≡◌, ◌∙◌, ◌++◌, ℕ, List, [], ◌∷◌, map, refl, ap}
use Rattle.gd_office_part.specs.declared.threads.SessionRows.{SessionRows}
use Rattle.gd_office_run.specs.Picking.{if_slot, pick}

-- where no items are left, none are picked
pub pick_none : {X : Type 0} (rows : List SessionRows) (k : ℕ) → pick {X = X} k rows [] ≡ []
pick_none [] k = refl
pick_none (r ∷ rows) k = refl

-- it is picked by the slots alone
pub pick_by_slots : {X : Type 0} (k : ℕ) (rows others : List SessionRows) (items : List X) → map (λ r. r.slot) rows ≡ map (λ r. r.slot) others
    → pick k rows items ≡ pick k others items
pick_by_slots k [] [] items same = refl
pick_by_slots k [] (o ∷ others) items same = cc
pick_by_slots k (r ∷ rows) [] items same = cc
pick_by_slots k (r ∷ rows) (o ∷ others) [] same = refl
pick_by_slots k (r ∷ rows) (o ∷ others) (x ∷ items) same =
    let slot : r.slot ≡ o.slot = cc in
    let rest : map (λ (s : SessionRows). s.slot) rows ≡ map (λ (s : SessionRows). s.slot) others = cc in
    ap (λ n. if_slot n k x ++ pick k rows items) slot ∙ ap (λ l. if_slot o.slot k x ++ l) (pick_by_slots k rows others items rest)
