-- The lists of links while arcs are added.
use Rattle.std.proofs.Common.{◌≡◌, ℕ, ◌+◌, ◌<◌, List, [], ◌∷◌, ◌++◌, length, get_or, set, map, refl, sym, ap, ◌∙◌, subst, arith, Bool, true, false, cond}
use Rattle.std.specs.Prelude.{replicate, if◌then◌else◌, ◌==◌, Vec}
use Rattle.std.specs.Global.{Global}
use borrow.Author.Tests.{eqb-true, eqb-false}
use Rattle.std.specs.List.{filter, range_with_len}
use Rattle.std.proofs.lemmas.List.{length-replicate, get_or-replicate, length-map, get_or-map, map-set, get_or-set_same, get_or-set_other}
use Rattle.std.proofs.lemmas.List.FromFn.{filter_of_map_range_with_len_more}
use Rattle.gd_network.specs.declared.arcs.Arc.{Arc}
use Rattle.gd_network.specs.Arcs.{Net, arc_at}
use Rattle.gd_network.specs.Links.{touches, links_below, AreLinks, lists}

map_self : (xs : List ℕ) → map (λ x. x) xs ≡ xs
map_self [] = refl
map_self (x ∷ xs) = ap (λ ys. x ∷ ys) (map_self xs)

cond_if : (b : Bool) (xs ys : List ℕ) → cond b xs ys ≡ (if b then xs else ys)
cond_if true xs ys = refl
cond_if false xs ys = refl

-- one arc more
pub below_more : (n : Net) (k v : ℕ) → links_below n (k + 1) v ≡ links_below n k v ++ (if touches (arc_at n k) v then k ∷ [] else [])
below_more n k v =
    ap (filter (λ a. touches (arc_at n a) v)) (sym (map_self (range_with_len 0 (k + 1))))
    ∙ filter_of_map_range_with_len_more (λ a. touches (arc_at n a) v) (λ x. x) 0 k k (omega arith)
    ∙ ap (λ xs. filter (λ a. touches (arc_at n a) v) xs ++ cond (touches (arc_at n k) v) (k ∷ []) []) (map_self (range_with_len 0 k))
    ∙ ap (λ xs. links_below n k v ++ xs) (cond_if (touches (arc_at n k) v) (k ∷ []) [])

pub links_none : (nodes : ℕ) (n : Net) (links : List (List ℕ)) → links ≡ replicate nodes [] → AreLinks nodes n 0 links
links_none nodes n links e = record {
  size = ap (λ (xs : List (List ℕ)). length xs) e ∙ length-replicate nodes [];
  each = λ v h. ap (λ xs. get_or xs v []) e ∙ get_or-replicate nodes v [] [] h;
}

pub links_more : (nodes : ℕ) (n : Net) (k : ℕ) (links more : List (List ℕ)) (a : Arc) → AreLinks nodes n k links → length more ≡ length links → a ≡ arc_at n k
    → ((v : ℕ) → get_or more v [] ≡ get_or links v [] ++ (if touches a v then k ∷ [] else [])) → AreLinks nodes n (k + 1) more
links_more nodes n k links more a h size is each = record {
  size = size ∙ h.size;
  each = λ v g. each v ∙ ap (λ xs. xs ++ (if touches a v then k ∷ [] else [])) (h.each v g) ∙ ap (λ (b : Arc). links_below n k v ++ (if touches b v then k ∷ [] else [])) is ∙ sym (below_more n k v);
}

append_none : (xs : List ℕ) → xs ++ [] ≡ xs
append_none [] = refl
append_none (x ∷ xs) = ap (λ ys. x ∷ ys) (append_none xs)

-- an arc noted at one node
pub noted : (links : List (Vec ℕ Global)) (node arc : ℕ) (old new : Vec ℕ Global) → node < length links → old ≡ get_or links node old → new.items ≡ old.items ++ arc ∷ []
    → (v : ℕ) → get_or (lists (set links node new)) v [] ≡ get_or (lists links) v [] ++ (if v == node then arc ∷ [] else [])
noted links node arc old new h is more v = by_test (v == node) refl
  where
    changed : get_or (lists (set links node new)) v [] ≡ get_or (set (lists links) node new.items) v []
    changed = ap (λ (xs : List (List ℕ)). get_or xs v []) (map-set (λ (l : Vec ℕ Global). l.items) links node new)

    by_test : (b : Bool) → (v == node) ≡ b → get_or (lists (set links node new)) v [] ≡ get_or (lists links) v [] ++ (if v == node then arc ∷ [] else [])
    by_test true e =
        let same : v ≡ node = eqb-true v node e in
        let k : node < length (lists links) = subst (λ m. node < m) (sym (length-map links (λ (l : Vec ℕ Global). l.items))) h in
        rw e (changed
        ∙ ap (λ m. get_or (set (lists links) node new.items) m []) same
        ∙ get_or-set_same (lists links) node new.items [] k
        ∙ more
        ∙ ap (λ (l : Vec ℕ Global). l.items ++ arc ∷ []) is
        ∙ ap (λ xs. xs ++ arc ∷ []) (sym (get_or-map (λ (l : Vec ℕ Global). l.items) links node old [] h))
        ∙ ap (λ m. get_or (lists links) m [] ++ arc ∷ []) (sym same))
    by_test false e = rw e (changed ∙ get_or-set_other (lists links) node v new.items [] (eqb-false v node e) ∙ sym (append_none (get_or (lists links) v [])))
