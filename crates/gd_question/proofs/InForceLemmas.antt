-- Other capacities change what may pass, and nothing else.
use Rattle.std.proofs.Common.{◌≡◌, ℕ, zero, suc, ◌<◌, ◌≤◌, List, [], ◌∷◌, get_or, set, length, refl, sym, ap, ◌∙◌, subst, arith}
use Rattle.gd_rules.specs.Question.{Element, place_of}
use Rattle.gd_rules.specs.Question.Element.{Segment, Receipt, Delivery, Pool}
use Rattle.gd_rules.specs.Tree.{LeadsTo, Follows, IsRoute, CanSend, CanTake}
use Rattle.gd_question.specs.InForce.{with_limit, in_force}

pub length-in_force : (elements : List Element) (limits : List ℕ) → length (in_force elements limits) ≡ length elements
length-in_force [] limits = refl
length-in_force (e ∷ elements) [] = refl
length-in_force (e ∷ elements) (limit ∷ limits) = ap suc (length-in_force elements limits)

-- an element that differs from another in its capacity alone, or not at all
abbrev pub Alike : Element → Element → Type 0
Alike a b = with_limit a 0 ≡ with_limit b 0

limit_twice : (e : Element) (x y : ℕ) → with_limit (with_limit e x) y ≡ with_limit e y
limit_twice (Segment from to capacity) x y = refl
limit_twice (Receipt place capacity) x y = refl
limit_twice (Delivery place capacity) x y = refl
limit_twice (Pool place) x y = refl

pub alike : (elements : List Element) (limits : List ℕ) (k : ℕ) → Alike (get_or (in_force elements limits) k (Pool 0)) (get_or elements k (Pool 0))
alike [] limits k = refl
alike (e ∷ elements) [] k = refl
alike (e ∷ elements) (limit ∷ limits) zero = limit_twice e limit 0
alike (e ∷ elements) (limit ∷ limits) (suc k) = alike elements limits k

-- What holds of all that is alike.
place_kept : (e : Element) → place_of (with_limit e 0) ≡ place_of e
place_kept (Segment from to capacity) = refl
place_kept (Receipt place capacity) = refl
place_kept (Delivery place capacity) = refl
place_kept (Pool place) = refl

pub place-alike : (a b : Element) → Alike a b → place_of a ≡ place_of b
place-alike a b h = sym (place_kept a) ∙ ap place_of h ∙ place_kept b

sends_kept : (e : Element) → CanSend (with_limit e 0) ≡ CanSend e
sends_kept (Segment from to capacity) = refl
sends_kept (Receipt place capacity) = refl
sends_kept (Delivery place capacity) = refl
sends_kept (Pool place) = refl

takes_kept : (e : Element) → CanTake (with_limit e 0) ≡ CanTake e
takes_kept (Segment from to capacity) = refl
takes_kept (Receipt place capacity) = refl
takes_kept (Delivery place capacity) = refl
takes_kept (Pool place) = refl

leads_kept : (e : Element) (x y : ℕ) → LeadsTo (with_limit e 0) x y ≡ LeadsTo e x y
leads_kept (Segment from to capacity) x y = refl
leads_kept (Receipt place capacity) x y = refl
leads_kept (Delivery place capacity) x y = refl
leads_kept (Pool place) x y = refl

over : (X Y : Type 0) → X ≡ Y → X → Y
over X Y e x = subst (λ (T : Type 0). T) e x

pub sends-alike : (a b : Element) → Alike a b → CanSend b → CanSend a
sends-alike a b h s = over (CanSend (with_limit a 0)) (CanSend a) (sends_kept a) (subst CanSend (sym h) (over (CanSend b) (CanSend (with_limit b 0)) (sym (sends_kept b)) s))

pub takes-alike : (a b : Element) → Alike a b → CanTake b → CanTake a
takes-alike a b h s = over (CanTake (with_limit a 0)) (CanTake a) (takes_kept a) (subst CanTake (sym h) (over (CanTake b) (CanTake (with_limit b 0)) (sym (takes_kept b)) s))

leads-alike : (a b : Element) (x y : ℕ) → Alike a b → LeadsTo b x y → LeadsTo a x y
leads-alike a b x y h s = over (LeadsTo (with_limit a 0) x y) (LeadsTo a x y) (leads_kept a x y) (subst (λ e. LeadsTo e x y) (sym h) (over (LeadsTo b x y) (LeadsTo (with_limit b 0) x y) (sym (leads_kept b x y)) s))

pub follows-alike : (some other : List Element) → ((k : ℕ) → Alike (get_or some k (Pool 0)) (get_or other k (Pool 0))) → (a : ℕ) (steps : List (ℕ × ℕ)) (b : ℕ) → Follows other a steps b → Follows some a steps b
follows-alike some other h a [] b f = f
follows-alike some other h a (s ∷ steps) b f = (leads-alike _ _ a s.1 (h s.0) f.0, follows-alike some other h s.1 steps b f.1)

pub route-alike : (elements : List Element) (limits : List ℕ) (a : ℕ) (route : List ℕ) (b : ℕ) → IsRoute elements a route b → IsRoute (in_force elements limits) a route b
route-alike elements limits a route b r = (r.0, r.1, follows-alike (in_force elements limits) elements (alike elements limits) a r.0 b r.2, r.3)

-- One capacity more or less: what the list says of an element, and how a change shows.
pub in_force-at : (elements : List Element) (limits : List ℕ) (k : ℕ) → k < length limits → k < length elements → get_or (in_force elements limits) k (Pool 0) ≡ with_limit (get_or elements k (Pool 0)) (get_or limits k 0)
in_force-at [] limits k h i = absurd (omega arith)
in_force-at (e ∷ elements) [] k h i = absurd (omega arith)
in_force-at (e ∷ elements) (limit ∷ limits) zero h i = refl
in_force-at (e ∷ elements) (limit ∷ limits) (suc k) h i = in_force-at elements limits k (omega arith) (omega arith)

pub in_force-past : (elements : List Element) (limits : List ℕ) (k : ℕ) → length limits ≤ k → get_or (in_force elements limits) k (Pool 0) ≡ get_or elements k (Pool 0)
in_force-past [] limits k h = refl
in_force-past (e ∷ elements) [] k h = refl
in_force-past (e ∷ elements) (limit ∷ limits) zero h = absurd (omega arith)
in_force-past (e ∷ elements) (limit ∷ limits) (suc k) h = in_force-past elements limits k (omega arith)

pub in_force-set : (elements : List Element) (limits : List ℕ) (k x : ℕ) → k < length limits
    → in_force elements (set limits k x) ≡ set (in_force elements limits) k (with_limit (get_or (in_force elements limits) k (Pool 0)) x)
in_force-set [] limits k x h = refl
in_force-set (e ∷ elements) [] k x h = absurd (omega arith)
in_force-set (e ∷ elements) (limit ∷ limits) zero x h = ap (λ y. y ∷ in_force elements limits) (sym (limit_twice e limit x))
in_force-set (e ∷ elements) (limit ∷ limits) (suc k) x h = ap (λ l. with_limit e limit ∷ l) (in_force-set elements limits k x (omega arith))
