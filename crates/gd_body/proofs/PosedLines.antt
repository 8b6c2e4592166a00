-- The lines of a question lead between ends of its pipeline, over their routes.
use Rattle.std.proofs.Common.{◌≡◌, ℕ, zero, suc, ◌<◌, ◌≤◌, List, [], ◌∷◌, length, get_or, All, refl, sym, ap, subst, ◌∙◌, arith, inl, inr}
use Rattle.std.specs.Prelude.{◌⊎◌}
use Rattle.std.proofs.lemmas.List.Elements.{All-from_get_or}
use Rattle.gd_rules.specs.Limits.{classes}
use Rattle.gd_rules.specs.Question as rules
use Rattle.gd_rules.specs.Question.Element.{Segment as segment, Receipt as receipt, Delivery as delivery, Pool as pool}
use Rattle.gd_rules.specs.Tree.{CanSend, CanTake, Follows, IsLine, IsRoute, LeadsTo}
use Rattle.gd_rules.specs.Question.{place_of}
use Rattle.gd_tree.proofs.Directions.{routes}
use Rattle.gd_system.specs.Pipeline.{Pipeline, elements_of}
use Rattle.gd_system.specs.Route.{element_at, ends_at}
use Rattle.gd_system.specs.Ends.{AreEnds}
use Rattle.gd_system.specs.declared.part.Ends.{Ends}
use Rattle.gd_question.specs.InForce.{in_force}
use Rattle.gd_question.specs.Posing.{Posed, line_between}
use Rattle.gd_question.specs.InForce.{with_limit}
use Rattle.gd_body.specs.Publishable.{IsQuantity, IsPosedQuestion}

-- A line between two ends of the pipeline, over their route.
pub record IsPosedLine (p : Pipeline) (l : rules.Line) : Type 0 where
  pub ends : Ends
  pub are : AreEnds p ends
  pub is : l ≡ line_between p ends l.class l.floor l.ceiling
  pub bounds : l.floor ≤ l.ceiling
  pub small : IsQuantity l.ceiling
  pub classed : (1 ≤ l.class) × (l.class ≤ classes)

-- an element with its own capacity or another
abbrev pub IsForced : rules.Element → rules.Element → Type 0
IsForced own held = (held ≡ own) ⊎ ((limit : ℕ) × (held ≡ with_limit own limit))

length-in_force : (elements : List rules.Element) (limits : List ℕ) → length (in_force elements limits) ≡ length elements
length-in_force [] limits = refl
length-in_force (x ∷ elements) [] = refl
length-in_force (x ∷ elements) (limit ∷ limits) = ap suc (length-in_force elements limits)

pub forced_at : (elements : List rules.Element) (limits : List ℕ) (e : ℕ) (d : rules.Element) → IsForced (get_or elements e d) (get_or (in_force elements limits) e d)
forced_at [] limits e d = inl refl
forced_at (x ∷ elements) [] e d = inl refl
forced_at (x ∷ elements) (limit ∷ limits) zero d = inr (limit, refl)
forced_at (x ∷ elements) (limit ∷ limits) (suc e) d = forced_at elements limits e d

-- another capacity changes neither ends nor places
limit_sends : (x : rules.Element) (limit : ℕ) → CanSend (with_limit x limit) → CanSend x
limit_sends (segment from to capacity) limit s = s
limit_sends (receipt place capacity) limit s = s
limit_sends (delivery place capacity) limit s = s
limit_sends (pool place) limit s = s

limit_takes : (x : rules.Element) (limit : ℕ) → CanTake (with_limit x limit) → CanTake x
limit_takes (segment from to capacity) limit t = t
limit_takes (receipt place capacity) limit t = t
limit_takes (delivery place capacity) limit t = t
limit_takes (pool place) limit t = t

limit_place : (x : rules.Element) (limit : ℕ) → place_of (with_limit x limit) ≡ place_of x
limit_place (segment from to capacity) limit = refl
limit_place (receipt place capacity) limit = refl
limit_place (delivery place capacity) limit = refl
limit_place (pool place) limit = refl

limit_leads : (x : rules.Element) (limit a b : ℕ) → LeadsTo (with_limit x limit) a b → LeadsTo x a b
limit_leads (segment from to capacity) limit a b l = l
limit_leads (receipt place capacity) limit a b l = l
limit_leads (delivery place capacity) limit a b l = l
limit_leads (pool place) limit a b l = l

forced_sends : (own held : rules.Element) → IsForced own held → CanSend held → CanSend own
forced_sends own held (inl e) s = subst CanSend e s
forced_sends own held (inr f) s = limit_sends own f.0 (subst CanSend f.1 s)

forced_takes : (own held : rules.Element) → IsForced own held → CanTake held → CanTake own
forced_takes own held (inl e) t = subst CanTake e t
forced_takes own held (inr f) t = limit_takes own f.0 (subst CanTake f.1 t)

forced_place : (own held : rules.Element) → IsForced own held → place_of held ≡ place_of own
forced_place own held (inl e) = ap place_of e
forced_place own held (inr f) = ap place_of f.1 ∙ limit_place own f.0

forced_leads : (own held : rules.Element) (a b : ℕ) → IsForced own held → LeadsTo held a b → LeadsTo own a b
forced_leads own held a b (inl e) l = subst (λ (x : rules.Element). LeadsTo x a b) e l
forced_leads own held a b (inr f) l = limit_leads own f.0 a b (subst (λ (x : rules.Element). LeadsTo x a b) f.1 l)

follows_still : (elements : List rules.Element) (limits : List ℕ) (steps : List (ℕ × ℕ)) (a b : ℕ) → Follows (in_force elements limits) a steps b → Follows elements a steps b
follows_still elements limits [] a b f = f
follows_still elements limits (s ∷ steps) a b f =
    (forced_leads (get_or elements s.0 (pool 0)) (get_or (in_force elements limits) s.0 (pool 0)) a s.1 (forced_at elements limits s.0 (pool 0)) f.0, follows_still elements limits steps s.1 b f.1)

route_still : (elements : List rules.Element) (limits : List ℕ) (a b : ℕ) (route : List ℕ) → IsRoute (in_force elements limits) a route b → IsRoute elements a route b
route_still elements limits a b route r = (r.0, r.1, follows_still elements limits r.0 a b r.2, r.3)

module _ (q : Posed) (m : IsPosedQuestion q) where
  forced : (e : ℕ) → IsForced (element_at q.pipeline e) (rules.element q.asked e)
  forced e = subst (λ (l : List rules.Element). IsForced (element_at q.pipeline e) (get_or l e (pool 0))) (sym m.elements) (forced_at (elements_of q.pipeline) m.limits e (pool 0))

  pub elements_long : length q.asked.elements ≡ length (elements_of q.pipeline)
  elements_long = ap (λ (l : List rules.Element). length l) m.elements ∙ length-in_force (elements_of q.pipeline) m.limits

  place_is : (e : ℕ) → place_of (rules.element q.asked e) ≡ place_of (element_at q.pipeline e)
  place_is e = forced_place (element_at q.pipeline e) (rules.element q.asked e) (forced e)

  route_is : (l : rules.Line) → IsLine q.asked l → IsRoute (elements_of q.pipeline) (place_of (element_at q.pipeline l.origin)) l.route (place_of (element_at q.pipeline l.dest))
  route_is l h =
      subst (λ (n : ℕ). IsRoute (elements_of q.pipeline) (place_of (element_at q.pipeline l.origin)) l.route n) (place_is l.dest)
      (subst (λ (n : ℕ). IsRoute (elements_of q.pipeline) n l.route (place_of (rules.element q.asked l.dest))) (place_is l.origin)
      (route_still (elements_of q.pipeline) m.limits _ _ l.route (subst (λ (es : List rules.Element). IsRoute es (place_of (rules.element q.asked l.origin)) l.route (place_of (rules.element q.asked l.dest))) m.elements h.routed)))

  posed_line : (l : rules.Line) → IsLine q.asked l → IsQuantity l.ceiling → IsPosedLine q.pipeline l
  posed_line l h small =
      let from : l.origin < length (elements_of q.pipeline) = let k = h.origin_known in omega (arith, k, elements_long) in
      let to : l.dest < length (elements_of q.pipeline) = let k = h.dest_known in omega (arith, k, elements_long) in
      let known = m.pipeline.known in
      let r = (routes (elements_of q.pipeline) (length q.pipeline.tree) (place_of (element_at q.pipeline l.origin)) (place_of (element_at q.pipeline l.dest)) known.grown (known.hung l.origin from) (known.hung l.dest to)).1 l.route (route_is l h) in
      record {
        ends = ends_at q.pipeline l.origin l.dest;
        are = record {
          origin_known = from;
          dest_known = to;
          origin_placed = known.hung l.origin from;
          dest_placed = known.hung l.dest to;
          origin_hangs = refl;
          dest_hangs = refl;
          sends = forced_sends (element_at q.pipeline l.origin) (rules.element q.asked l.origin) (forced l.origin) h.sends;
          takes = forced_takes (element_at q.pipeline l.dest) (rules.element q.asked l.dest) (forced l.dest) h.takes;
          apart = h.apart;
          routed = r.0;
        };
        is = ap (λ (route : List ℕ). record l { route = route }) r.1;
        bounds = h.bounds;
        small = small;
        classed = h.classed;
      }

  pub posed_lines : All (IsPosedLine q.pipeline) q.asked.lines
  posed_lines = All-from_get_or (IsPosedLine q.pipeline) q.asked.lines rules.no_line (λ i low. posed_line (rules.line q.asked i) (m.known.lined i low) (m.ceilings i rules.no_line low))
