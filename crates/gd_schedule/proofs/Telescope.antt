-- Along a line's route what the potentials rise by telescopes.
use Rattle.std.proofs.Common.{◌≡◌, ℕ, List, [], ◌∷◌, get_or, length, map, refl, sym, ap, ◌∙◌}
use Rattle.gd_scale.specs.Scale.{Scale, multiple, total_below}
use Rattle.gd_scale.specs.Laws.{IsLawful, less}
use Rattle.gd_rules.specs.Question.{Element, Line, Question, element, line, crossing, place_of}
use Rattle.gd_rules.specs.Question.Element.{Segment, Receipt, Delivery, Pool}
use Rattle.gd_rules.specs.Tree.{IsLine, CanSend, CanTake, LeadsTo, Follows}
use Rattle.gd_scale.proofs.Group.{injective}
use Rattle.gd_rules.proofs.LinePayments.{crossed_is, route_total, origin_pays}
use Rattle.gd_question.specs.Nodes.{start_of, stop_of, start, stop, end_node}

module _ {V : Type 0} (s : Scale V) (l : IsLawful s) where
  -- x less y, and y
  pub less_back : (x y : V) → s.plus (less s x y) y ≡ x
  less_back x y = l.associates x (s.minus y) y ∙ ap (s.plus x) (l.commutes (s.minus y) y ∙ l.inverse y) ∙ l.neutral x

  pub less_chain : (x y z : V) → s.plus (less s y x) (less s z y) ≡ less s z x
  less_chain x y z =
      injective s l (s.plus (less s y x) (less s z y)) (less s z x) x
      (ap (λ w. s.plus w x) (l.commutes (less s y x) (less s z y)) ∙ l.associates (less s z y) (less s y x) x ∙ ap (s.plus (less s z y)) (less_back y x) ∙ less_back z y ∙ sym (less_back z x))

  pub less_turned : (x y : V) → s.minus (less s x y) ≡ less s y x
  less_turned x y =
      injective s l (s.minus (less s x y)) (less s y x) (less s x y)
      (l.commutes (s.minus (less s x y)) (less s x y) ∙ l.inverse (less s x y) ∙ sym (l.inverse x) ∙ sym (less_chain x y x))

  module _ (label : ℕ → V) where
    led_rise : (e : ℕ) (x : Element) (a b : ℕ) → LeadsTo x a b → less s (label (stop_of e x)) (label (start_of e x)) ≡ less s (label b) (label a)
    led_rise e (Segment from to capacity) a b h = ap (λ v. less s (label to) (label v)) h.0 ∙ ap (λ v. less s (label v) (label a)) h.1
    led_rise e (Receipt place capacity) a b h = absurd h
    led_rise e (Delivery place capacity) a b h = absurd h
    led_rise e (Pool place) a b h = absurd h

    route_rise : (elements : List Element) (a : ℕ) (steps : List (ℕ × ℕ)) (b : ℕ) → Follows elements a steps b
        → route_total s l (λ e. less s (label (stop_of e (get_or elements e (Pool 0)))) (label (start_of e (get_or elements e (Pool 0))))) (map (λ t. t.0) steps) ≡ less s (label b) (label a)
    route_rise elements a [] b h = sym (l.inverse (label a)) ∙ ap (λ v. less s (label v) (label a)) h
    route_rise elements a (t ∷ steps) b h =
        ap (λ w. s.plus w (route_total s l (λ e. less s (label (stop_of e (get_or elements e (Pool 0)))) (label (start_of e (get_or elements e (Pool 0))))) (map (λ t. t.0) steps))) (led_rise t.0 (get_or elements t.0 (Pool 0)) a t.1 h.0)
        ∙ ap (s.plus (less s (label t.1) (label a))) (route_rise elements t.1 steps b h.1)
        ∙ less_chain (label a) (label t.1) (label b)

    sent_rise : (e : ℕ) (x : Element) → CanSend x → origin_pays s l x (less s (label (stop_of e x)) (label (start_of e x))) ≡ less s (label (place_of x)) (label (end_node e))
    sent_rise e (Segment from to capacity) h = absurd h
    sent_rise e (Receipt place capacity) h = refl
    sent_rise e (Delivery place capacity) h = absurd h
    sent_rise e (Pool place) h = less_turned (label (end_node e)) (label place)

    taken_rise : (e : ℕ) (x : Element) → CanTake x → less s (label (stop_of e x)) (label (start_of e x)) ≡ less s (label (end_node e)) (label (place_of x))
    taken_rise e (Segment from to capacity) h = absurd h
    taken_rise e (Receipt place capacity) h = absurd h
    taken_rise e (Delivery place capacity) h = refl
    taken_rise e (Pool place) h = refl

    -- What a line crosses rises from its origin to its destination.
    pub line_rise : (q : Question) (i : ℕ) → IsLine q (line q i)
        → total_below s (length q.elements) (λ e. multiple s (crossing q i e) (less s (label (stop q e)) (label (start q e)))) ≡ less s (label (end_node (line q i).dest)) (label (end_node (line q i).origin))
    line_rise q i h =
        let k : Line = line q i in
        let rise : ℕ → V = λ e. less s (label (stop q e)) (label (start q e)) in
        let o : V = label (end_node k.origin) in
        let d : V = label (end_node k.dest) in
        let a : V = label (place_of (element q k.origin)) in
        let b : V = label (place_of (element q k.dest)) in
        crossed_is s l q i rise h
        ∙ ap (λ w. s.plus w (s.plus (origin_pays s l (element q k.origin) (rise k.origin)) (rise k.dest)))
        (ap (route_total s l rise) h.routed.1 ∙ route_rise q.elements (place_of (element q k.origin)) h.routed.0 (place_of (element q k.dest)) h.routed.2)
        ∙ ap (λ w. s.plus (less s b a) (s.plus w (rise k.dest))) (sent_rise k.origin (element q k.origin) h.sends)
        ∙ ap (λ w. s.plus (less s b a) (s.plus (less s a o) w)) (taken_rise k.dest (element q k.dest) h.takes)
        ∙ sym (l.associates (less s b a) (less s a o) (less s d b))
        ∙ ap (λ w. s.plus w (less s d b)) (l.commutes (less s b a) (less s a o) ∙ less_chain o a b)
        ∙ less_chain o b d
