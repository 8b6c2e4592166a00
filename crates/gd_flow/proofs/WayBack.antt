-- The walk back from a found node to the first.
use Rattle.std.proofs.Common.{◌≡◌, ◌≢◌, ℕ, zero, suc, ◌<◌, ◌≤◌, List, [], ◌∷◌, length, get_or, refl, sym, ◌∙◌, ap, subst, arith, cond}
use Rattle.std.specs.Prelude.{ℤ, pos, ◌≤ℤ◌, ◌<ℤ◌}
use borrow.Author.Differences.{ints}
use Rattle.gd_network.specs.Arcs.{Net, from_at, to_at}
use Rattle.gd_network.specs.Beginning.{Laid}
use Rattle.gd_network.specs.declared.walks.Step.{Step}
use Rattle.gd_network.specs.Steps.{tail_of, head_of, room, Follows, AreSteps, HasRooms, Once}
use Rattle.gd_flow.specs.declared.search.Search.{Search}
use Rattle.gd_flow.specs.Search.{find_at, IsSearch, IsLed, Closes}

-- Steps from the node found at a place to the first, the last of which is given. None leads to a node found up to that place, but to the first.
pub record IsBack (n : Net) (flow : List ℤ) (s : Search) (last : Step) (at : ℕ) (walk : List Step) : Type 0 where
  pub placed : at < length s.finds.items
  pub follows : Follows n (find_at s at).node walk (find_at s 0).node
  pub steps : AreSteps n walk
  pub rooms : HasRooms n flow walk (pos 1)
  pub once : Once walk
  pub apart : (k : ℕ) (t : Step) (j : ℕ) → k < length walk → 0 < j → j ≤ at → head_of n (get_or walk k t) ≢ (find_at s j).node
  pub place : ℕ
  pub within : place < length walk
  pub taken : (t : Step) → get_or walk place t ≡ last

-- two steps of one arc in one direction lead to one node
same_head : (n : Net) (s t : Step) → s.arc ≡ t.arc → s.back ≡ t.back → head_of n s ≡ head_of n t
same_head n s t a b = ap (λ v. cond v (from_at n s.arc) (to_at n s.arc)) b ∙ ap (λ v. cond t.back (from_at n v) (to_at n v)) a

room_one : (z : ℤ) → pos 0 <ℤ z → pos 1 ≤ℤ z
room_one z h = omega (arith, ints)

steps_more : (n : Net) (s : Step) (walk : List Step) → s.arc < length n → AreSteps n walk → AreSteps n (s ∷ walk)
steps_more n s walk h all zero t k = h
steps_more n s walk h all (suc i) t k = all i t (omega arith)

rooms_more : (n : Net) (flow : List ℤ) (s : Step) (walk : List Step) (d : ℤ) → d ≤ℤ room n flow s → HasRooms n flow walk d → HasRooms n flow (s ∷ walk) d
rooms_more n flow s walk d h all zero t k = h
rooms_more n flow s walk d h all (suc i) t k = all i t (omega arith)

once_more : (n : Net) (s : Step) (walk : List Step) → ((k : ℕ) (t : Step) → k < length walk → head_of n (get_or walk k t) ≢ head_of n s) → Once walk → Once (s ∷ walk)
once_more n s walk other once zero zero t h k same way = omega arith
once_more n s walk other once zero (suc i) t h k same way = other i t (omega arith) (sym (same_head n s (get_or walk i t) same way))
once_more n s walk other once (suc j) zero t h k same way = omega arith
once_more n s walk other once (suc j) (suc i) t h k same way = once j i t (omega arith) (omega arith) same way

pub back_start : (l : Laid) (flow : List ℤ) (s : Search) (last : Step) (at : ℕ) → IsSearch l flow s → at < length s.finds.items → last.arc < length l.arcs
    → tail_of l.arcs last ≡ (find_at s at).node → head_of l.arcs last ≡ (find_at s 0).node → pos 0 <ℤ room l.arcs flow last → IsBack l.arcs flow s last at (last ∷ [])
back_start l flow s last at search placed arc starts ends has_room = record {
  placed = placed;
  follows = (arc, starts, ends);
  steps = steps_more l.arcs last [] arc (λ i t h. absurd (omega arith));
  rooms = rooms_more l.arcs flow last [] (pos 1) (room_one (room l.arcs flow last) has_room) (λ i t h. absurd (omega arith));
  once = once_more l.arcs last [] (λ i t h. absurd (omega arith)) (λ j k t g h. absurd (omega arith));
  apart = apart;
  place = 0;
  within = omega arith;
  taken = λ t. refl;
}
  where
    apart : (k : ℕ) (t : Step) (j : ℕ) → k < 1 → 0 < j → j ≤ at → head_of l.arcs (get_or (last ∷ []) k t) ≢ (find_at s j).node
    apart zero t j h g m same = search.once 0 j g (omega arith) (sym ends ∙ same)
    apart (suc k) t j h g m same = omega arith

pub back_more : (l : Laid) (flow : List ℤ) (s : Search) (last : Step) (at : ℕ) (walk : List Step) → IsSearch l flow s → 0 < at → IsBack l.arcs flow s last at walk
    → IsBack l.arcs flow s last (find_at s at).before ((find_at s at).step ∷ walk)
back_more l flow s last at walk search some back =
    let led : IsLed l.arcs flow s at = search.led at some back.placed in
    let step : Step = (find_at s at).step in
    let earlier : (find_at s at).before < at = led.earlier in
    let placed : at < length s.finds.items = back.placed in
    record {
      placed = omega arith;
      follows = (led.arc, led.starts, subst (λ v. Follows l.arcs v walk (find_at s 0).node) (sym led.ends) back.follows);
      steps = steps_more l.arcs step walk led.arc back.steps;
      rooms = rooms_more l.arcs flow step walk (pos 1) (room_one (room l.arcs flow step) led.has_room) back.rooms;
      once = once_more l.arcs step walk (λ k t h same. back.apart k t at h some (omega arith) (same ∙ led.ends)) back.once;
      apart = apart;
      place = suc back.place;
      within = let h : back.place < length walk = back.within in omega arith;
      taken = back.taken;
    }
  where
    apart : (k : ℕ) (t : Step) (j : ℕ) → k < suc (length walk) → 0 < j → j ≤ (find_at s at).before → head_of l.arcs (get_or ((find_at s at).step ∷ walk) k t) ≢ (find_at s j).node
    apart zero t j h g m same =
        let led : IsLed l.arcs flow s at = search.led at some back.placed in
        let earlier : (find_at s at).before < at = led.earlier in
        search.once j at (omega arith) back.placed (sym (sym led.ends ∙ same))
    apart (suc k) t j h g m same =
        let led : IsLed l.arcs flow s at = search.led at some back.placed in
        let earlier : (find_at s at).before < at = led.earlier in
        back.apart k t j (omega arith) g (omega arith) same

-- at the first node the walk is closed
pub back_closes : (n : Net) (flow : List ℤ) (s : Search) (last : Step) (at : ℕ) (walk : List Step) → at ≡ 0 → IsBack n flow s last at walk → Closes n flow last walk
back_closes n flow s last at walk none back = record {
  node = (find_at s 0).node;
  follows = subst (λ k. Follows n (find_at s k).node walk (find_at s 0).node) none back.follows;
  steps = back.steps;
  rooms = back.rooms;
  once = back.once;
  place = back.place;
  within = back.within;
  taken = back.taken;
}
