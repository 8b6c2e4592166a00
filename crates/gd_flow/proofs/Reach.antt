-- A search while it finds nodes.
use Rattle.std.proofs.Common.{◌≡◌, ◌≢◌, ◌⊎◌, ℕ, ◌+◌, ◌<◌, ◌≤◌, List, [], ◌∷◌, ◌++◌, length, get_or, set, slice_set, replicate, refl, sym, ◌∙◌, ap, subst, arith, inl, inr, Bool, true, false, not, cond}
use Rattle.std.specs.Prelude.{ℤ, pos, ◌<ℤ◌}
use Rattle.std.specs.List.{count_by, sum_by}
use Rattle.std.proofs.lemmas.Bool.{cases_lt, cases_eq, false≢true}
use Rattle.std.proofs.lemmas.List.{get_or_append_left, get_or_push, get_or_past, length_push, length-set, length-replicate, get_or-replicate, get_or-set_same, get_or-set_other}
use Rattle.std.proofs.lemmas.List.Folds.{sum_by-replicate}
use Rattle.std.proofs.lemmas.List.Sums.{sum_by-set}
use Rattle.gd_network.specs.Arcs.{Net}
use Rattle.gd_network.specs.Beginning.{Laid}
use Rattle.gd_network.specs.declared.walks.Step.{Step}
use Rattle.gd_network.specs.Steps.{tail_of, head_of, room}
use Rattle.gd_flow.specs.declared.search.Find.{Find}
use Rattle.gd_flow.specs.declared.search.Search.{Search}
use Rattle.gd_flow.specs.Search.{no_find, find_at, IsSearch, IsLed, Grows, IsTried, AreTried}

count_none : (n : ℕ) → count_by not (replicate n false) ≡ n
count_none n = sum_by-replicate (λ x. cond (not x) 1 0) n false ∙ omega arith

-- one entry more is true
count_marked : (marks : List Bool) (i : ℕ) → i < length marks → get_or marks i false ≡ false → count_by not (set marks i true) + 1 ≡ count_by not marks
count_marked marks i h e =
    let f : Bool → ℕ = λ x. cond (not x) 1 0 in
    let a : sum_by f (set marks i true) + f (get_or marks i false) ≡ sum_by f marks + f true = sum_by-set f marks i true false h in
    let b : f (get_or marks i false) ≡ 1 = ap f e in
    omega (arith, a, b)

pub marked_past : (marks : List Bool) (v : ℕ) → get_or marks v false ≡ true → v < length marks
marked_past marks v e = elim (cases_lt v (length marks)) [
  | inl h ↦ h
  | inr h ↦ absurd (false≢true (sym (get_or_past marks v false h) ∙ e))
]

-- a marked node among those of which one more is marked
marked_cases : (marks : List Bool) (i v : ℕ) → get_or (set marks i true) v false ≡ true → (v ≡ i) ⊎ (get_or marks v false ≡ true)
marked_cases marks i v e = elim (cases_eq v i) [
  | inl same ↦ inl same
  | inr other ↦ inr (sym (get_or-set_other marks i v true false other) ∙ e)
]

still_marked : (marks : List Bool) (i v : ℕ) → i < length marks → get_or marks v false ≡ true → get_or (set marks i true) v false ≡ true
still_marked marks i v h e = elim (cases_eq v i) [
  | inl same ↦ subst (λ k. get_or (set marks i true) k false ≡ true) (sym same) (get_or-set_same marks i true false h)
  | inr other ↦ get_or-set_other marks i v true false other ∙ e
]

pub grows_self : (s : Search) → Grows s s
grows_self s = record { longer = omega arith; same = λ k h. refl; marked = λ v h. h }

pub grows_on : (a b c : Search) → Grows a b → Grows b c → Grows a c
grows_on a b c f g = record {
  longer = let p : length a.finds.items ≤ length b.finds.items = f.longer in let q : length b.finds.items ≤ length c.finds.items = g.longer in omega arith;
  same = λ k h. let p : length a.finds.items ≤ length b.finds.items = f.longer in g.same k (omega arith) ∙ f.same k h;
  marked = λ v h. g.marked v (f.marked v h);
}

pub tried_on : (n : Net) (flow : List ℤ) (a b : Search) (node : ℕ) (step : Step) → Grows a b → IsTried n flow a.marks.items node step → IsTried n flow b.marks.items node step
tried_on n flow a b node step g tried starts has_room = g.marked (head_of n step) (tried starts has_room)

pub all_tried_on : (n : Net) (flow : List ℤ) (a b : Search) (k : ℕ) → k ≤ length a.finds.items → Grows a b → AreTried n flow a k → AreTried n flow b k
all_tried_on n flow a b k h g tried j step i arc =
    subst (λ (f : Find). IsTried n flow b.marks.items f.node step) (sym (g.same j (omega arith))) (tried_on n flow a b (find_at a j).node step g (tried j step i arc))

-- the first node
pub search_started : (l : Laid) (flow : List ℤ) (s : Search) (node : ℕ) → node < length l.question.asked.elements + 1 → length s.finds.items ≡ 1 → (find_at s 0).node ≡ node
    → s.marks.items ≡ slice_set (replicate (length l.question.asked.elements + 1) false) node true → IsSearch l flow s
search_started l flow s node h one first is =
    let nodes : ℕ = length l.question.asked.elements + 1 in
    let none : List Bool = replicate nodes false in
    let size : length none ≡ nodes = length-replicate nodes false in
    let in_marks : node < length none = subst (λ k. node < k) (sym size) h in
    let unmarked : get_or none node false ≡ false = get_or-replicate nodes node false false h in
    let counted : count_by not (set none node true) + 1 ≡ count_by not none = count_marked none node in_marks unmarked in
    let all : count_by not none ≡ nodes = count_none nodes in
    let at_node : get_or s.marks.items node false ≡ true = ap (λ (m : List Bool). get_or m node false) is ∙ get_or-set_same none node true false in_marks in
    record {
      size = ap (λ (m : List Bool). length m) is ∙ length-set none node true ∙ size;
      counted = let c : count_by not s.marks.items ≡ count_by not (set none node true) = ap (count_by not) is in omega (arith, one, c, counted, all);
      begun = omega (arith, one);
      marked = λ k g. let z : k ≡ 0 = omega (arith, one, g) in subst (λ i. get_or s.marks.items (find_at s i).node false ≡ true) (sym z) (subst (λ v. get_or s.marks.items v false ≡ true) (sym first) at_node);
      found = λ v g. elim (marked_cases none node v (sym (ap (λ (m : List Bool). get_or m v false) is) ∙ g)) [
        | inl e ↦ (0, omega (arith, one), first ∙ sym e)
        | inr e ↦ absurd (false≢true (sym (get_or-replicate nodes v false false (subst (λ k. v < k) size (marked_past none v e))) ∙ e))
      ];
      once = λ j k g i. absurd (omega (arith, one, g, i));
      led = λ k g i. absurd (omega (arith, one, g, i));
    }

module _ (l : Laid) (flow : List ℤ) (old new : Search) (find : Find) (search : IsSearch l flow old) (finds : new.finds.items ≡ old.finds.items ++ find ∷ []) (marks : new.marks.items ≡ slice_set old.marks.items find.node true)
    (inside : find.node < length old.marks.items) (unmarked : get_or old.marks.items find.node false ≡ false) where
  count : ℕ
  count = length old.finds.items

  more : length new.finds.items ≡ length old.finds.items + 1
  more = ap (λ (x : List Find). length x) finds ∙ length_push old.finds.items find

  same : (k : ℕ) → k < length old.finds.items → find_at new k ≡ find_at old k
  same k h = ap (λ (x : List Find). get_or x k no_find) finds ∙ get_or_append_left old.finds.items (find ∷ []) no_find k h

  last : (k : ℕ) → k ≡ length old.finds.items → find_at new k ≡ find
  last k e = ap (λ (x : List Find). get_or x k no_find) finds ∙ get_or_push old.finds.items find no_find k (sym e)

  now_marked : (v : ℕ) → get_or new.marks.items v false ≡ get_or (set old.marks.items find.node true) v false
  now_marked v = ap (λ (m : List Bool). get_or m v false) marks

  pub push_grows : Grows old new
  push_grows = record {
    longer = omega (arith, more);
    same = same;
    marked = λ v h. now_marked v ∙ still_marked old.marks.items find.node v inside h;
  }

  pub push_marked : get_or new.marks.items find.node false ≡ true
  push_marked = now_marked find.node ∙ get_or-set_same old.marks.items find.node true false inside

  -- no node found so far is the new one
  apart : (j : ℕ) → j < length old.finds.items → (find_at old j).node ≢ find.node
  apart j h e = false≢true (sym unmarked ∙ (ap (λ v. get_or old.marks.items v false) (sym e) ∙ search.marked j h))

  pub push_search : find.before < length old.finds.items → find.step.arc < length l.arcs → tail_of l.arcs find.step ≡ (find_at old find.before).node → head_of l.arcs find.step ≡ find.node → pos 0 <ℤ room l.arcs flow find.step → IsSearch l flow new
  push_search before arc starts ends has_room = record {
    size = ap (λ (m : List Bool). length m) marks ∙ length-set old.marks.items find.node true ∙ search.size;
    counted =
        let a : count_by not new.marks.items ≡ count_by not (set old.marks.items find.node true) = ap (count_by not) marks in
        let b : count_by not (set old.marks.items find.node true) + 1 ≡ count_by not old.marks.items = count_marked old.marks.items find.node inside unmarked in
        let e : length old.finds.items + count_by not old.marks.items ≡ length l.question.asked.elements + 1 = search.counted in
        omega (arith, a, b, e, more);
    begun = omega (arith, more);
    marked = λ k h. elim (cases_lt k (length old.finds.items)) [
      | inl g ↦ push_grows.marked (find_at new k).node (subst (λ (f : Find). get_or old.marks.items f.node false ≡ true) (sym (same k g)) (search.marked k g))
      | inr g ↦ subst (λ (f : Find). get_or new.marks.items f.node false ≡ true) (sym (last k (omega (arith, more, g, h)))) push_marked
    ];
    found = λ v h. elim (marked_cases old.marks.items find.node v (sym (now_marked v) ∙ h)) [
      | inl e ↦ (length old.finds.items, omega (arith, more), ap (λ (f : Find). f.node) (last (length old.finds.items) refl) ∙ sym e)
      | inr e ↦ let w = search.found v e in (w.0, (let g : w.0 < length old.finds.items = w.1 in omega (arith, more, g)), ap (λ (f : Find). f.node) (same w.0 w.1) ∙ w.2)
    ];
    once = λ j k g h e. elim (cases_lt k (length old.finds.items)) [
      | inl p ↦ search.once j k g p (ap (λ (f : Find). f.node) (sym (same j (omega (arith, g, p)))) ∙ e ∙ ap (λ (f : Find). f.node) (same k p))
      | inr p ↦ apart j (omega (arith, more, g, h, p)) (ap (λ (f : Find). f.node) (sym (same j (omega (arith, more, g, h, p)))) ∙ e ∙ ap (λ (f : Find). f.node) (last k (omega (arith, more, h, p))))
    ];
    led = λ k g h. elim (cases_lt k (length old.finds.items)) [
      | inl p ↦ led_before k p (search.led k g p)
      | inr p ↦ led_last k (omega (arith, more, h, p))
    ];
  }
    where
      led_before : (k : ℕ) → k < length old.finds.items → IsLed l.arcs flow old k → IsLed l.arcs flow new k
      led_before k p led =
          let e : find_at new k ≡ find_at old k = same k p in
          let earlier : (find_at old k).before < k = led.earlier in
          record {
            earlier = subst (λ (f : Find). f.before < k) (sym e) led.earlier;
            arc = subst (λ (f : Find). f.step.arc < length l.arcs) (sym e) led.arc;
            starts = subst (λ (f : Find). tail_of l.arcs f.step ≡ (find_at new f.before).node) (sym e) (led.starts ∙ ap (λ (f : Find). f.node) (sym (same (find_at old k).before (omega arith))));
            ends = subst (λ (f : Find). head_of l.arcs f.step ≡ f.node) (sym e) led.ends;
            has_room = subst (λ (f : Find). pos 0 <ℤ room l.arcs flow f.step) (sym e) led.has_room;
          }

      led_last : (k : ℕ) → k ≡ length old.finds.items → IsLed l.arcs flow new k
      led_last k p =
          let e : find_at new k ≡ find = last k p in
          record {
            earlier = subst (λ (f : Find). f.before < k) (sym e) (omega arith);
            arc = subst (λ (f : Find). f.step.arc < length l.arcs) (sym e) arc;
            starts = subst (λ (f : Find). tail_of l.arcs f.step ≡ (find_at new f.before).node) (sym e) (starts ∙ ap (λ (f : Find). f.node) (sym (same find.before before)));
            ends = subst (λ (f : Find). head_of l.arcs f.step ≡ f.node) (sym e) ends;
            has_room = subst (λ (f : Find). pos 0 <ℤ room l.arcs flow f.step) (sym e) has_room;
          }
