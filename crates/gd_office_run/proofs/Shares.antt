-- What is held of a slot after it was given more, and after it was taken.
use Rattle.std.proofs.Common.{◌≡◌, ℕ, ◌+◌, ◌<◌, ◌≤◌, ◌==◌, if◌then◌else◌, zero, suc, Bool, true, false, List, [], ◌∷◌, ◌++◌, length, map, get_or, refl, sym, ap, subst, ◌∙◌, arith, append_assoc, Option, Some, None, Result, IfOk}
use Rattle.std.proofs.lemmas.List.{map-append, append-nil}
use Rattle.std.specs.Global.{Vec}
use Rattle.gd_machine.specs.Day.{Day}
use Rattle.gd_office_part.specs.declared.threads.SessionRows.{SessionRows}
use Rattle.gd_office_part.specs.declared.kept.Receipt.{Receipt}
use Rattle.gd_office_part.specs.declared.numbers.Numbers.{Numbers}
use Rattle.gd_office_part.specs.Seen.{Session}
use Rattle.gd_office_part.specs.Sending.{lists_of}
use Rattle.gd_office_run.specs.declared.end.End.{End}
use Rattle.gd_office_run.specs.declared.holding.Holding.{Holding}
use Rattle.gd_office_run.specs.Picking.{pick, if_slot, Grew, AreEmpty}
use Rattle.gd_office_run.specs.Ends.{EndsWith}
use Rattle.gd_office_run.specs.Shares.{items_at, Share, share_at, nothing, plus, IsOf, Gains, of_sessions, of_desk, EndsBy, EndFrom}

items_is : {X : Type 0} (vs : List (Vec X)) (k : ℕ) (d : Vec X) → k < length vs → items_at vs k ≡ (get_or vs k d).items
items_is [] k d below = elim below [ ]
items_is (v ∷ vs) zero d below = refl
items_is (v ∷ vs) (suc k) d below = let rest : k < length vs = omega (arith, below) in items_is vs k d rest

-- what a slot has after it was given more
at_grew : {X : Type 0} (old new : List (Vec X)) (more : ℕ → List X) (k : ℕ) → Grew old new more → k < length old
    → items_at new k ≡ items_at old k ++ more k
at_grew [] new more k grew below = elim below [ ]
at_grew (v ∷ old) new more k grew below =
    let within : k < length new = omega (arith, below, grew.0) in
    items_is new k v within ∙ grew.1 k v below ∙ ap (λ xs. xs ++ more k) (sym (items_is (v ∷ old) k v below))

at_empty : {X : Type 0} (vs : List (Vec X)) (k : ℕ) → AreEmpty vs → k < length vs → items_at vs k ≡ []
at_empty [] k empty below = elim below [ ]
at_empty (v ∷ vs) k empty below = items_is (v ∷ vs) k v below ∙ empty k v below

-- what was taken is what the slot had
pub took : {X : Type 0} (vs : List (Vec X)) (at : ℕ) (v : Vec X) → at < length vs → v ≡ get_or vs at v → v.items ≡ items_at vs at
took vs at v below is = ap (λ w. w.items) is ∙ sym (items_is vs at v below)

-- where a slot was left alone it has what it had
pub same_at : {X : Type 0} (old new : List (Vec X)) (k : ℕ) → length new ≡ length old → ((d : Vec X) → get_or new k d ≡ get_or old k d)
    → items_at new k ≡ items_at old k
same_at [] [] k long same = refl
same_at [] (w ∷ new) k long same = cc
same_at (v ∷ old) [] k long same = cc
same_at (v ∷ old) (w ∷ new) zero long same = ap (λ u. u.items) (same v)
same_at (v ∷ old) (w ∷ new) (suc k) long same = let rest : length new ≡ length old = omega (arith, long) in same_at old new k rest same

map_one : {X Y : Type 0} (f : X → Y) (here : Bool) (x : X) → map f (if here then x ∷ [] else []) ≡ (if here then f x ∷ [] else [])
map_one f true x = refl
map_one f false x = refl

-- to pick and to map is to map and to pick
map_pick : {X Y : Type 0} (f : X → Y) (k : ℕ) (rows : List SessionRows) (xs : List X) → map f (pick k rows xs) ≡ pick k rows (map f xs)
map_pick f k [] xs = refl
map_pick f k (r ∷ rows) [] = refl
map_pick f k (r ∷ rows) (x ∷ xs) =
    map-append f (if_slot r.slot k x) (pick k rows xs) ∙ ap (λ ys. ys ++ map f (pick k rows xs)) (map_one f (r.slot == k) x)
    ∙ ap (λ ys. if_slot r.slot k (f x) ++ ys) (map_pick f k rows xs)

pub share_is : (a b : Share) → a.counts ≡ b.counts → a.lists ≡ b.lists → a.numbers ≡ b.numbers → a.desk ≡ b.desk → a ≡ b
share_is a b counts lists numbers desk =
    ap (λ (x : List Numbers). record { counts = x; lists = a.lists; numbers = a.numbers; desk = a.desk }) counts
    ∙ ap (λ (x : List (List Receipt)). record { counts = b.counts; lists = x; numbers = a.numbers; desk = a.desk }) lists
    ∙ ap (λ (x : List ℕ). record { counts = b.counts; lists = b.lists; numbers = x; desk = a.desk }) numbers
    ∙ ap (λ (x : List Receipt). record { counts = b.counts; lists = b.lists; numbers = b.numbers; desk = x }) desk

pub holds_nothing : {J : Type 0} (holding : Holding J) (slots k : ℕ) → IsOf slots holding → AreEmpty holding.sessions.items → AreEmpty holding.lists.items
    → AreEmpty holding.numbers.items → AreEmpty holding.desks.items → k < slots → share_at holding k ≡ nothing
holds_nothing holding slots k of sessions lists numbers desks below =
    share_is (share_at holding k) nothing
    (ap (map (λ (s : Session). s.numbers)) (at_empty holding.sessions.items k sessions (omega (arith, below, of.0))))
    (ap lists_of (at_empty holding.lists.items k lists (omega (arith, below, of.1))))
    (at_empty holding.numbers.items k numbers (omega (arith, below, of.2)))
    (at_empty holding.desks.items k desks (omega (arith, below, of.3)))

-- the sessions of a phase
pub gains_sessions : {J : Type 0} (old : Holding J) (s : Vec (Vec Session)) (l : Vec (Vec (Vec Receipt))) (n : Vec (Vec ℕ))
    (rows : List SessionRows) (sessions : List Session) (lists : List (Vec Receipt)) (numbers : List ℕ) (slots : ℕ) → IsOf slots old
    → Grew old.sessions.items s.items (λ k. pick k rows sessions) → Grew old.lists.items l.items (λ k. pick k rows lists)
    → Grew old.numbers.items n.items (λ k. pick k rows numbers)
    → IsOf {J = J} slots (record { sessions = s; lists = l; numbers = n; desks = old.desks })
    × Gains slots old (record { sessions = s; lists = l; numbers = n; desks = old.desks })
    (λ k. of_sessions k rows (map (λ x. x.numbers) sessions) (lists_of lists) numbers)
gains_sessions {J = J} old s l n rows sessions lists numbers slots of gs gl gn =
    let counted : Session → Numbers = λ x. x.numbers in
    let items : Vec Receipt → List Receipt = λ v. v.items in (
      (gs.0 ∙ of.0, gl.0 ∙ of.1, gn.0 ∙ of.2, of.3),
      λ k below.
          let new : Holding J = record { sessions = s; lists = l; numbers = n; desks = old.desks } in
          let more : Share = of_sessions k rows (map counted sessions) (lists_of lists) numbers in
          share_is (share_at new k) (plus (share_at old k) more)
          (ap (map counted) (at_grew old.sessions.items s.items (λ j. pick j rows sessions) k gs (omega (arith, below, of.0)))
          ∙ map-append counted (items_at old.sessions.items k) (pick k rows sessions)
          ∙ ap (λ (ys : List Numbers). map counted (items_at old.sessions.items k) ++ ys) (map_pick counted k rows sessions))
          (ap (map items) (at_grew old.lists.items l.items (λ j. pick j rows lists) k gl (omega (arith, below, of.1)))
          ∙ map-append items (items_at old.lists.items k) (pick k rows lists)
          ∙ ap (λ (ys : List (List Receipt)). map items (items_at old.lists.items k) ++ ys) (map_pick items k rows lists))
          (at_grew old.numbers.items n.items (λ j. pick j rows numbers) k gn (omega (arith, below, of.2)))
          (sym (append-nil (items_at old.desks.items k))),
    )

-- a desk without and with a close
desk_shares : {J : Type 0} (old : Holding J) (d : Vec (Vec Receipt)) (more : ℕ → List Receipt) (slots : ℕ) → IsOf slots old → Grew old.desks.items d.items more
    → IsOf {J = J} slots (record { sessions = old.sessions; lists = old.lists; numbers = old.numbers; desks = d })
    × Gains slots old (record { sessions = old.sessions; lists = old.lists; numbers = old.numbers; desks = d })
    (λ k. record { counts = []; lists = []; numbers = []; desk = more k })
desk_shares {J = J} old d more slots of grew = (
  (of.0, of.1, of.2, grew.0 ∙ of.3),
  λ k below.
      let new : Holding J = record { sessions = old.sessions; lists = old.lists; numbers = old.numbers; desks = d } in
      share_is (share_at new k) (plus (share_at old k) (record { counts = []; lists = []; numbers = []; desk = more k }))
      (sym (append-nil (map (λ (s : Session). s.numbers) (items_at old.sessions.items k))))
      (sym (append-nil (lists_of (items_at old.lists.items k))))
      (sym (append-nil (items_at old.numbers.items k)))
      (at_grew old.desks.items d.items more k grew (omega (arith, below, of.3))),
)

pub gains_freeze : {J : Type 0} (old : Holding J) (d : Vec (Vec Receipt)) (slot : ℕ) (froze : Receipt) (closed : Option Receipt) (slots : ℕ) → closed ≡ None → IsOf slots old
    → Grew old.desks.items d.items (λ k. if_slot slot k froze)
    → IsOf {J = J} slots (record { sessions = old.sessions; lists = old.lists; numbers = old.numbers; desks = d })
    × Gains slots old (record { sessions = old.sessions; lists = old.lists; numbers = old.numbers; desks = d }) (λ k. of_desk slot k froze closed)
gains_freeze {J = J} old d slot froze None slots none of grew = desk_shares old d (λ k. if_slot slot k froze) slots of grew
gains_freeze {J = J} old d slot froze (Some r) slots none of grew = cc

both : (here : Bool) (froze closed : Receipt)
    → (if here then froze ∷ [] else []) ++ (if here then closed ∷ [] else []) ≡ (if here then froze ∷ closed ∷ [] else [])
both true froze closed = refl
both false froze closed = refl

gains_two : {J : Type 0} (old : Holding J) (m d : Vec (Vec Receipt)) (slot : ℕ) (froze closed : Receipt) (slots : ℕ) → IsOf slots old
    → Grew old.desks.items m.items (λ k. if_slot slot k froze) → Grew m.items d.items (λ k. if_slot slot k closed)
    → IsOf {J = J} slots (record { sessions = old.sessions; lists = old.lists; numbers = old.numbers; desks = d })
    × Gains slots old (record { sessions = old.sessions; lists = old.lists; numbers = old.numbers; desks = d }) (λ k. of_desk slot k froze (Some closed))
gains_two {J = J} old m d slot froze closed slots of first second =
    desk_shares old d (λ k. if slot == k then froze ∷ closed ∷ [] else []) slots of (
      second.0 ∙ first.0,
      λ k v below.
          second.1 k v (omega (arith, below, first.0)) ∙ ap (λ (xs : List Receipt). xs ++ if_slot slot k closed) (first.1 k v below)
          ∙ append_assoc (get_or old.desks.items k v).items (if_slot slot k froze) (if_slot slot k closed)
          ∙ ap (λ (xs : List Receipt). (get_or old.desks.items k v).items ++ xs) (both (slot == k) froze closed),
    )

pub gains_close : {J : Type 0} (old : Holding J) (m d : Vec (Vec Receipt)) (slot : ℕ) (froze r : Receipt) (closed : Option Receipt) (slots : ℕ) → closed ≡ Some r → IsOf slots old
    → Grew old.desks.items m.items (λ k. if_slot slot k froze) → Grew m.items d.items (λ k. if_slot slot k r)
    → IsOf {J = J} slots (record { sessions = old.sessions; lists = old.lists; numbers = old.numbers; desks = d })
    × Gains slots old (record { sessions = old.sessions; lists = old.lists; numbers = old.numbers; desks = d }) (λ k. of_desk slot k froze closed)
gains_close {J = J} old m d slot froze r closed slots some of first second =
    subst (λ (o : Option Receipt). IsOf {J = J} slots (record { sessions = old.sessions; lists = old.lists; numbers = old.numbers; desks = d })
    × Gains slots old (record { sessions = old.sessions; lists = old.lists; numbers = old.numbers; desks = d }) (λ k. of_desk slot k froze o))
    (sym some) (gains_two old m d slot froze r slots of first second)

pub ends_by : {E : Type 0} (days : List Day) (slot : ℕ) (r : Result End E) (share : Share) (desk : List Receipt) (lists : List (List Receipt)) (numbers : List ℕ) (counts : List Numbers)
    → counts ≡ share.counts → lists ≡ share.lists → numbers ≡ share.numbers → desk ≡ share.desk
    → IfOk r (EndsWith days slot desk lists numbers counts) → IfOk r (EndsBy days slot share)
ends_by days slot r share desk lists numbers counts same_counts same_lists same_numbers same_desk ends =
    subst (λ (s : Share). IfOk r (λ e. EndsWith days slot s.desk s.lists s.numbers s.counts e))
    (share_is (record { counts = counts; lists = lists; numbers = numbers; desk = desk }) share same_counts same_lists same_numbers same_desk) ends

pub end_more : (days : List Day) (share : ℕ → Share) (n m : ℕ) (ends : List End) (e : End) → EndFrom days share n ends → m ≡ n + length ends
    → EndsBy days (m + 1) (share m) e → EndFrom days share n (ends ++ e ∷ [])
end_more days share n m [] e all is here = let same : m ≡ n = omega (arith, is) in (subst (λ (j : ℕ). EndsBy days (j + 1) (share j) e) same here, tt)
end_more days share n m (x ∷ ends) e all is here = (all.0, end_more days share (n + 1) m ends e all.1 (omega (arith, is)) here)

-- shares that are the same make the same ends
pub end_same : (days : List Day) (f g : ℕ → Share) (n : ℕ) (ends : List End) → ((k : ℕ) → n ≤ k → k < n + length ends → f k ≡ g k)
    → EndFrom days f n ends → EndFrom days g n ends
end_same days f g n [] same all = tt
end_same days f g n (e ∷ ends) same all = (
  subst (λ (s : Share). EndsBy days (n + 1) s e) (same n (omega arith) (omega arith)) all.0,
  end_same days f g (n + 1) ends (λ k low high. same k (omega (arith, low)) (omega (arith, high))) all.1,
)
