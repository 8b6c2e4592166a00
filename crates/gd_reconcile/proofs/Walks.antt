-- A walk along the lists of receipts: one receipt more, and the next list.
use Rattle.std.proofs.Common.{◌≡◌, ℕ, ◌+◌, ◌-◌, ◌<◌, ◌≤◌, ◌⊎◌, inl, inr, List, Bool, true, false, length, get_or, set, slice_get, replicate, Option, Some, None, IfSome, refl, sym, subst, ◌∙◌, ap, arith}
use Rattle.std.proofs.lemmas.Option.{same_Some, slice_get_within, slice_get_read, slice_get_past, slice_get-map}
use Rattle.std.specs.Option.{option_map}
use Rattle.std.specs.Global.{Vec}
use Rattle.std.proofs.lemmas.Bool.{cases_lt, cases_eq}
use Rattle.std.proofs.lemmas.List.{get_or-set_same, get_or-set_other, length-set, get_or-replicate, length-replicate, get_or_past}
use Rattle.gd_machine.specs.declared.event.Event.{Event}
use Rattle.gd_machine.specs.declared.reply.Reply.{Reply}
use Rattle.gd_machine.specs.declared.refusal.Refusal.{Refusal}
use Rattle.gd_machine.specs.History.{History}
use Rattle.gd_office_part.specs.declared.kept.Receipt.{Receipt}
use Rattle.gd_office_part.specs.declared.kept.Told.{Told}
use Rattle.gd_office_part.specs.declared.kept.Told.TheVariants.{Accepted, Refused}
use Rattle.gd_reconcile.specs.Fitting.{lists_of, InOrder, Before, in_list, receipt_at, number_at, length_at, number_in, length_in, event_number, refusal_length}
use Rattle.gd_reconcile.specs.Walking.{StandTo, Stands, StandsNew, MayFollow, Walked, given_after, number_after, length_after}

pub before_more : (a j l i : ℕ) → Before a j l (i + 1) → Before a j l i ⊎ ((a ≡ l) × (j ≡ i))
before_more a j l i (inl lt) = inl (inl lt)
before_more a j l i (inr e) =
    let e0 = e.0 in let e1 = e.1 in
    elim (cases_lt j i) [ inl lt ↦ inl (inr (e0, lt)) | inr le ↦ inr (e0, omega arith) ]

pub before_later : (a j l i : ℕ) → Before a j l i → Before a j l (i + 1)
before_later a j l i (inl lt) = inl lt
before_later a j l i (inr e) = let e1 = e.1 in inr (e.0, omega arith)

pub before_here : (l i : ℕ) → Before l i l (i + 1)
before_here l i = inr (refl, omega arith)

pub before_trans : (a j b k l i : ℕ) → Before a j b k → Before b k l i → Before a j l i
before_trans a j b k l i (inl x) (inl y) = inl (omega arith)
before_trans a j b k l i (inl x) (inr y) = let y0 = y.0 in inl (omega arith)
before_trans a j b k l i (inr x) (inl y) = let x0 = x.0 in inl (omega arith)
before_trans a j b k l i (inr x) (inr y) = let x0 = x.0 in let x1 = x.1 in let y0 = y.0 in let y1 = y.1 in inr (x0 ∙ y0, omega arith)

-- a number is told by an accepted receipt, a length by a refused one
number_from : (t : Told) (n : ℕ) → event_number t ≡ Some n → (reply : Reply) × (t ≡ Accepted n reply)
number_from (Accepted m reply) n e = (reply, ap (λ x. Accepted x reply) (same_Some m n e))
number_from (Refused k refusal) n e = absurd (cc)

pub told_number : (o : Option Receipt) (n : ℕ) → number_in o ≡ Some n → (r : Receipt) × (o ≡ Some r) × ((reply : Reply) × (r.told ≡ Accepted n reply))
told_number None n e = absurd (cc)
told_number (Some r) n e = (r, refl, number_from r.told n e)

length_from : (t : Told) (k : ℕ) → refusal_length t ≡ Some k → (refusal : Refusal) × (t ≡ Refused k refusal)
length_from (Accepted m reply) k e = absurd (cc)
length_from (Refused m refusal) k e = (refusal, ap (λ x. Refused x refusal) (same_Some m k e))

told_length : (o : Option Receipt) (k : ℕ) → length_in o ≡ Some k → (r : Receipt) × (o ≡ Some r) × ((refusal : Refusal) × (r.told ≡ Refused k refusal))
told_length None k e = absurd (cc)
told_length (Some r) k e = (r, refl, length_from r.told k e)

module _ (h : History) (lists : List (List Receipt)) (l i : ℕ) (r : Receipt) (at : receipt_at lists l i ≡ Some r) where
  here : (a j : ℕ) (s : Receipt) → (a ≡ l) × (j ≡ i) → receipt_at lists a j ≡ Some s → s ≡ r
  here a j s e p =
      let e0 = e.0 in let e1 = e.1 in
      let same : receipt_at lists a j ≡ receipt_at lists l i = cc in
      same_Some s r (sym p ∙ same ∙ at)

  pub stand_more : StandTo h lists l i → Stands h r.event r.told
      → ((a j n : ℕ) → Before a j l i → number_at lists a j ≡ Some n → event_number r.told ≡ Some n → ⊥)
      → ((j : ℕ) (s : Receipt) → j < i → receipt_at lists l j ≡ Some s → InOrder s.told r.told)
      → StandTo h lists l (i + 1)
  stand_more was stands fresh follows =
      record {
        alone = λ a j s b p. elim (before_more a j l i b) [
          | inl b' ↦ was.alone a j s b' p
          | inr e ↦ subst (λ (x : Receipt). Stands h x.event x.told) (sym (here a j s e p)) stands
        ];
        once = λ a j b k n first second p q. elim (before_more b k l i second) [
          | inl second' ↦ was.once a j b k n first second' p q
          | inr e ↦
              let e0 = e.0 in let e1 = e.1 in
              let first' : Before a j l i = subst (λ x. Before a j x i) e0 (subst (λ x. Before a j b x) e1 first) in
              let same : number_at lists b k ≡ event_number r.told = ap (λ x. number_at lists x k) e0 ∙ (ap (λ x. number_at lists l x) e1 ∙ ap number_in at) in
              fresh a j n first' p (sym same ∙ q)
        ];
        order = λ a j k s t lt b p q. elim (before_more a k l i b) [
          | inl b' ↦ was.order a j k s t lt b' p q
          | inr e ↦
              let e0 = e.0 in let e1 = e.1 in
              let lt' : j < i = omega arith in
              let p' : receipt_at lists l j ≡ Some s = subst (λ x. receipt_at lists x j ≡ Some s) e0 p in
              subst (λ (x : Receipt). InOrder s.told x.told) (sym (here a k t e q)) (follows j s lt' p')
        ];
      }

  pub stand_alone : StandTo h lists l (i + 1) → Stands h r.event r.told
  stand_alone is = is.alone l i r (before_here l i) at

  pub stand_fresh : StandTo h lists l (i + 1) → (a j n : ℕ) → Before a j l i → number_at lists a j ≡ Some n → event_number r.told ≡ Some n → ⊥
  stand_fresh is a j n b p q = is.once a j l i n b (before_here l i) p (ap number_in at ∙ q)

  pub stand_follows : StandTo h lists l (i + 1) → (j : ℕ) (s : Receipt) → j < i → receipt_at lists l j ≡ Some s → InOrder s.told r.told
  stand_follows is j s lt p = is.order l j i s r lt (before_here l i) p at

-- what stands before an accepted receipt, or before a refused one
below_number : (t : Told) (n : ℕ) (reply : Reply) → ((m : ℕ) → event_number t ≡ Some m → m < n) → ((k : ℕ) → refusal_length t ≡ Some k → k < n) → InOrder t (Accepted n reply)
below_number (Accepted m other) n reply f g = f m refl
below_number (Refused k refusal) n reply f g = g k refl

below_length : (t : Told) (k : ℕ) (refusal : Refusal) → ((m : ℕ) → event_number t ≡ Some m → m ≤ k) → ((x : ℕ) → refusal_length t ≡ Some x → x ≤ k) → InOrder t (Refused k refusal)
below_length (Accepted m other) k refusal f g = f m refl
below_length (Refused x other) k refusal f g = g x refl

fresh_from : (b : Bool) → (b ≡ true → ⊥) → b ≡ false
fresh_from true not = absurd (not refl)
fresh_from false not = refl

set_keeps : (g : List Bool) (i k : ℕ) → i < length g → get_or g k false ≡ true → get_or (set g i true) k false ≡ true
set_keeps g i k lt is =
    elim (cases_eq k i) [
      | inl e ↦ subst (λ x. get_or (set g i true) x false ≡ true) (sym e) (get_or-set_same g i true false lt)
      | inr ne ↦ get_or-set_other g i k true false ne ∙ is
    ]

module _ (h : History) (lists : List (List Receipt)) (l i : ℕ) (g : List Bool) (nu le : ℕ) (r : Receipt) (at : receipt_at lists l i ≡ Some r) (w : Walked h lists l i g nu le) where
  number_below : (n : ℕ) (reply : Reply) → r.told ≡ Accepted n reply → nu < n → le < n → (j : ℕ) (s : Receipt) → j < i → receipt_at lists l j ≡ Some s → InOrder s.told r.told
  number_below n reply e rises above j s lt p =
      subst (InOrder s.told) (sym e) (below_number s.told n reply
      (λ m q. let b : m ≤ nu = w.no_less j m lt (ap number_in p ∙ q) in omega arith)
      (λ k q. let b : k ≤ le = w.no_shorter j k lt (ap length_in p ∙ q) in omega arith))

  length_below : (k : ℕ) (refusal : Refusal) → r.told ≡ Refused k refusal → nu ≤ k → le ≤ k → (j : ℕ) (s : Receipt) → j < i → receipt_at lists l j ≡ Some s → InOrder s.told r.told
  length_below k refusal e above rises j s lt p =
      subst (InOrder s.told) (sym e) (below_length s.told k refusal
      (λ m q. let b : m ≤ nu = w.no_less j m lt (ap number_in p ∙ q) in omega arith)
      (λ x q. let b : x ≤ le = w.no_shorter j x lt (ap length_in p ∙ q) in omega arith))

  accepted_more : (n : ℕ) (reply : Reply) → r.told ≡ Accepted n reply → (nu < n) × (le < n) × StandsNew h g r.event n reply → Walked h lists l (i + 1) (set g (n - 1) true) n le
  accepted_more n reply e may =
      let ok = may.2 in
      let number_here : number_at lists l i ≡ Some n = ap number_in at ∙ ap event_number e in
      let no_length : length_at lists l i ≡ None = ap length_in at ∙ ap refusal_length e in
      let inside : n - 1 < length h = slice_get_within h (n - 1) _ ok.stands in
      let long = w.long in
      let counts = ok.counts in
      let rises = may.0 in
      let within : n - 1 < length g = omega arith in
      record {
        stand = stand_more h lists l i r at w.stand
            (subst (Stands h r.event) (sym e) (ok.counts, ok.stands))
            (λ a j m b p q.
            let mark = w.marked a j m b p in
            let fresh = ok.fresh in
            let same : m ≡ n = same_Some m n (sym q ∙ ap event_number e) in
            absurd (cc))
            (number_below n reply e may.0 may.1);
        long = length-set g (n - 1) true ∙ w.long;
        marked = λ a j m b p. elim (before_more a j l i b) [
          | inl b' ↦ set_keeps g (n - 1) (m - 1) within (w.marked a j m b' p)
          | inr x ↦
              let x0 = x.0 in let x1 = x.1 in
              let same : m ≡ n = same_Some m n (sym p ∙ ap (λ y. number_at lists y j) x0 ∙ ap (λ y. number_at lists l y) x1 ∙ number_here) in
              subst (λ y. get_or (set g (n - 1) true) (y - 1) false ≡ true) (sym same) (get_or-set_same g (n - 1) true false within)
        ];
        given_by = λ m is. elim (cases_eq m (n - 1)) [
          | inl x ↦ (l, i, before_here l i, number_here ∙ ap (λ y. Some y) (omega arith))
          | inr ne ↦ let old = w.given_by m (sym (get_or-set_other g (n - 1) m true false ne) ∙ is) in (old.0, old.1, before_later old.0 old.1 l i old.2, old.3)
        ];
        no_less = λ j m lt p. elim (cases_lt j i) [
          | inl lt' ↦ let b = w.no_less j m lt' p in omega arith
          | inr ge ↦
              let x : j ≡ i = omega arith in
              let same : m ≡ n = same_Some m n (sym p ∙ ap (λ y. number_at lists l y) x ∙ number_here) in
              omega arith
        ];
        number_by = inr (i, omega arith, number_here);
        no_shorter = λ j k lt p. elim (cases_lt j i) [
          | inl lt' ↦ w.no_shorter j k lt' p
          | inr ge ↦
              let x : j ≡ i = omega arith in
              let none : Some k ≡ None = sym p ∙ ap (λ y. length_at lists l y) x ∙ no_length in
              absurd (cc)
        ];
        length_by = elim w.length_by [ inl z ↦ inl z | inr x ↦ let x1 = x.1 in inr (x.0, omega arith, x.2) ];
      }

  refused_more : (k : ℕ) (refusal : Refusal) → r.told ≡ Refused k refusal → (nu ≤ k) × (le ≤ k) × (k ≤ length h) → Walked h lists l (i + 1) g nu k
  refused_more k refusal e ok =
      let no_number : number_at lists l i ≡ None = ap number_in at ∙ ap event_number e in
      let length_here : length_at lists l i ≡ Some k = ap length_in at ∙ ap refusal_length e in
      record {
        stand = stand_more h lists l i r at w.stand
            (subst (Stands h r.event) (sym e) ok.2)
            (λ a j m b p q. let none : Some m ≡ None = sym q ∙ ap event_number e in absurd (cc))
            (length_below k refusal e ok.0 ok.1);
        long = w.long;
        marked = λ a j m b p. elim (before_more a j l i b) [
          | inl b' ↦ w.marked a j m b' p
          | inr x ↦
              let x0 = x.0 in let x1 = x.1 in
              let none : Some m ≡ None = sym p ∙ ap (λ y. number_at lists y j) x0 ∙ ap (λ y. number_at lists l y) x1 ∙ no_number in
              absurd (cc)
        ];
        given_by = λ m is. let old = w.given_by m is in (old.0, old.1, before_later old.0 old.1 l i old.2, old.3);
        no_less = λ j m lt p. elim (cases_lt j i) [
          | inl lt' ↦ w.no_less j m lt' p
          | inr ge ↦
              let x : j ≡ i = omega arith in
              let none : Some m ≡ None = sym p ∙ ap (λ y. number_at lists l y) x ∙ no_number in
              absurd (cc)
        ];
        number_by = elim w.number_by [ inl z ↦ inl z | inr x ↦ let x1 = x.1 in inr (x.0, omega arith, x.2) ];
        no_shorter = λ j m lt p. elim (cases_lt j i) [
          | inl lt' ↦ let b = w.no_shorter j m lt' p in let up = ok.1 in omega arith
          | inr ge ↦
              let x : j ≡ i = omega arith in
              let same : m ≡ k = same_Some m k (sym p ∙ ap (λ y. length_at lists l y) x ∙ length_here) in
              omega arith
        ];
        length_by = inr (i, omega arith, length_here);
      }

  pub walked_more : (t : Told) → r.told ≡ t → MayFollow h g nu le r.event t → Walked h lists l (i + 1) (given_after g t) (number_after nu t) (length_after le t)
  walked_more (Accepted n reply) e ok = accepted_more n reply e ok
  walked_more (Refused k refusal) e ok = refused_more k refusal e ok

  -- a receipt that stands together with those before it may be next
  accepted_less : StandTo h lists l (i + 1) → (n : ℕ) (reply : Reply) → r.told ≡ Accepted n reply → (nu < n) × (le < n) × StandsNew h g r.event n reply
  accepted_less is n reply e =
      let stands : Stands h r.event (Accepted n reply) = subst (Stands h r.event) e (stand_alone h lists l i r at is) in
      let counts : 1 ≤ n = stands.0 in
      let rises : nu < n = elim w.number_by [
        | inl z ↦ omega arith
        | inr x ↦
            let s = told_number (receipt_at lists l x.0) nu x.2 in
            let o : InOrder s.0.told r.told = stand_follows h lists l i r at is x.0 s.0 x.1 s.1 in
            subst (λ (y : Told). InOrder y (Accepted n reply)) s.2.1 (subst (InOrder s.0.told) e o)
      ] in
      let above : le < n = elim w.length_by [
        | inl z ↦ omega arith
        | inr x ↦
            let s = told_length (receipt_at lists l x.0) le x.2 in
            let o : InOrder s.0.told r.told = stand_follows h lists l i r at is x.0 s.0 x.1 s.1 in
            subst (λ (y : Told). InOrder y (Accepted n reply)) s.2.1 (subst (InOrder s.0.told) e o)
      ] in
      let fresh : get_or g (n - 1) false ≡ false = fresh_from (get_or g (n - 1) false) (λ given.
      let old = w.given_by (n - 1) given in
      let same : n - 1 + 1 ≡ n = omega arith in
      stand_fresh h lists l i r at is old.0 old.1 n old.2 (old.3 ∙ ap (λ y. Some y) same) (ap event_number e)) in
      (rises, above, record { counts = stands.0; stands = stands.1; fresh = fresh })

  refused_less : StandTo h lists l (i + 1) → (k : ℕ) (refusal : Refusal) → r.told ≡ Refused k refusal → (nu ≤ k) × (le ≤ k) × (k ≤ length h)
  refused_less is k refusal e =
      let stands : Stands h r.event (Refused k refusal) = subst (Stands h r.event) e (stand_alone h lists l i r at is) in
      let above : nu ≤ k = elim w.number_by [
        | inl z ↦ omega arith
        | inr x ↦
            let s = told_number (receipt_at lists l x.0) nu x.2 in
            let o : InOrder s.0.told r.told = stand_follows h lists l i r at is x.0 s.0 x.1 s.1 in
            subst (λ (y : Told). InOrder y (Refused k refusal)) s.2.1 (subst (InOrder s.0.told) e o)
      ] in
      let rises : le ≤ k = elim w.length_by [
        | inl z ↦ omega arith
        | inr x ↦
            let s = told_length (receipt_at lists l x.0) le x.2 in
            let o : InOrder s.0.told r.told = stand_follows h lists l i r at is x.0 s.0 x.1 s.1 in
            subst (λ (y : Told). InOrder y (Refused k refusal)) s.2.1 (subst (InOrder s.0.told) e o)
      ] in
      (above, rises, stands)

  pub walked_less : StandTo h lists l (i + 1) → (t : Told) → r.told ≡ t → MayFollow h g nu le r.event t
  walked_less is (Accepted n reply) e = accepted_less is n reply e
  walked_less is (Refused k refusal) e = refused_less is k refusal e

-- all of list l is walked
module _ (h : History) (lists : List (List Receipt)) (l i : ℕ) (g : List Bool) (nu le : ℕ) (w : Walked h lists l i g nu le) (end : (j : ℕ) → i ≤ j → receipt_at lists l j ≡ None) where
  within : (a j : ℕ) (s : Receipt) → Before a j (l + 1) 0 → receipt_at lists a j ≡ Some s → Before a j l i
  within a j s (inr x) p = let x1 = x.1 in absurd (omega arith)
  within a j s (inl x) p =
      elim (cases_lt a l) [
        | inl lt ↦ inl lt
        | inr ge ↦
            let e : a ≡ l = omega arith in
            elim (cases_lt j i) [
              | inl lt ↦ inr (e, lt)
              | inr past ↦
                  let none : Some s ≡ None = sym p ∙ ap (λ y. receipt_at lists y j) e ∙ end j past in
                  absurd (cc)
            ]
      ]

  number_within : (a j n : ℕ) → Before a j (l + 1) 0 → number_at lists a j ≡ Some n → Before a j l i
  number_within a j n b p = let s = told_number (receipt_at lists a j) n p in within a j s.0 b s.1

  whole : (a j : ℕ) → Before a j l i → Before a j (l + 1) 0
  whole a j (inl lt) = inl (omega arith)
  whole a j (inr e) = let e0 = e.0 in inl (omega arith)

  stand_next : StandTo h lists (l + 1) 0
  stand_next = record {
    alone = λ a j s b p. w.stand.alone a j s (within a j s b p) p;
    once = λ a j b k n first second p q. w.stand.once a j b k n first (number_within b k n second q) p q;
    order = λ a j k s t lt b p q. w.stand.order a j k s t lt (within a k t b q) p q;
  }

  pub walked_next : Walked h lists (l + 1) 0 g 0 0
  walked_next = record {
    stand = stand_next;
    long = w.long;
    marked = λ a j n b p. w.marked a j n (number_within a j n b p) p;
    given_by = λ m is. let old = w.given_by m is in (old.0, old.1, whole old.0 old.1 old.2, old.3);
    no_less = λ j n lt p. absurd (omega arith);
    number_by = inl refl;
    no_shorter = λ j k lt p. absurd (omega arith);
    length_by = inl refl;
  }

no_start : (a j : ℕ) → Before a j 0 0 → ⊥
no_start a j (inl x) = omega arith
no_start a j (inr x) = let x1 = x.1 in omega arith

none_given : (n m : ℕ) → get_or (replicate n false) m false ≡ true → ⊥
none_given n m is =
    elim (cases_lt m n) [
      | inl lt ↦ let e = get_or-replicate n m false false lt in absurd (cc)
      | inr ge ↦ let e : get_or (replicate n false) m false ≡ false = get_or_past (replicate n false) m false (rw (length-replicate n false) ge) in absurd (cc)
    ]

-- before the first list
pub walked_none : (h : History) (lists : List (List Receipt)) → Walked h lists 0 0 (replicate (length h) false) 0 0
walked_none h lists = record {
  stand = record {
    alone = λ a j s b p. absurd (no_start a j b);
    once = λ a j b k n first second p q. no_start b k second;
    order = λ a j k s t lt b p q. absurd (no_start a k b);
  };
  long = length-replicate (length h) false;
  marked = λ a j n b p. absurd (no_start a j b);
  given_by = λ m is. absurd (none_given (length h) m is);
  no_less = λ j n lt p. absurd (omega arith);
  number_by = inl refl;
  no_shorter = λ j k lt p. absurd (omega arith);
  length_by = inl refl;
}

-- the list at a place
list_at : (lists : List (Vec Receipt)) (l : ℕ) (v : Vec Receipt) → l < length lists → v ≡ get_or lists l v → slice_get (lists_of lists) l ≡ Some v.items
list_at lists l v within is = slice_get-map (λ (x : Vec Receipt). x.items) lists l ∙ ap (option_map (λ (x : Vec Receipt). x.items)) (slice_get_read lists _ l v refl within is)

-- what indexing twice gives
pub read_at : (lists : List (Vec Receipt)) (l i : ℕ) (v : Vec Receipt) (r : Receipt) → l < length lists → v ≡ get_or lists l v → i < length v.items → r ≡ get_or v.items i r → receipt_at (lists_of lists) l i ≡ Some r
read_at lists l i v r within is inside at =
    ap (in_list i) (list_at lists l v within is) ∙ slice_get_read v.items _ i r refl inside at

pub past_at : (lists : List (Vec Receipt)) (l i : ℕ) (v : Vec Receipt) → l < length lists → v ≡ get_or lists l v → length v.items ≤ i → (j : ℕ) → i ≤ j → receipt_at (lists_of lists) l j ≡ None
past_at lists l i v within is past j le =
    ap (in_list j) (list_at lists l v within is) ∙ slice_get_past v.items j (omega arith)

in_lists : (lists : List (List Receipt)) (l i : ℕ) (r : Receipt) (o : Option (List Receipt)) → slice_get lists l ≡ o → in_list i o ≡ Some r → l < length lists
in_lists lists l i r None e at = absurd (cc)
in_lists lists l i r (Some list) e at = slice_get_within lists l list e

-- a receipt stands in one of the lists
pub list_within : (lists : List (List Receipt)) (l i : ℕ) (r : Receipt) → receipt_at lists l i ≡ Some r → l < length lists
list_within lists l i r at = in_lists lists l i r (slice_get lists l) refl at

-- what is before a place of a receipt is before the end
pub before_end : (n a j l i : ℕ) → l < n → Before a j l i → Before a j n 0
before_end n a j l i lt (inl x) = inl (omega arith)
before_end n a j l i lt (inr x) = let x0 = x.0 in inl (omega arith)

-- the number of a receipt that may follow has its mark
pub may_mark : (h : History) (g : List Bool) (nu le : ℕ) (event : Event) (t : Told) → length g ≡ length h → MayFollow h g nu le event t → IfSome (event_number t) (λ n. (1 ≤ n) × (n - 1 < length g))
may_mark h g nu le event (Accepted n reply) long may =
    let inside : n - 1 < length h = slice_get_within h (n - 1) _ may.2.stands in
    (may.2.counts, omega (arith, long, inside))
may_mark h g nu le event (Refused k refusal) long may = tt
