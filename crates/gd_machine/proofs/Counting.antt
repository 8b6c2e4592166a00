-- As a day goes on its cycle number, its nominations and the lines that count grow.
use Rattle.std.proofs.Common.{◌≡◌, ℕ, zero, suc, ◌+◌, ◌<◌, ◌≤◌, Bool, true, false, nat_le, List, [], ◌∷◌, ◌++◌, length, take, get_or, All, refl, sym, subst, ap, ◌∙◌, arith, cond, append_assoc}
use Rattle.std.specs.Prelude.{if◌then◌else◌, fold}
use Rattle.std.specs.List.{count_by, filter_map, list_any}
use Rattle.std.proofs.lemmas.Bool.{leb-true, le-leb}
use Rattle.std.proofs.lemmas.List.{length-append, append-nil}
use Rattle.std.proofs.lemmas.List.Sums.{sum_by-append, fold-append}
use Rattle.std.proofs.lemmas.List.Elements.{filter-append}
use Rattle.gd_lines.proofs.NextNomination.{filter_all, filter_yes, filter_no}
use Rattle.gd_rules.specs.Lines.{Key, Nomination, until, lines_of, entered, same_key}
use Rattle.gd_machine.specs.declared.event.Event.{Event}
use Rattle.gd_machine.specs.declared.event.Event.TheVariants.{Nominate}
use Rattle.gd_machine.specs.declared.reply.Reply.{Reply}
use Rattle.gd_machine.specs.declared.reply.Reply.TheVariants.{Accepted}
use Rattle.gd_machine.specs.Day.{Day}
use Rattle.gd_machine.specs.History.{History, ends_cycle, is_freeze, cycle_of, round_of, stamp_of}
use Rattle.gd_machine.specs.Asking.{nomination_of, nominations, class_in, line_count}
use Rattle.gd_machine.specs.Machine.{IsAccepted, IsLegal}
use Rattle.gd_machine.proofs.Nominations.{nominations_more, is_nominated, Rising, prefix_rising}
use Rattle.gd_machine.proofs.Prefixes.{after_each}
use Rattle.gd_lines.specs.Numbering.{nomination}

pub count_more : {X : Type 0} (f : X → Bool) (xs : List X) (x : X) → count_by f (xs ++ x ∷ []) ≡ count_by f xs + cond (f x) 1 0
count_more f xs x = sum_by-append (λ y. cond (f y) 1 0) xs (x ∷ []) ∙ ap (λ n. count_by f xs + n) (alone (cond (f x) 1 0))
  where
    alone : (n : ℕ) → 0 + n ≡ n
    alone n = omega arith

pub cycle_more : (h : History) (p : Event × Reply) → cycle_of (h ++ p ∷ []) ≡ cycle_of h + cond (ends_cycle p.0) 1 0
cycle_more h p = let more = count_more (λ q. ends_cycle q.0) h p in omega (arith, more)

pub round_more : (h : History) (p : Event × Reply) → round_of (h ++ p ∷ []) ≡ round_of h + cond (is_freeze p.0) 1 0
round_more h p = count_more (λ q. is_freeze q.0) h p

-- ---- lines

entered_grows : (keys : List Key) (key : Key) → length keys ≤ length (entered keys key)
entered_grows keys key = go (list_any (same_key key) keys)
  where
    go : (b : Bool) → length keys ≤ length (if b then keys else keys ++ key ∷ [])
    go true = omega arith
    go false = let more = length-append keys (key ∷ []) in omega (arith, more)

fold_grows : (ns : List Nomination) (keys : List Key) → length keys ≤ length (fold (λ ks n. entered ks n.key) keys ns)
fold_grows [] keys = omega arith
fold_grows (n ∷ ns) keys = let one = entered_grows keys n.key in let rest = fold_grows ns (entered keys n.key) in omega (arith, one, rest)

-- further nominations take away no line
pub lines_grow : (ns more : List Nomination) → length (lines_of ns) ≤ length (lines_of (ns ++ more))
lines_grow ns more = subst (λ keys. length (lines_of ns) ≤ length keys) (sym (fold-append (λ ks n. entered ks n.key) [] ns more)) (fold_grows more (lines_of ns))

-- ---- nominations up to a cycle come first

-- the nominations up to each cycle come before the others
abbrev pub Splits : List Nomination → Type 0
Splits ns = (c : ℕ) → (rest : List Nomination) × (ns ≡ until c ns ++ rest)

-- all of these are for cycles up to c
until_all : (c : ℕ) (ns : List Nomination) → All (λ n. n.cycle ≤ c) ns → until c ns ≡ ns
until_all c ns all = filter_all (λ n. nat_le n.cycle c) ns (λ i d k. le-leb _ c (all i d k))

pub until_within : (c : ℕ) (ns : List Nomination) → All (λ n. n.cycle ≤ c) (until c ns)
until_within c [] = λ i d k. absurd (omega (arith, k))
until_within c (n ∷ ns) = go (nat_le n.cycle c) refl (until_within c ns)
  where
    go : (b : Bool) → nat_le n.cycle c ≡ b → All (λ m. m.cycle ≤ c) (until c ns) → All (λ m. m.cycle ≤ c) (cond b (n ∷ until c ns) (until c ns))
    go true e rest = λ i d k. one i d k
      where
        one : (i : ℕ) (d : Nomination) → i < length (n ∷ until c ns) → (get_or (n ∷ until c ns) i d).cycle ≤ c
        one zero d k = leb-true n.cycle c e
        one (suc i) d k = rest i d (omega (arith, k))
    go false e rest = rest

-- one nomination more, for no earlier cycle than the others
splits_push : (ns : List Nomination) (n : Nomination) → All (λ m. m.cycle ≤ n.cycle) ns → Splits ns → Splits (ns ++ n ∷ [])
splits_push ns n last before c = go (nat_le n.cycle c) refl
  where
    go : (b : Bool) → nat_le n.cycle c ≡ b → (rest : List Nomination) × (ns ++ n ∷ [] ≡ until c (ns ++ n ∷ []) ++ rest)
    go true e =
        let within : n.cycle ≤ c = leb-true n.cycle c e in
        let all = until_all c ns (λ i d k. let m = last i d k in omega (arith, m, within)) in
        let more : until c (ns ++ n ∷ []) ≡ ns ++ n ∷ [] = filter_yes (λ m. nat_le m.cycle c) ns n e ∙ ap (λ l. l ++ n ∷ []) all in
        ([], sym more ∙ sym (append-nil (until c (ns ++ n ∷ []))))
    go false e =
        let more : until c (ns ++ n ∷ []) ≡ until c ns = filter_no (λ m. nat_le m.cycle c) ns n e in
        ((before c).0 ++ n ∷ [], ap (λ l. l ++ n ∷ []) (before c).1 ∙ append_assoc (until c ns) (before c).0 (n ∷ []) ∙ ap (λ l. l ++ ((before c).0 ++ n ∷ [])) (sym more))

-- ---- what counts grows

-- the nominations of a former cycle come first among those of a later one, whatever is nominated then
pub until_grows : (ns more : List Nomination) (c later : ℕ) → Splits ns → c ≤ later → (rest : List Nomination) × (until later (ns ++ more) ≡ until c ns ++ rest)
until_grows ns more c later splits on =
    let rest = (splits c).0 in
    let whole : ns ++ more ≡ until c ns ++ (rest ++ more) = ap (λ l. l ++ more) (splits c).1 ∙ append_assoc (until c ns) rest more in
    let first : until later (until c ns) ≡ until c ns = until_all later (until c ns) (λ i d k. let w = until_within c ns i d k in omega (arith, w, on)) in
    (until later (rest ++ more), ap (until later) whole ∙ filter-append (λ n. nat_le n.cycle later) (until c ns) (rest ++ more) ∙ ap (λ l. l ++ until later (rest ++ more)) first)

pub count_grows : (ns more : List Nomination) (c later : ℕ) → Splits ns → c ≤ later → length (lines_of (until c ns)) ≤ length (lines_of (until later (ns ++ more)))
count_grows ns more c later splits on =
    let grown = until_grows ns more c later splits on in
    subst (λ l. length (lines_of (until c ns)) ≤ length (lines_of l)) (sym grown.1) (lines_grow (until c ns) grown.0)

-- ---- of a legal history

module _ (day : Day) where
  splits_one : (h : History) (p : Event × Reply) → IsAccepted day h p → Rising day h → Splits (nominations day h) → Splits (nominations day h ++ filter_map (nomination_of day) (p ∷ []))
  splits_one h (Nominate moment party key quantity, Accepted number cycle line) accepted rising before =
      let n = is_nominated day h moment party key quantity number cycle line accepted in
      splits_push (nominations day h) (nomination key cycle (class_in day key) quantity) (rising (stamp_of h (Nominate moment party key quantity)) cycle (omega arith) n.at) before
  splits_one h p accepted rising before = subst Splits (sym (append-nil (nominations day h))) before

  pub prefix_split : (h : History) → IsLegal day h → (n : ℕ) → Splits (nominations day (take n h))
  prefix_split h legal =
      after_each day h legal (λ g. Splits (nominations day g)) (λ c. ([], refl))
      (λ k p at accepted before. subst Splits (sym (nominations_more day (take k h) p)) (splits_one (take k h) p accepted (prefix_rising day h legal k) before))

  -- one event more takes away no line of the question
  pub line_count_grows : (h : History) → Splits (nominations day h) → (p : Event × Reply) → line_count day h ≤ line_count day (h ++ p ∷ [])
  line_count_grows h splits p =
      let on : cycle_of h ≤ cycle_of (h ++ p ∷ []) = (let more = cycle_more h p in omega (arith, more)) in
      subst (λ ns. line_count day h ≤ length (lines_of (until (cycle_of (h ++ p ∷ [])) ns))) (sym (nominations_more day h p))
      (count_grows (nominations day h) (filter_map (nomination_of day) (p ∷ [])) (cycle_of h) (cycle_of (h ++ p ∷ [])) splits on)
