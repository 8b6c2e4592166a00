-- The line of an accepted nomination is entered by its number.
use Rattle.std.proofs.Common.{◌≡◌, ◌⊎◌, inl, inr, ℕ, suc, ◌+◌, ◌<◌, ◌≤◌, Bool, true, false, not, nat_lt, cond, List, [], ◌∷◌, ◌++◌, length, take, get_or, refl, sym, subst, ap, ◌∙◌, arith}
use Rattle.std.specs.Prelude.{◌==◌, if◌then◌else◌, Some, None, is_some, slice_get}
use Rattle.std.specs.List.{filter_map, list_any, position_or_len}
use Rattle.std.proofs.lemmas.Bool.{ltb-true, ltb-false, eq-eqb, ne_eqb}
use Rattle.std.proofs.lemmas.List.{append-nil, take_all}
use Rattle.std.proofs.lemmas.Option.{slice_get_cases, get_or_from_slice_get}
use Rattle.gd_machine.proofs.Times.{taken}
use Rattle.std.proofs.lemmas.List.Sums.{prefix_len-le-length}
use Rattle.gd_rules.specs.Lines.{Key, entered, lines_of, same_key}
use Rattle.gd_lines.proofs.NextNomination.{lines_push}
use Rattle.gd_lines.specs.Numbering.{nomination}
use Rattle.gd_system.proofs.Positions.{is_some-position}
use Rattle.gd_machine.specs.declared.event.Event.{Event}
use Rattle.gd_machine.specs.declared.event.Event.TheVariants.{Nominate, Respond, PostCapacity, Freeze, Publish, Declare, Waive, Skip}
use Rattle.gd_machine.specs.declared.reply.Reply.{Reply}
use Rattle.gd_machine.specs.declared.reply.Reply.TheVariants.{Accepted}
use Rattle.gd_machine.specs.Day.{Day}
use Rattle.gd_machine.specs.History.{History}
use Rattle.gd_machine.specs.Asking.{class_in, nomination_of, nominations}
use Rattle.gd_machine.specs.Machine.{IsAccepted, IsLegal}
use Rattle.gd_machine.proofs.Nominations.{nominations_more}

entered_at : (keys : List Key) (key : Key) (line : ℕ) → line ≡ position_or_len (same_key key) keys → (if line == length keys then keys ++ key ∷ [] else keys) ≡ entered keys key
entered_at keys key line at =
    let most : position_or_len (same_key key) keys ≤ length keys = prefix_len-le-length (λ x. not (same_key key x)) keys in
    go (nat_lt (position_or_len (same_key key) keys) (length keys)) refl most (is_some-position (same_key key) keys)
  where
    go : (b : Bool) → nat_lt (position_or_len (same_key key) keys) (length keys) ≡ b → position_or_len (same_key key) keys ≤ length keys → is_some (cond b (Some (position_or_len (same_key key) keys)) None) ≡ list_any (same_key key) keys
        → (if line == length keys then keys ++ key ∷ [] else keys) ≡ entered keys key
    go true e most any =
        let below : line < length keys = (let k = ltb-true (position_or_len (same_key key) keys) (length keys) e in omega (arith, k, at)) in
        let apart : (line == length keys) ≡ false = ne_eqb line (length keys) (λ q. omega (arith, q, below)) in
        ap (λ b. if b then keys ++ key ∷ [] else keys) apart ∙ sym (ap (λ b. if b then keys else keys ++ key ∷ []) (sym any))
    go false e most any =
        let above = ltb-false (position_or_len (same_key key) keys) (length keys) e in
        let same : (line == length keys) ≡ true = eq-eqb line (length keys) (omega (arith, above, most, at)) in
        ap (λ b. if b then keys ++ key ∷ [] else keys) same ∙ sym (ap (λ b. if b then keys else keys ++ key ∷ []) (sym any))

abbrev line_told : Reply → ℕ
line_told (Accepted number cycle line) = line
line_told reply = 0

-- the lines behind an accepted nomination
pub lines_on : (day : Day) (h : History) (keys : List Key) (moment : ℕ) (party : List ℕ) (key : Key) (quantity number cycle line : ℕ) → keys ≡ lines_of (nominations day h) → IsAccepted day h (Nominate moment party key quantity, Accepted number cycle line)
    → (if line == length keys then keys ++ key ∷ [] else keys) ≡ lines_of (nominations day (h ++ (Nominate moment party key quantity, Accepted number cycle line) ∷ []))
lines_on day h keys moment party key quantity number cycle line is accepted =
    let p : Event × Reply = (Nominate moment party key quantity, Accepted number cycle line) in
    let at : line ≡ position_or_len (same_key key) keys = ap line_told accepted.1 ∙ ap (λ ks. position_or_len (same_key key) ks) (sym is) in
    entered_at keys key line at ∙ ap (λ ks. entered ks key) is ∙ sym (lines_push (nominations day h) (nomination key cycle (class_in day key) quantity)) ∙ sym (ap lines_of (nominations_more day h p))

no_nomination : (day : Day) (p : Event × Reply) → nomination_of day p ≡ None → filter_map (nomination_of day) (p ∷ []) ≡ []
no_nomination day p none = rw none refl

-- the lines behind any other event
pub lines_stay : (day : Day) (h : History) (p : Event × Reply) → nomination_of day p ≡ None → lines_of (nominations day (h ++ p ∷ [])) ≡ lines_of (nominations day h)
lines_stay day h p none =
    ap lines_of (nominations_more day h p ∙ ap (λ ns. nominations day h ++ ns) (no_nomination day p none) ∙ append-nil (nominations day h))

pub lines_by : (day : Day) (h : History) (keys : List Key) (event : Event) (reply : Reply) (moment : ℕ) (party : List ℕ) (key : Key) (quantity number cycle line : ℕ) → event ≡ Nominate moment party key quantity → reply ≡ Accepted number cycle line → keys ≡ lines_of (nominations day h)
    → IsAccepted day h (event, reply) → (if line == length keys then keys ++ key ∷ [] else keys) ≡ lines_of (nominations day (h ++ (event, reply) ∷ []))
lines_by day h keys event reply moment party key quantity number cycle line made told is =
    subst (λ e. IsAccepted day h (e, reply) → (if line == length keys then keys ++ key ∷ [] else keys) ≡ lines_of (nominations day (h ++ (e, reply) ∷ []))) (sym made)
    (subst (λ r. IsAccepted day h (Nominate moment party key quantity, r) → (if line == length keys then keys ++ key ∷ [] else keys) ≡ lines_of (nominations day (h ++ (Nominate moment party key quantity, r) ∷ []))) (sym told)
    (lines_on day h keys moment party key quantity number cycle line is))

-- the element of a place inside
pub slice_get_of : {X : Type 0} (xs : List X) (i : ℕ) (x : X) → i < length xs → x ≡ get_or xs i x → slice_get xs i ≡ Some x
slice_get_of {X} xs i x low is = go (slice_get_cases xs i).1
  where
    go : ((y : X) × (i < length xs) × (slice_get xs i ≡ Some y) × (get_or xs i y ≡ y)) ⊎ ((length xs ≤ i) × (slice_get xs i ≡ None)) → slice_get xs i ≡ Some x
    go (inl q) = q.2 ∙ ap Some (sym (get_or_from_slice_get xs i q.0 x q.2) ∙ sym is)
    go (inr q) = absurd (let far = q.0 in omega (arith, far, low))

-- the lines behind one event more of a history
pub lines_then : (day : Day) (h : History) → IsLegal day h → (at : ℕ) (p : Event × Reply) (keys after : List Key) → at < length h → p ≡ get_or h at p → keys ≡ lines_of (nominations day (take at h))
    → ((day : Day) (h : History) → keys ≡ lines_of (nominations day h) → IsAccepted day h p → after ≡ lines_of (nominations day (h ++ p ∷ []))) → after ≡ lines_of (nominations day (take (at + 1) h))
lines_then day h legal at p keys after low is so_far entered =
    let there : slice_get h at ≡ Some p = slice_get_of h at p low is in
    let next : suc at ≡ at + 1 = omega arith in
    entered day (take at h) so_far (legal at p there) ∙ ap (λ (t : History). lines_of (nominations day t)) (sym (taken h at p there) ∙ ap (λ n. take n h) next)

pub lines_all : (day : Day) (h : History) (at : ℕ) (keys : List Key) → length h ≤ at → keys ≡ lines_of (nominations day (take at h)) → keys ≡ lines_of (nominations day h)
lines_all day h at keys past is = is ∙ ap (λ (t : History). lines_of (nominations day t)) (take_all at h past)

-- the lines behind an event that is no nomination
pub others_stay : (day : Day) (h : History) (event : Event) (reply : Reply) → ((moment : ℕ) (party : List ℕ) (key : Key) (quantity : ℕ) → event ≡ Nominate moment party key quantity → ⊥) → lines_of (nominations day (h ++ (event, reply) ∷ [])) ≡ lines_of (nominations day h)
others_stay day h (Nominate moment party key quantity) reply other = absurd (other moment party key quantity refl)
others_stay day h (Respond moment party line end quantity) reply other = lines_stay day h (Respond moment party line end quantity, reply) refl
others_stay day h (PostCapacity moment element capacity) reply other = lines_stay day h (PostCapacity moment element capacity, reply) refl
others_stay day h (Freeze moment) reply other = lines_stay day h (Freeze moment, reply) refl
others_stay day h (Publish moment certificate) reply other = lines_stay day h (Publish moment certificate, reply) refl
others_stay day h (Declare moment round cut) reply other = lines_stay day h (Declare moment round cut, reply) refl
others_stay day h (Waive moment line) reply other = lines_stay day h (Waive moment line, reply) refl
others_stay day h (Skip moment) reply other = lines_stay day h (Skip moment, reply) refl
