-- What the row of a line does.
use Rattle.std.specs.Prelude.{OnOk}
use Rattle.std.proofs.Common.{◌≡◌, ◌≢◌, ◌+◌, inl, inr, ℕ, List, [], ◌∷◌, ◌++◌, None, Result, Ok, Err, refl, sym, ap, subst, ◌∙◌, append-nil, length, arith}
use Rattle.gd_text_part.specs.Findings.{Finds}
use Rattle.gd_text_part.specs.declared.fault.RowFault.{RowFault}
use Rattle.gd_text_part.specs.declared.fault.TextFault.{TextFault}
use Rattle.gd_text_part.specs.declared.fault.TextFault.TheVariants as fault
use Rattle.gd_replies.specs.declared.reply.Reply.{Reply}
use Rattle.gd_replies.specs.declared.reply.Reply.TheVariants as reply
use Rattle.gd_text.specs.Building.{row_fault}
use Rattle.gd_serving.specs.Yields.{Yield, Adds}
use Rattle.gd_text_part.specs.declared.order.Place.{Place}
use Rattle.gd_text_part.specs.declared.row.EventRow.{EventRow}
use Rattle.gd_text_part.specs.declared.row.EventRow.TheVariants as event
use Rattle.gd_text_part.specs.declared.row.Row.{Row}
use Rattle.gd_text_part.specs.declared.row.Row.TheVariants as row
use Rattle.gd_system.specs.Pipeline.{Pipeline}
use Rattle.gd_day.specs.Calls.{event_of}
use Rattle.gd_day.specs.Groups.{checked_group}
use Rattle.gd_live.specs.Stands.{Stand, Group, with_line}
use Rattle.gd_live.specs.Lines.{IsRow, HasRoom, IsConclusion, IsMade, IsSettle, IsFaulty, RowDoes, BareGives, numbered, waits, cleared, only_told}

-- what is told of a row is told
abbrev pub Told : {X E : Type 0} → Result X E → Stand → List ℕ → Stand → Yield → Yield → Type 0
Told r s line after old new = OnOk r ((more : Yield) × RowDoes s line after more × Adds old new more)

pub refused : {X E : Type 0} (r : Result X E) (s after : Stand) (line : List ℕ) (old new : Yield) (told : Reply) → IsFaulty s line told → OnOk r (after ≡ cleared s)
    → OnOk r (Adds old new (only_told (told ∷ []))) → Told r s line after old new
refused (Ok x) s after line old new told why same adds = (only_told (told ∷ []), inl (told, why, same, refl), adds)
refused (Err e) s after line old new told why same adds = tt

pub refused_as : {X E : Type 0} (r : Result X E) (s after : Stand) (line : List ℕ) (old new : Yield) (f : TextFault) → (f ≢ fault.OutOfMemory → IsFaulty s line (reply.Fault f))
    → OnOk r (f ≢ fault.OutOfMemory) → OnOk r (after ≡ cleared s) → OnOk r (Adds old new (only_told (reply.Fault f ∷ []))) → Told r s line after old new
refused_as (Ok x) s after line old new f why some same adds = (only_told (reply.Fault f ∷ []), inl (reply.Fault f, why some, same, refl), adds)
refused_as (Err e) s after line old new f why some same adds = tt

pub as_it_came : {X E : Type 0} (r : Result X E) (s after : Stand) (line : List ℕ) (e : EventRow) (place : Place) (old new : Yield) → IsRow s line (row.Event e) place
    → HasRoom s.room s.group line → OnOk r ((more : Yield) × IsMade s s.group line e after more × Adds old new more) → OnOk r (IsSettle e → after.history ≡ s.history)
    → Told r s line after old new
as_it_came (Ok x) s after line e place old new is room made settle =
    (made.0, inr (inr (row.Event e, place, e, is, room, refl, inl (made.1, settle))), made.2)
as_it_came (Err f) s after line e place old new is room made settle = tt

pub as_it_came_on : {X E : Type 0} (r : Result X E) (s t after : Stand) (line : List ℕ) (e : EventRow) (place : Place) (old kept new : Yield) → t ≡ s → kept ≡ old → IsRow s line (row.Event e) place
    → HasRoom s.room s.group line → OnOk r ((more : Yield) × IsMade t t.group line e after more × Adds kept new more) → OnOk r (IsSettle e → after.history ≡ t.history)
    → Told r s line after old new
as_it_came_on r s t after line e place old kept new same is_kept is room made settle =
    as_it_came r s after line e place old new is room
    (subst (λ (x : Stand). OnOk r ((more : Yield) × IsMade x x.group line e after more × Adds old new more)) same
    (subst (λ (y : Yield). OnOk r ((more : Yield) × IsMade t t.group line e after more × Adds y new more)) is_kept made))
    (subst (λ (x : Stand). OnOk r (IsSettle e → after.history ≡ x.history)) same settle)

pub settled : (s after : Stand) (line : List ℕ) (moment : ℕ) (place : Place) (g : Group) (last : List ℕ) (e : EventRow) (old new : Yield)
    → IsRow s line (row.Event (event.Settle moment)) place → HasRoom s.room s.group line → IsConclusion s.day s.history moment g last e
    → (more : Yield) × IsMade s g last e after more × Adds old new more → after.history ≢ s.history → (more : Yield) × RowDoes s line after more × Adds old new more
settled s after line moment place g last e old new is room conclusion made grew =
    (made.0, inr (inr (row.Event (event.Settle moment), place, event.Settle moment, is, room, refl, inr (moment, refl, (g, last, e, conclusion, made.1, grew)))), made.2)

pub no_more : (y : Yield) → Adds y y (only_told [])
no_more y = record { rows = sym (append-nil y.rows); replies = sym (append-nil y.replies); told = sym (append-nil y.told) }

pub joined : {X E : Type 0} (r : Result X E) (s after : Stand) (h : Group) (line : List ℕ) (x : Row) (place : Place) (y : Yield) → IsRow s line x place → HasRoom s.room s.group line → event_of x ≡ None
    → after ≡ waits s h → OnOk r (h ≡ record { place = place; rows = s.group.rows ++ x ∷ []; bytes = with_line s.group line }) → Told r s line after y y
joined (Ok v) s after h line x place y is room other same grew =
    (only_told [], inr (inl (x, place, is, room, other, same ∙ ap (waits s) grew, refl)), no_more y)
joined (Err e) s after h line x place y is room other same grew = tt

pub always : {X E P : Type 0} (r : Result X E) → P → OnOk r P
always (Ok x) p = p
always (Err e) p = tt

-- a fault that was found, other than want of memory, is the row's
pub found : {A : Type 0} (f : TextFault) (there : Result A RowFault) → f ≢ fault.OutOfMemory → Finds (Err f) there → (it : RowFault) × (there ≡ Err it) × (reply.Fault f ≡ reply.Fault (row_fault it))
found (fault.Row n c) there some is = (record { row = n; cause = c }, is, refl)
found fault.OutOfMemory there some is = absurd (some refl)
found fault.ReadFailed there some is = absurd is
found fault.TooLong there some is = absurd is

pub is_none : (xs : List ℕ) → length xs ≡ 0 → xs ≡ []
is_none [] e = refl
is_none (x ∷ xs) e = absurd (omega (arith, e))

pub is_some_line : (xs : List ℕ) → length xs ≢ 0 → xs ≢ []
is_some_line [] some = λ e. some refl
is_some_line (x ∷ xs) some = λ e. let bad : x ∷ xs ≡ [] = e in some (ap length bad)

-- what a row did is what its line does
pub row_taken : {X E : Type 0} (r : Result X E) (s : Stand) (n : ℕ) (after : Stand) (line : List ℕ) (old new : Yield) → length line ≢ 0 → n ≡ s.number + 1
    → OnOk r ((more : Yield) × RowDoes (numbered s n) line after more × Adds old new more) → OnOk r ((more : Yield) × BareGives s line after more × Adds old new more)
row_taken (Ok x) s n after line old new some next (more, does, adds) =
    (more, inr (is_some_line line some, subst (λ m. RowDoes (numbered s m) line after more) next does), adds)
row_taken (Err e) s n after line old new some next does = tt

-- the same group of the same call is found faulty so
pub checked_as : (p q : Pipeline) (m n : ℕ) (xs ys : List Row) (f : TextFault) → p ≡ q → m ≡ n → xs ≡ ys → checked_group p m xs ≡ Err f → checked_group q n ys ≡ Err f
checked_as p q m n xs ys f a b e is =
    subst (λ (v : Pipeline). checked_group v n ys ≡ Err f) a
    (subst (λ v. checked_group p v ys ≡ Err f) b (subst (λ (v : List Row). checked_group p m v ≡ Err f) e is))
