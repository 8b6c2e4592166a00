-- Rows that are good at one number are so at every other.
use Rattle.std.proofs.Common.{◌≡◌, ℕ, ◌+◌, Bool, true, false, List, [], ◌∷◌, Ok, refl, ap, sym, ◌∙◌, inl, inr}
use Rattle.std.specs.Prelude.{Some, None, if◌then◌else◌}
use Rattle.gd_text_part.specs.Events.{event_row}
use Rattle.gd_text_part.specs.Lines.{behind_opening}
use Rattle.gd_text_part.specs.Offices.{party_of}
use Rattle.gd_text_part.specs.Places.{row_of, body, left_over, waiting_behind, certificate_from, cut_from}
use Rattle.gd_text_part.specs.declared.fault.RowFault.{RowFault}
use Rattle.gd_text_part.specs.declared.kind.Form.TheVariants as form
use Rattle.gd_text_part.specs.declared.kind.RowKind.{RowKind}
use Rattle.gd_text_part.specs.declared.order.Place.{Place}
use Rattle.gd_text_part.specs.declared.row.Row.{Row}
use Rattle.gd_text_part.specs.declared.waiting.Waiting.{Waiting}
use Rattle.gd_text_part.specs.declared.waiting.Waiting.TheVariants as waiting
use Rattle.gd_live.specs.Calls.{IsAmongCalls}
use Rattle.gd_live.specs.Fronts.{front_from}
use Rattle.gd_live.proofs.AmongCalls.{IsCallOrWaits, behind_is, behind_kind, bound, inside, known, ok, opening_among, rows_among, stands_so, takes_it}

-- the same rows wait, and the first of them has this number
abbrev numbered : Waiting → ℕ → Waiting
numbered waiting.Nothing m = waiting.Nothing
numbered (waiting.Certificate began) m = waiting.Certificate m
numbered (waiting.Cut began) m = waiting.Cut m
numbered (waiting.Phase began sessions party) m = waiting.Phase m sessions party

abbrev renumbered : Place → ℕ → Place
renumbered place m = record place { waiting = numbered place.waiting m }

if_none : (b : Bool) (x y : ℕ) → (if b then Some x else None) ≡ None → (if b then Some y else None) ≡ None
if_none true x y h = absurd cc
if_none false x y h = refl

none_left : (w : Waiting) (m : ℕ) (k : RowKind) → left_over w k ≡ None → left_over (numbered w m) k ≡ None
none_left waiting.Nothing m k h = refl
none_left (waiting.Certificate began) m k h = if_none _ began m h
none_left (waiting.Cut began) m k h = if_none _ began m h
none_left (waiting.Phase began sessions party) m k h = refl

same_party : (w : Waiting) (m : ℕ) → party_of (numbered w m) ≡ party_of w
same_party waiting.Nothing m = refl
same_party (waiting.Certificate began) m = refl
same_party (waiting.Cut began) m = refl
same_party (waiting.Phase began sessions party) m = refl

same_row : (place : Place) (m : ℕ) (k : RowKind) (fields : List (List ℕ)) → IsCallOrWaits k → body form.Day k (renumbered place m) fields ≡ body form.Day k place fields
same_row place m k fields (inl e) = rw e refl
same_row place m k fields (inr (inl e)) = rw e refl
same_row place m k fields (inr (inr (inl e))) = rw e refl
same_row place m k fields (inr (inr (inr call))) =
    call.row (renumbered place m) fields ∙ ap (λ party. event_row k party fields) (same_party place.waiting m) ∙ sym (call.row place fields)

certificate_again : (w : Waiting) (m n other : ℕ) → (number : ℕ) × (certificate_from (numbered w m) other ≡ numbered (certificate_from w n) number)
certificate_again waiting.Nothing m n other = (other, refl)
certificate_again (waiting.Certificate began) m n other = (m, refl)
certificate_again (waiting.Cut began) m n other = (other, refl)
certificate_again (waiting.Phase began sessions party) m n other = (other, refl)

cut_again : (w : Waiting) (m n other : ℕ) → (number : ℕ) × (cut_from (numbered w m) other ≡ numbered (cut_from w n) number)
cut_again waiting.Nothing m n other = (other, refl)
cut_again (waiting.Certificate began) m n other = (other, refl)
cut_again (waiting.Cut began) m n other = (m, refl)
cut_again (waiting.Phase began sessions party) m n other = (other, refl)

waits_again : (w : Waiting) (m n other : ℕ) (k : RowKind) → IsCallOrWaits k → (number : ℕ) × (waiting_behind (numbered w m) other k ≡ numbered (waiting_behind w n k) number)
waits_again w m n other k (inl e) = rw e (certificate_again w m n other)
waits_again w m n other k (inr (inl e)) = rw e (certificate_again w m n other)
waits_again w m n other k (inr (inr (inl e))) = rw e (cut_again w m n other)
waits_again w m n other k (inr (inr (inr call))) = (0, call.waits (numbered w m) other ∙ sym (ap (λ v. numbered v 0) (call.waits w n)))

-- one row
row_again : (place : Place) (m n other : ℕ) (fields : List (List ℕ)) (r : Row) (next : Place) → IsAmongCalls place → row_of form.Day place n fields ≡ Ok (r, next)
    → (number : ℕ) × (row_of form.Day (renumbered place m) other fields ≡ Ok (r, renumbered next number))
row_again place m n other fields r next among h =
    let it = known place n fields r next among h in
    let k = it.took.kind in
    let again = waits_again place.waiting m n other k it.which in
    let behind : behind_kind (renumbered place m) other k ≡ renumbered next again.0 =
    ap (λ w. record (behind_kind place n k) { waiting = w }) again.1 ∙ sym (ap (λ (p : Place). renumbered p again.0) it.leaves) in (
      again.0,
      takes_it (renumbered place m) other fields r (renumbered next again.0) (record {
        kind = k;
        is = it.took.is;
        stood = stands_so (renumbered place m) other k (record { taken = it.stood.taken; none = none_left place.waiting m k it.stood.none; may = it.stood.may });
        row = same_row place m k fields it.which ∙ it.took.row;
        behind = behind_is (renumbered place m) other k it.passed.0 r it.passed.1 ∙ ap (λ (p : Place). Ok p) behind;
      }),
    )

found_again : (r : Row) (front : List Row × Place) (rows : List Row) (last : Place) (m : ℕ) → ok RowFault {A = List Row × Place} (r ∷ front.0, front.1) ≡ Ok (rows, last)
    → ok RowFault {A = List Row × Place} (r ∷ front.0, renumbered front.1 m) ≡ Ok (rows, renumbered last m)
found_again r front rows last m h =
    let same = inside {A = List Row × Place} RowFault (r ∷ front.0, front.1) (rows, last) h in
    ap (λ (it : List Row × Place). ok RowFault {A = List Row × Place} (it.0, renumbered it.1 m)) same

-- and many
rows_again : (records : List (List (List ℕ))) (place : Place) (m n other : ℕ) (rows : List Row) (last : Place) → IsAmongCalls place → front_from form.Day place n records ≡ Ok (rows, last)
    → (number : ℕ) × (front_from form.Day (renumbered place m) other records ≡ Ok (rows, renumbered last number))
rows_again [] place m n other rows last among h =
    let same = inside {A = List Row × Place} RowFault ([], place) (rows, last) h in
    (m, ap (λ (it : List Row × Place). ok RowFault {A = List Row × Place} (it.0, renumbered it.1 m)) same)
rows_again (fields ∷ records) place m n other rows last among h =
    let taken = bound (row_of form.Day place (n + 1) fields) _ (rows, last) h in
    let front = bound (front_from form.Day taken.0.1 (n + 1) records) _ (rows, last) taken.2 in
    let one = row_again place m (n + 1) (other + 1) fields taken.0.0 taken.0.1 among taken.1 in
    let among_next = (rows_among place (n + 1) fields taken.0.0 taken.0.1 among taken.1).1 in
    let rest = rows_again records taken.0.1 one.0 (n + 1) (other + 1) front.0.0 front.0.1 among_next front.1 in
    (rest.0, rw one.1 (rw rest.1 (found_again taken.0.0 front.0 rows last rest.0 front.2)))

pub anywhere : (n m : ℕ) (records : List (List (List ℕ))) (rows : List Row) → front_from form.Day behind_opening n records ≡ Ok (rows, behind_opening)
    → front_from form.Day behind_opening m records ≡ Ok (rows, behind_opening)
anywhere n m records rows h = (rows_again records behind_opening 0 n m rows behind_opening opening_among h).1
