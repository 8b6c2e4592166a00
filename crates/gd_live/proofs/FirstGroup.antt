-- The rows of an opening in the group of the first call behind them.
use Rattle.std.proofs.Common.{◌≡◌, ℕ, ◌+◌, Bool, true, false, List, [], ◌∷◌, ◌++◌, length, Result, Ok, Err, refl, ap, sym, subst, ◌∙◌, append-nil, inl, inr}
use Rattle.std.specs.Prelude.{ℤ, Option, Some, None, if◌then◌else◌, ◌&&◌, nat_le, nat_lt, set, get_or}
use Rattle.std.specs.List.{AllByRecursion}
use Rattle.std.specs.Result.{is_ok}
use Rattle.std.proofs.lemmas.List.{append_assoc}
use Rattle.gd_certificate.specs.Cutting.{Members}
use Rattle.gd_system.specs.Pipeline.{Pipeline, elements_of, element_number, number_of}
use Rattle.gd_text_part.specs.Rows.{◌>>=◌}
use Rattle.gd_text_part.specs.declared.fault.Cause.TheVariants as cause
use Rattle.gd_text_part.specs.declared.fault.TextFault.{TextFault}
use Rattle.gd_text_part.specs.declared.fault.TextFault.TheVariants as fault
use Rattle.gd_text_part.specs.declared.row.EventRow.{EventRow}
use Rattle.gd_text_part.specs.declared.row.EventRow.TheVariants as event
use Rattle.gd_text_part.specs.declared.row.Member.{Member}
use Rattle.gd_text_part.specs.declared.row.Member.TheVariants as member
use Rattle.gd_text_part.specs.declared.row.Row.{Row}
use Rattle.gd_text_part.specs.declared.row.Row.TheVariants as row
use Rattle.gd_live.specs.Calls.{is_of_call}
use Rattle.gd_live.proofs.AmongCalls.{bound}
use Rattle.gd_text.specs.Building.{built_from}
use Rattle.gd_text.specs.Members.{member_step, members_from, members_of, none_inside, with_member, with_place, with_point, with_pool}
use Rattle.gd_text.specs.Prices.{Table, no_prices, place, price_at, price_step, prices_from, prices_of}
use Rattle.gd_text.specs.Values.{quantities_of}
use Rattle.gd_day.specs.Calls.{Call, calls_after, calls_of}
use Rattle.gd_day.specs.Groups.{AllPass, Passes}
use Rattle.gd_day.proofs.RowNumbers.{prices_whatever, members_whatever}
use Rattle.gd_machine.specs.Day.{Day}
use Rattle.gd_machine.specs.History.{History}
use Rattle.gd_replies.specs.declared.reply.Reply.{Reply}
use Rattle.gd_course.specs.Course.{RowGives, Runs}
use Rattle.gd_live.proofs.PassedOver.{goes_on, nothing_built, no_fault}

-- rows none of which is of a call
abbrev pub OfferNothing : List Row → Type 0
OfferNothing rows = AllByRecursion (λ r. is_of_call r ≡ false) rows

-- ---- what is built is the same whatever the number of the first row

module _ {X : Type 0} (step : ℕ → X → Row → Result X TextFault) (alike : (n m : ℕ) (x : X) (r : Row) (y : X) → step n x r ≡ Ok y → step m x r ≡ Ok y) where
  built_anywhere : (n m : ℕ) (x y : X) (rows : List Row) → built_from step n x rows ≡ Ok y → built_from step m x rows ≡ Ok y
  unfolding built_from
  built_anywhere n m x y [] h = h
  built_anywhere n m x y (r ∷ rows) h =
      let taken = bound (step n x r) _ y h in
      ap (λ (o : Result X TextFault). o >>= λ z. built_from step (m + 1) z rows) (alike n m x r taken.0 taken.1) ∙ built_anywhere (n + 1) (m + 1) taken.0 y rows taken.2

price_found : (n m : ℕ) (t : Table) (found : Option ℕ) (class : ℕ) (word spread : ℤ) (y : Table) → price_at n t found class word spread ≡ Ok y → price_at m t found class word spread ≡ Ok y
price_found n m t None class word spread y h = absurd cc
price_found n m t (Some e) class word spread y h =
    no_fault (get_or t.given (place e class) false) (fault.Row n cause.Duplicate) (fault.Row m cause.Duplicate)
    (record t { words = set t.words (place e class) word; spreads = set t.spreads (place e class) spread; given = set t.given (place e class) true }) y h

price_anywhere : (p : Pipeline) (n m : ℕ) (t : Table) (r : Row) (y : Table) → price_step p n t r ≡ Ok y → price_step p m t r ≡ Ok y
price_anywhere p n m t (row.Price element class word spread) y h = price_found n m t (element_number p element) class word spread y h
price_anywhere p n m t r y h = h

found_within : (b : Bool) (n m : ℕ) (x y : Members) → (if b then Ok x else Err (fault.Row n cause.UnknownElement)) ≡ Ok y → (if b then Ok x else Err (fault.Row m cause.UnknownElement)) ≡ Ok y
found_within true n m x y h = h
found_within false n m x y h = absurd cc

place_found : (n m : ℕ) (members : Members) (found : Option ℕ) (y : Members) → with_place n members found ≡ Ok y → with_place m members found ≡ Ok y
place_found n m members None y h = absurd cc
place_found n m members (Some k) y h = h

point_found : (n m : ℕ) (p : Pipeline) (members : Members) (found : Option ℕ) (y : Members) → with_point n p members found ≡ Ok y → with_point m p members found ≡ Ok y
point_found n m p members None y h = absurd cc
point_found n m p members (Some e) y h = found_within (nat_le (length p.tree) e && nat_lt e (length p.tree + length p.points)) n m _ y h

pool_found : (n m : ℕ) (p : Pipeline) (members : Members) (found : Option ℕ) (y : Members) → with_pool n p members found ≡ Ok y → with_pool m p members found ≡ Ok y
pool_found n m p members None y h = absurd cc
pool_found n m p members (Some e) y h = found_within (nat_le (length p.tree + length p.points) e) n m _ y h

named_anywhere : (p : Pipeline) (n m : ℕ) (members : Members) (kind : Member) (name : List ℕ) (y : Members) → with_member n p members kind name ≡ Ok y → with_member m p members kind name ≡ Ok y
named_anywhere p n m members member.Place name y h = place_found n m members (number_of p.places name) y h
named_anywhere p n m members member.Point name y h = point_found n m p members (element_number p name) y h
named_anywhere p n m members member.Pool name y h = pool_found n m p members (element_number p name) y h

member_anywhere : (p : Pipeline) (n m : ℕ) (members : Members) (r : Row) (y : Members) → member_step p n members r ≡ Ok y → member_step p m members r ≡ Ok y
member_anywhere p n m members (row.Inside kind name) y h = named_anywhere p n m members kind name y h
member_anywhere p n m members r y h = h

-- ---- what a group offers behind the rows of an opening

price_over : (p : Pipeline) (n : ℕ) (t : Table) (r : Row) → is_of_call r ≡ false → price_step p n t r ≡ Ok t
price_over p n t (row.Price element class word spread) other = absurd cc
price_over p n t r other = refl

member_over : (p : Pipeline) (n : ℕ) (members : Members) (r : Row) → is_of_call r ≡ false → member_step p n members r ≡ Ok members
member_over p n members (row.Inside kind name) other = absurd cc
member_over p n members r other = refl

quantities_behind : (front group : List Row) → OfferNothing front → quantities_of (front ++ group) ≡ quantities_of group
quantities_behind [] group none = refl
quantities_behind (row.Sched at quantity ∷ front) group none = let no = none.0 in absurd cc
quantities_behind (r ∷ front) group none = quantities_behind front group none.1

module _ (p : Pipeline) (front group : List Row) (none : OfferNothing front) where
  prices_from_there : prices_of (front ++ group) p ≡ prices_from (1 + length front) group p
  prices_from_there =
      let t = no_prices (length (elements_of p)) in
      goes_on (price_step p) 1 t t front group (nothing_built (price_step p) (λ r. is_of_call r ≡ false) (price_over p) 1 t front none)

  members_from_there : members_of (front ++ group) p ≡ members_from (1 + length front) group p
  members_from_there =
      let members = none_inside p in
      goes_on (member_step p) 1 members members front group (nothing_built (member_step p) (λ r. is_of_call r ≡ false) (member_over p) 1 members front none)

  prices_behind : (table : Table) → prices_of group p ≡ Ok table → prices_of (front ++ group) p ≡ Ok table
  prices_behind table h = prices_from_there ∙ built_anywhere (price_step p) (price_anywhere p) 1 (1 + length front) (no_prices (length (elements_of p))) table group h

  members_behind : (members : Members) → members_of group p ≡ Ok members → members_of (front ++ group) p ≡ Ok members
  members_behind members h = members_from_there ∙ built_anywhere (member_step p) (member_anywhere p) 1 (1 + length front) (none_inside p) members group h

  group_passes : Passes p group → Passes p (front ++ group)
  group_passes it = record {
    prices = ap is_ok prices_from_there ∙ prices_whatever p (1 + length front) group ∙ it.prices;
    members = ap is_ok members_from_there ∙ members_whatever p (1 + length front) group ∙ it.members;
  }

call_gives : (day : Day) (h : History) (front group : List Row) (e : EventRow) (told : List Reply) (after : History) → OfferNothing front → RowGives day h group e told after → RowGives day h (front ++ group) e told after
call_gives day h front group (event.Publish moment round) told after none (inl gives) = inl gives
call_gives day h front group (event.Publish moment round) told after none (inr (inl gives)) = inr (inl gives)
call_gives day h front group (event.Publish moment round) told after none (inr (inr (frozen, current, (schedule, prices, (quantities, (table, made, are)), gives)))) =
    inr (inr (
      frozen,
      current,
      (schedule, prices, (quantities ∙ sym (quantities_behind front group none), (table, prices_behind day.holdings.pipeline front group none table made, are)), gives),
    ))
call_gives day h front group (event.Declare moment round) told after none (cut, made, gives) = (cut, members_behind day.holdings.pipeline front group none cut made, gives)
call_gives day h front group e told after none gives = gives

-- ---- and so do all calls

runs_behind : (day : Day) (h : History) (n m : ℕ) (front group rows : List Row) (told : List Reply) (after : History) → OfferNothing front → Runs day h (calls_after n group rows) told after → Runs day h (calls_after m (front ++ group) rows) told after
runs_behind day h n m front group [] told after none runs = runs
runs_behind day h n m front group (row.Event e ∷ rows) told after none (between, first, rest, gives, runs, are) = (
  between,
  first,
  rest,
  call_gives day h front group e first between none gives,
  runs_behind day between (n + length group + 1) (m + length (front ++ group) + 1) [] [] rows rest after tt runs,
  are,
)
runs_behind day h n m front group (r ∷ rows) told after none runs =
    subst (λ (g : List Row). Runs day h (calls_after m g rows) told after) (sym (append_assoc front group (r ∷ []))) (runs_behind day h n m front (group ++ r ∷ []) rows told after none runs)

passes_behind : (p : Pipeline) (n m : ℕ) (front group rows : List Row) → OfferNothing front → AllPass p (calls_after n group rows) → AllPass p (calls_after m (front ++ group) rows)
passes_behind p n m front group [] none all = all
passes_behind p n m front group (row.Event e ∷ rows) none all = (group_passes p front group none all.0, passes_behind p (n + length group + 1) (m + length (front ++ group) + 1) [] [] rows tt all.1)
passes_behind p n m front group (r ∷ rows) none all =
    subst (λ (g : List Row). AllPass p (calls_after m g rows)) (sym (append_assoc front group (r ∷ []))) (passes_behind p n m front (group ++ r ∷ []) rows none all)

-- the rows of an opening go into the first group
into_group : (n : ℕ) (group rows more : List Row) → OfferNothing rows → calls_after n group (rows ++ more) ≡ calls_after n (group ++ rows) more
into_group n group [] more none = ap (λ (g : List Row). calls_after n g more) (sym (append-nil group))
into_group n group (row.Event e ∷ rows) more none = let no = none.0 in absurd cc
into_group n group (r ∷ rows) more none = into_group n (group ++ r ∷ []) rows more none.1 ∙ ap (λ (g : List Row). calls_after n g more) (append_assoc group (r ∷ []) rows)

first_group : (rows read : List Row) → OfferNothing rows → calls_after 1 (rows ++ []) read ≡ calls_of (rows ++ read)
first_group rows read none = ap (λ (g : List Row). calls_after 1 g read) (append-nil rows) ∙ sym (into_group 1 [] rows read none)

pub all_pass : (p : Pipeline) (rows read : List Row) → OfferNothing rows → AllPass p (calls_of read) → AllPass p (calls_of (rows ++ read))
all_pass p rows read none all = subst (λ (calls : List Call). AllPass p calls) (first_group rows read none) (passes_behind p 1 1 rows [] read none all)

pub runs_on : (day : Day) (h after : History) (rows read : List Row) (told : List Reply) → OfferNothing rows → Runs day h (calls_of read) told after → Runs day h (calls_of (rows ++ read)) told after
runs_on day h after rows read told none runs = subst (λ (calls : List Call). Runs day h calls told after) (first_group rows read none) (runs_behind day h 1 1 rows [] read told after none runs)
