-- Rows that are appended one after the other: what stands, and the rows of the rest behind it, stay the same.
use Rattle.std.proofs.Common.{◌≡◌, ℕ, ◌+◌, ◌-◌, ◌<◌, ◌≤◌, Bool, true, false, List, [], ◌∷◌, ◌++◌, length, drop, get_or, map, Some, refl, sym, ap, ◌∙◌, arith}
use Rattle.std.specs.List.{slice_get, range_with_len, items_where_true, flat_map}
use Rattle.std.proofs.lemmas.List.{drop_more, drop_all, append_assoc, append-nil, map-id, flat_map_more, get_or-drop, length-drop, drop_at, length-append, length-map}
use Rattle.std.proofs.lemmas.List.FromFn.{map-range_with_len_more}
use Rattle.std.proofs.lemmas.Option.{slice_get_within, slice_get-get_or, get_or_from_slice_get}
use Rattle.gd_cost.specs.Parts.{class_words}
use Rattle.gd_cost.specs.declared.lex.Lex.{Lex}
use Rattle.gd_cost.specs.declared.pair.Pair.{Pair}
use Rattle.gd_system.specs.Pipeline.{Pipeline, names_of}
use Rattle.gd_certificate.specs.Cutting.{Members}
use Rattle.gd_text_part.specs.declared.row.Member.{Member}
use Rattle.gd_text_part.specs.declared.row.Member.TheVariants as member
use Rattle.gd_replies.specs.declared.reply.Reply.{Reply}
use Rattle.gd_replies.specs.declared.reply.Reply.TheVariants as reply
use Rattle.gd_replies.specs.Replies.{element_rows, price_rows, inside_rows, set_rows}

-- the first rows of the rest are appended
pub told_more : (rows new added rest rest' total : List Reply) → new ≡ rows ++ added → rest ≡ added ++ rest' → rows ++ rest ≡ total → new ++ rest' ≡ total
told_more rows new added rest rest' total n r so = ap (λ (l : List Reply). l ++ rest') n ∙ append_assoc rows added rest' ∙ sym (ap (λ (l : List Reply). rows ++ l) r) ∙ so

-- no row is left
pub told_all : (rows rest total : List Reply) → rest ≡ [] → rows ++ rest ≡ total → rows ≡ total
told_all rows rest total r so = sym (append-nil rows) ∙ sym (ap (λ (l : List Reply). rows ++ l) r) ∙ so

-- the item at i is the first of those that are left
pub left_at : {X : Type 0} (xs : List X) (i : ℕ) (x : X) → slice_get xs i ≡ Some x → drop i xs ≡ x ∷ drop (i + 1) xs
left_at xs i x h = drop_more xs i x (slice_get_within xs i x h) ∙ ap (λ y. y ∷ drop (i + 1) xs) (get_or_from_slice_get xs i x x h)

-- one class more
range_more : (n : ℕ) → range_with_len 0 (n + 1) ≡ range_with_len 0 n ++ n ∷ []
range_more n = sym (map-id (range_with_len 0 (n + 1))) ∙ map-range_with_len_more (λ k. k) 0 n n (omega arith) ∙ ap (λ l. l ++ n ∷ []) (map-id (range_with_len 0 n))

pub class_more : (f : ℕ → List Reply) (old rows new : List Reply) (n : ℕ) → rows ≡ old ++ flat_map f (range_with_len 0 n) → new ≡ rows ++ f n → new ≡ old ++ flat_map f (range_with_len 0 (n + 1))
class_more f old rows new n so e =
    e ∙ ap (λ (l : List Reply). l ++ f n) so ∙ flat_map_more f old (range_with_len 0 n) n ∙ ap (λ l. old ++ flat_map f l) (sym (range_more n))

-- one element's price
abbrev Price : Type 0
Price = Pair (Lex 8) (Lex 8)

pub prices_more : (names : List (List ℕ)) (prices : List Price) (i : ℕ) (name : List ℕ) (price : Price) → slice_get names i ≡ Some name → slice_get prices i ≡ Some price
    → price_rows (drop i names) (map class_words (drop i prices)) ≡ element_rows name (class_words price) ++ price_rows (drop (i + 1) names) (map class_words (drop (i + 1) prices))
prices_more names prices i name price n e =
    ap (λ l. price_rows l (map class_words (drop i prices))) (left_at names i name n)
    ∙ ap (λ l. price_rows (name ∷ drop (i + 1) names) (map class_words l)) (left_at prices i price e)

no_prices : (names : List (List ℕ)) → price_rows names [] ≡ []
no_prices [] = refl
no_prices (name ∷ names) = refl

pub prices_all : (names : List (List ℕ)) (prices : List Price) (i : ℕ) → length prices ≤ i → price_rows (drop i names) (map class_words (drop i prices)) ≡ []
prices_all names prices i h = ap (λ l. price_rows (drop i names) (map class_words l)) (drop_all i prices h) ∙ no_prices (drop i names)

-- one member
member_first : (kind : Member) (names : List (List ℕ)) (inside : List Bool) (name : List ℕ) (bit : Bool)
    → inside_rows kind (name ∷ names) (bit ∷ inside) ≡ inside_rows kind (name ∷ []) (bit ∷ []) ++ inside_rows kind names inside
member_first kind names inside name true = refl
member_first kind names inside name false = refl

pub members_more : (kind : Member) (names : List (List ℕ)) (inside : List Bool) (i : ℕ) (name : List ℕ) → slice_get names i ≡ Some name → i < length inside
    → inside_rows kind (drop i names) (drop i inside) ≡ inside_rows kind (name ∷ []) (get_or inside i false ∷ []) ++ inside_rows kind (drop (i + 1) names) (drop (i + 1) inside)
members_more kind names inside i name n h =
    ap (λ l. inside_rows kind l (drop i inside)) (left_at names i name n)
    ∙ ap (λ l. inside_rows kind (name ∷ drop (i + 1) names) l) (drop_more inside i false h)
    ∙ member_first kind (drop (i + 1) names) (drop (i + 1) inside) name (get_or inside i false)

pub members_all : (kind : Member) (names : List (List ℕ)) (inside : List Bool) (i : ℕ) → length inside ≤ i → inside_rows kind names (drop i inside) ≡ []
members_all kind names inside i h = ap (λ l. inside_rows kind names l) (drop_all i inside h)

-- what stands at n + i stands at i once n are dropped
pub behind : (n : ℕ) (names : List (List ℕ)) (i : ℕ) (name : List ℕ) → slice_get names (n + i) ≡ Some name → slice_get (drop n names) i ≡ Some name
behind n names i name h =
    let within : n + i < length names = slice_get_within names (n + i) name h in
    let long : length (drop n names) ≡ length names - n = length-drop n names in
    slice_get-get_or (drop n names) i name (omega (arith, within, long)) ∙ ap (λ x. Some x) (get_or-drop n names i name ∙ get_or_from_slice_get names (n + i) name name h)

-- names that no bit stands for are left out
front_alone : (inside : List Bool) (names more : List (List ℕ)) → length inside ≤ length names → items_where_true inside (names ++ more) ≡ items_where_true inside names
front_alone [] names more h = refl
front_alone (bit ∷ inside) [] more h = absurd (omega (arith, h))
front_alone (true ∷ inside) (name ∷ names) more h = ap (λ l. name ∷ l) (front_alone inside names more (omega (arith, h)))
front_alone (false ∷ inside) (name ∷ names) more h = front_alone inside names more (omega (arith, h))

abbrev first_names : Pipeline → List (List ℕ)
first_names p = map (λ e. e.0) p.points

abbrev last_names : Pipeline → List (List ℕ)
last_names p = map (λ e. e.0) p.pools

-- the points' names stand behind the segments'
pub points_are : (kind : Member) (p : Pipeline) (inside : List Bool) → length p.segments ≡ length p.tree → length inside ≡ length p.points
    → inside_rows kind (drop (length p.tree) (names_of p)) inside ≡ inside_rows kind (first_names p) inside
points_are kind p inside named long =
    ap (λ l. inside_rows kind (drop (length p.tree) l) inside) (append_assoc p.segments (first_names p) (last_names p))
    ∙ ap (λ l. inside_rows kind l inside) (drop_at p.segments (first_names p ++ last_names p) (length p.tree) named)
    ∙ ap (λ l. map (λ name. reply.Inside kind name) l) (front_alone inside (first_names p) (last_names p) (omega (arith, long, length-map p.points (λ e. e.0))))

-- the pools' names stand behind the points'
pub pools_are : (kind : Member) (p : Pipeline) (inside : List Bool) → length p.segments ≡ length p.tree
    → inside_rows kind (drop (length p.tree + length p.points) (names_of p)) inside ≡ inside_rows kind (last_names p) inside
pools_are kind p inside named =
    ap (λ l. inside_rows kind l inside) (drop_at (p.segments ++ first_names p) (last_names p) (length p.tree + length p.points) (omega (arith, named, length-append p.segments (first_names p), length-map p.points (λ e. e.0))))

-- the rows of a set, one kind of member after the other
pub set_told : (told : Reply) (p : Pipeline) (set : Members) (first second third last : List Reply) → length p.segments ≡ length p.tree → length set.points ≡ length p.points
    → first ≡ told ∷ []
    → second ≡ first ++ inside_rows member.Place p.places set.places
    → third ≡ second ++ inside_rows member.Point (drop (length p.tree) (names_of p)) set.points
    → last ≡ third ++ inside_rows member.Pool (drop (length p.tree + length p.points) (names_of p)) set.pools
    → last ≡ set_rows told p set
set_told told p set first second third last named long one two three four =
    four ∙ ap (λ l. third ++ l) (pools_are member.Pool p set.pools named)
    ∙ ap (λ l. l ++ inside_rows member.Pool (last_names p) set.pools)
    (three ∙ ap (λ l. second ++ l) (points_are member.Point p set.points named long)
    ∙ ap (λ l. l ++ inside_rows member.Point (first_names p) set.points) (two ∙ ap (λ l. l ++ inside_rows member.Place p.places set.places) one))
