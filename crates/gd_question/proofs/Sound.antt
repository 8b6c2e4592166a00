-- Lines in memory are lines of the question.
use Rattle.std.proofs.Common.{◌≡◌, ℕ, ◌<◌, ◌≤◌, List, get_or, map, length, sym, ap, ◌∙◌, subst, arith}
use Rattle.std.proofs.lemmas.List.{length-map, get_or-map, get_or_default}
use Rattle.gd_rules.specs.Question as rules
use Rattle.gd_rules.specs.Question.Element.{Pool}
use Rattle.gd_rules.specs.Tree.{IsLine, HasLines, IsRoute}
use Rattle.gd_rules.specs.Question.{place_of}
use Rattle.gd_tree.specs.Grown.{route_of}
use Rattle.gd_tree.proofs.Directions.{routes, route_few}
use Rattle.gd_system.specs.Pipeline.{Pipeline, elements_of}
use Rattle.gd_system.specs.Known.{IsSystem}
use Rattle.gd_question.specs.Known.{IsKnown}
use Rattle.gd_question.specs.InForce.{in_force}
use Rattle.gd_question.specs.Rows.{line_of}
use Rattle.gd_question.specs.Stored.{IsRow}
use Rattle.gd_question.specs.declared.question.Row.{Row}
use Rattle.gd_question.proofs.InForceLemmas.{length-in_force, alike, place-alike, sends-alike, takes-alike, route-alike}
use Rattle.gd_question.proofs.Limits.{length-elements}

module _ (p : Pipeline) (limits : List ℕ) (rows : List Row) where
  abbrev asked : rules.Question
  asked = record { elements = in_force (elements_of p) limits; lines = map (line_of p) rows }

  row_line : IsSystem p → (row : Row) → IsRow p row → IsLine asked (line_of p row)
  row_line s row r =
      let e = r.ends in
      let same = length-in_force (elements_of p) limits in
      let from : place_of (get_or (in_force (elements_of p) limits) row.ends.origin.0 (Pool 0)) ≡ row.ends.origin_place.0 = place-alike _ _ (alike (elements_of p) limits row.ends.origin.0) ∙ e.origin_hangs in
      let to : place_of (get_or (in_force (elements_of p) limits) row.ends.dest.0 (Pool 0)) ≡ row.ends.dest_place.0 = place-alike _ _ (alike (elements_of p) limits row.ends.dest.0) ∙ e.dest_hangs in
      let found = (routes (elements_of p) (length p.tree) row.ends.origin_place.0 row.ends.dest_place.0 s.grown e.origin_placed e.dest_placed).0 e.routed in
      let way = route-alike (elements_of p) limits row.ends.origin_place.0 (route_of (elements_of p) (length p.tree) row.ends.origin_place.0 row.ends.dest_place.0) row.ends.dest_place.0 found in
      record {
        origin_known = subst (λ n. row.ends.origin.0 < n) (sym same) e.origin_known;
        dest_known = subst (λ n. row.ends.dest.0 < n) (sym same) e.dest_known;
        sends = sends-alike _ _ (alike (elements_of p) limits row.ends.origin.0) e.sends;
        takes = takes-alike _ _ (alike (elements_of p) limits row.ends.dest.0) e.takes;
        apart = e.apart;
        routed = subst (λ a. IsRoute (in_force (elements_of p) limits) a (line_of p row).route (place_of (get_or (in_force (elements_of p) limits) row.ends.dest.0 (Pool 0)))) (sym from)
            (subst (λ b. IsRoute (in_force (elements_of p) limits) row.ends.origin_place.0 (line_of p row).route b) (sym to) way);
        bounds = r.bounds;
        classed = r.classed;
      }

  -- the line of this number
  pub line_at : (i : ℕ) (row : Row) → i < length rows → row ≡ get_or rows i row → rules.line asked i ≡ line_of p row
  line_at i row h e = get_or-map (line_of p) rows i row rules.no_line h ∙ ap (line_of p) (sym e)

nothing : Row
nothing = record {
  ends = record { origin = record { 0 = 0 }; dest = record { 0 = 0 }; origin_place = record { 0 = 0 }; dest_place = record { 0 = 0 } };
  class = 0;
  floor = 0;
  ceiling = 0;
}

abbrev pub Each : Pipeline → List Row → Type 0
Each p rows = (i : ℕ) (row : Row) → i < length rows → row ≡ get_or rows i row → IsRow p row

-- Each line leads from one end to another, over its route.
pub has_lines : (p : Pipeline) (limits : List ℕ) (rows : List Row) → IsSystem p → Each p rows → HasLines (asked p limits rows)
has_lines p limits rows s all i h =
    let k : i < length rows = subst (λ n. i < n) (length-map rows (line_of p)) h in
    let row : Row = get_or rows i nothing in
    let e : row ≡ get_or rows i row = get_or_default rows i nothing row k in
    subst (IsLine (asked p limits rows)) (sym (line_at p limits rows i row k e)) (row_line p limits rows s row (all i row k e))

short : (p : Pipeline) (limits : List ℕ) (rows : List Row) → IsSystem p → (i : ℕ) → i < length (map (line_of p) rows) → length (rules.line (asked p limits rows) i).route ≤ 4095
short p limits rows s i h =
    let k : i < length rows = subst (λ n. i < n) (length-map rows (line_of p)) h in
    let row : Row = get_or rows i nothing in
    let e : row ≡ get_or rows i row = get_or_default rows i nothing row k in
    let few : length (line_of p row).route ≤ length p.tree = route_few (elements_of p) (length p.tree) row.ends.origin_place.0 row.ends.dest_place.0 in
    let most = s.few_segments in
    subst (λ (l : rules.Line). length l.route ≤ 4095) (sym (line_at p limits rows i row k e)) (omega arith)

pub is_known : (p : Pipeline) (limits : List ℕ) (rows : List Row) → IsSystem p → length rows ≤ 20000 → Each p rows → IsKnown (asked p limits rows)
is_known p limits rows s few all =
    let same = length-in_force (elements_of p) limits in
    let parts = length-elements p in
    let one = s.few_segments in
    let two = s.few_points in
    let three = s.few_pools in
    record {
      lined = has_lines p limits rows s all;
      few_lines = subst (λ n. n ≤ 20000) (sym (length-map rows (line_of p))) few;
      few_elements = omega (arith, same, parts, one, two, three);
      short = short p limits rows s;
    }
