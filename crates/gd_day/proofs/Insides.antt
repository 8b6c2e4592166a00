-- Whether a group's members are there says nothing of those before them.
use Rattle.std.proofs.Common.{◌≡◌, ℕ, ◌+◌, Bool, List, [], ◌∷◌, Result, Ok, Err, refl, ◌∙◌, ap}
use Rattle.std.specs.Prelude.{Option, Some, None, if◌then◌else◌, true, false, set, nat_le, nat_lt, ◌&&◌, length, ◌-◌}
use Rattle.gd_system.specs.Pipeline.{Pipeline, element_number, number_of}
use Rattle.gd_certificate.specs.Cutting.{Members}
use Rattle.gd_text_part.specs.Rows.{◌>>=◌}
use Rattle.gd_text_part.specs.declared.fault.Cause.TheVariants as cause
use Rattle.gd_text_part.specs.declared.fault.TextFault.{TextFault}
use Rattle.gd_text_part.specs.declared.fault.TextFault.TheVariants as fault
use Rattle.gd_text_part.specs.declared.row.Member.{Member}
use Rattle.gd_text_part.specs.declared.row.Member.TheVariants as member
use Rattle.gd_text_part.specs.declared.row.Row.{Row}
use Rattle.gd_text_part.specs.declared.row.Row.TheVariants as row
use Rattle.gd_text.specs.Building.{built_from}
use Rattle.gd_text.specs.Members.{member_step, with_member, with_place, with_point, with_pool, members_from, none_inside}
use Rattle.gd_day.specs.Groups.{checked}
use Rattle.gd_day.specs.Marks.{inside_step}

place_alike : (n : ℕ) (m k : Members) (found : Option ℕ) → checked (with_place n m found) ≡ checked (with_place n k found)
place_alike n m k None = refl
place_alike n m k (Some e) = refl

either : (b : Bool) (n : ℕ) (m k : Members) → checked (if b then Ok m else Err (fault.Row n cause.UnknownElement)) ≡ checked (if b then Ok k else Err (fault.Row n cause.UnknownElement))
either true n m k = refl
either false n m k = refl

point_alike : (p : Pipeline) (n : ℕ) (m k : Members) (found : Option ℕ) → checked (with_point n p m found) ≡ checked (with_point n p k found)
point_alike p n m k None = refl
point_alike p n m k (Some e) = either (nat_le (length p.tree) e && nat_lt e (length p.tree + length p.points)) n (record m { points = set m.points (e - length p.tree) true }) (record k { points = set k.points (e - length p.tree) true })

pool_alike : (p : Pipeline) (n : ℕ) (m k : Members) (found : Option ℕ) → checked (with_pool n p m found) ≡ checked (with_pool n p k found)
pool_alike p n m k None = refl
pool_alike p n m k (Some e) = either (nat_le (length p.tree + length p.points) e) n (record m { pools = set m.pools (e - (length p.tree + length p.points)) true }) (record k { pools = set k.pools (e - (length p.tree + length p.points)) true })

member_alike : (p : Pipeline) (n : ℕ) (m k : Members) (kind : Member) (name : List ℕ) → checked (with_member n p m kind name) ≡ checked (with_member n p k kind name)
member_alike p n m k member.Place name = place_alike n m k (number_of p.places name)
member_alike p n m k member.Point name = point_alike p n m k (element_number p name)
member_alike p n m k member.Pool name = pool_alike p n m k (element_number p name)

step_alike : (p : Pipeline) (n : ℕ) (m k : Members) (r : Row) → checked (member_step p n m r) ≡ checked (member_step p n k r)
step_alike p n m k (row.Inside kind name) = member_alike p n m k kind name
step_alike p n m k r = refl

-- so the names are checked one by one
each_checked : (p : Pipeline) (n : ℕ) (m : Members) (rows : List Row) → built_from (inside_step p) n tt rows ≡ checked (built_from (member_step p) n m rows)
unfolding built_from
each_checked p n m [] = refl
each_checked p n m (r ∷ rows) = ap (λ (o : Result (Unit {0}) TextFault). o >>= λ u. built_from (inside_step p) (n + 1) u rows) (step_alike p n (none_inside p) m r) ∙ go (member_step p n m r) (λ k. each_checked p (n + 1) k rows)
  where
    go : (o : Result Members TextFault) → ((k : Members) → built_from (inside_step p) (n + 1) tt rows ≡ checked (built_from (member_step p) (n + 1) k rows))
        → (checked o >>= λ u. built_from (inside_step p) (n + 1) u rows) ≡ checked (o >>= λ k. built_from (member_step p) (n + 1) k rows)
    go (Ok k) h = h k
    go (Err f) h = refl

pub members_checked : (p : Pipeline) (n : ℕ) (rows : List Row) → built_from (inside_step p) n tt rows ≡ checked (members_from n rows p)
members_checked p n rows = each_checked p n (none_inside p) rows
