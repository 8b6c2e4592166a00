-- The set that the `inside` rows of a text name.
use Rattle.std.specs.Prelude.{ℕ, ◌+◌, ◌-◌, ◌&&◌, nat_le, nat_lt, true, false, if◌then◌else◌, List, length, set, replicate, Option, Some, None, Result, Ok, Err}
use Rattle.gd_system.specs.Pipeline.{Pipeline, number_of, element_number}
use Rattle.gd_certificate.specs.Cutting.{Members}
use Rattle.gd_certificate.specs.Explained.{IsShaped}
use Rattle.gd_text_part.specs.declared.fault.Cause.TheVariants as cause
use Rattle.gd_text_part.specs.declared.fault.TextFault.{TextFault}
use Rattle.gd_text_part.specs.declared.fault.TextFault.TheVariants as fault
use Rattle.gd_text_part.specs.declared.row.Member.{Member}
use Rattle.gd_text_part.specs.declared.row.Member.TheVariants as member
use Rattle.gd_text_part.specs.declared.row.Row.{Row}
use Rattle.gd_text_part.specs.declared.row.Row.TheVariants as row
use Rattle.gd_text.specs.Building.{built_from}

-- Nothing is inside.
abbrev pub none_inside : Pipeline → Members
none_inside p = record {
  places = replicate (length p.places) false;
  points = replicate (length p.points) false;
  pools = replicate (length p.pools) false;
}

-- There is one entry for each place, point and pool.
abbrev pub IsFor : Pipeline → Members → Type 0
IsFor p m = IsShaped p m

-- The set with a place, where there is one.
abbrev pub with_place : ℕ → Members → Option ℕ → Result Members TextFault
with_place n m None = Err (fault.Row n cause.UnknownElement)
with_place n m (Some k) = Ok (record m { places = set m.places k true })

-- The set with the point of this element number, where it is one: points stand behind the segments.
abbrev pub with_point : ℕ → Pipeline → Members → Option ℕ → Result Members TextFault
with_point n p m None = Err (fault.Row n cause.UnknownElement)
with_point n p m (Some e) =
    if nat_le (length p.tree) e && nat_lt e (length p.tree + length p.points)
    then Ok (record m { points = set m.points (e - length p.tree) true })
    else Err (fault.Row n cause.UnknownElement)

-- The set with the pool of this element number, where it is one: pools stand last.
abbrev pub with_pool : ℕ → Pipeline → Members → Option ℕ → Result Members TextFault
with_pool n p m None = Err (fault.Row n cause.UnknownElement)
with_pool n p m (Some e) =
    if nat_le (length p.tree + length p.points) e
    then Ok (record m { pools = set m.pools (e - (length p.tree + length p.points)) true })
    else Err (fault.Row n cause.UnknownElement)

abbrev pub with_member : ℕ → Pipeline → Members → Member → List ℕ → Result Members TextFault
with_member n p m member.Place name = with_place n m (number_of p.places name)
with_member n p m member.Point name = with_point n p m (element_number p name)
with_member n p m member.Pool name = with_pool n p m (element_number p name)

-- The set after row n: an `inside` row names a member, which may be there, and other rows say nothing of it.
abbrev pub member_step : Pipeline → ℕ → Members → Row → Result Members TextFault
member_step p n m (row.Inside kind name) = with_member n p m kind name
member_step p n m r = Ok m

-- The set that all rows name, the first of them row n; or the first refusal.
abbrev pub members_from : ℕ → List Row → Pipeline → Result Members TextFault
members_from n rows p = built_from (member_step p) n (none_inside p) rows

-- The same of a text's rows, which are counted from 1.
abbrev pub members_of : List Row → Pipeline → Result Members TextFault
members_of rows p = members_from 1 rows p
