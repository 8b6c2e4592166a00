use Rattle.std.proofs.Common.{◌≡◌, ◌<◌, ◌+◌, length, arith, IsSome, None, Option, ℕ, ◌∙◌, sym, ap}
use Rattle.gd_system.specs.Route.{element_at}
use Rattle.gd_question.specs.Known.{limit_of}
use Rattle.gd_system.specs.Pipeline.{capacity_of}
use Rattle.gd_book_part.proofs.Own.{same_limit}
use Rattle.gd_question.proofs.Limits.{limits_first}
use Rattle.gd_book_part.proofs.tables.own_capacities.Goals as goal

none_not_some : (o : Option ℕ) → o ≡ None → IsSome o → ⊥
none_not_some o e h = cc

pub unreachable-requires : goal.unreachable-requires
unreachable-requires c =
    let within : c.loop-at.at < length c.args.system.now.tree + length c.args.system.now.points = omega (arith, c.segment_count.ensures, c.point_count.ensures) in
    let none : limit_of (element_at c.args.system.now c.loop-at.at) ≡ None = sym (same_limit (element_at c.args.system.now c.loop-at.at)) ∙ ap capacity_of (sym c.part.ensures) ∙ sym c.capacity.ensures ∙ c.in-None.is in
    none_not_some (limit_of (element_at c.args.system.now c.loop-at.at)) none (limits_first c.args.system.now c.loop-at.at c.known.ensures.known within)
