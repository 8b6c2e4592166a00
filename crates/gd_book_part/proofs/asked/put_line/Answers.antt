use Rattle.std.proofs.Common.{inl, inr, sym, subst}
use Rattle.std.specs.Prelude.{IsOk}
use Rattle.gd_rules.specs.Lines.{Key}
use Rattle.gd_system.specs.Route.{ends_of}
use Rattle.gd_book_part.proofs.Asking.{line_taken}
use Rattle.gd_book_part.proofs.asked.put_line.Goals as goal

pub unreachable-requires : goal.unreachable-requires
unreachable-requires c =
    let routed = subst (λ (key : Key). IsOk (ends_of c.args.builder.now.pipeline key.origin key.dest)) (sym c.key.view_is) c.requires.routed in
    let class = c.number.ensures.bounds in
    elim c.in-Err.ensures.memory [
      | inl e ↦ line_taken c.args.builder.now c.key.inside.origin c.key.inside.dest c.number.result c.args.terms.floor c.args.terms.ceiling c.in-Err.fault routed c.requires.bounds class.0 class.1 c.requires.few e
      | inr e ↦ c.in_default.not-OutOfMemory e
    ]
