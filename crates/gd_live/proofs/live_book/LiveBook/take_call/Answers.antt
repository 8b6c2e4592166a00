use Rattle.std.proofs.Common.{rules, ◌≡◌, inl, inr, ◌-◌, length, refl}
use Rattle.gd_serving.specs.Seen.{seen}
use Rattle.gd_text_part.specs.declared.row.Row.TheVariants as row
use Rattle.gd_live.specs.Seen.{stand_of}
use Rattle.gd_live.proofs.Taking.{refused_as, checked_as}
use Rattle.gd_live.proofs.live_book.LiveBook.take_call.Goals as goal

pub returns-in-Err : goal.returns-in-Err
returns-in-Err g c =
    let fault = c.in-Err.fault in
    let s = stand_of c.args.self.now in
    let first : c.saturating_sub-first.result ≡ s.number - length s.group.rows = search rules in
    refused_as c.refuse_as.result s (stand_of c.refuse_as.new.self) c.args.line.now (seen c.args.given.now) (seen c.refuse_as.new.given) fault
    (λ some. elim c.in-Err.ensures.checked [
      | inl none ↦ absurd (some none)
      | inr is ↦
          let found = checked_as c.system.result.now s.day.holdings.pipeline c.saturating_sub-first.result (s.number - length s.group.rows) c.rows-2.result.now s.group.rows fault c.system.ensures first c.rows-2.ensures is in
          inr (inr (inl (row.Event c.args.event, c.requires.is.0, c.args.event, fault, c.requires.is.1, c.requires.has_room, refl, found, refl)))
    ])
    c.refuse_as.ensures.memory c.refuse_as.ensures.stand c.refuse_as.ensures.given
