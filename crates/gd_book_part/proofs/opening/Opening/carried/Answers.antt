use Rattle.std.proofs.Common.{sym, ap, ◌∙◌}
use Rattle.std.specs.Option.{unwrap_or}
use Rattle.gd_machine.specs.Day.{Day, carried}
use Rattle.gd_book_part.proofs.CarriedQuantities.{find_lookup}
use Rattle.gd_book_part.proofs.opening.Opening.carried.Goals as goal

pub returns : goal.returns
returns c =
    c.unwrap_or.ensures
    ∙ ap (λ o. unwrap_or o 0) c.get.ensures
    ∙ sym (find_lookup c.args.key.now c.self.inside.carry.entries)
    ∙ ap (λ (day : Day). carried day c.args.key.now) c.self.view_is
