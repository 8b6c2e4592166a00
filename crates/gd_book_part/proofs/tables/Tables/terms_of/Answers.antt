use Rattle.std.proofs.Common.{Bool, sym, ap, subst, ◌∙◌}
use Rattle.gd_rules.specs.Bounds as bounds
use Rattle.gd_machine.specs.Asking.{class_in}
use Rattle.gd_machine.specs.Known.{IsClassed}
use Rattle.gd_machine.proofs.Flowing.{key_holds}
use Rattle.gd_book_part.proofs.tables.Tables.terms_of.Goals as goal

pub class_of-class-requires : goal.class_of-class-requires
class_of-class-requires c =
    let day = c.args.opening.now in
    subst (IsClassed day) (sym c.key_of-key.ensures) (key_holds day c.args.history.now (IsClassed day) c.requires.sound.classed c.args.line c.requires.known)

pub returns-clause-floor : goal.returns-clause-floor
returns-clause-floor c =
    let class = c.class_of-class.ensures ∙ ap (class_in c.args.opening.now) c.key_of-key.ensures in
    let told = c.confirmation-told.ensures in
    let former = c.former_of-former.ensures in
    let elapsed = c.elapsed_of-elapsed.ensures in
    let nominated = c.nominated_of-nominated.ensures in
    let ceiling = c.confirmed-ceiling.ensures.is ∙ (λ i. bounds.confirmed (c.requires.current i) (nominated i) (told.origin i) (told.dest i) (former i) (elapsed i)) in
    c.floor.ensures.is
    ∙ ap (λ (b : Bool). bounds.floor b c.elapsed_of-elapsed.result c.former_of-former.result c.confirmed-ceiling.result) c.is_protected-protected.ensures
    ∙ (λ i. bounds.line_floor (c.requires.current i) (class i) (told.waived i) (elapsed i) (former i) (ceiling i))
