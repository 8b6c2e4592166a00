use Rattle.std.proofs.Common.{◌≡◌, ◌<◌, true, List, length, get_or, set, ap, ap₂, subst, ◌∙◌}
use Rattle.std.proofs.lemmas.List.{get_or_default}
use Rattle.gd_book_part.specs.declared.confirmations.Confirmation.{Confirmation}
use Rattle.gd_book_part.specs.LineConfirmations.{nothing}
use Rattle.gd_book_part.proofs.QuietEvents.{waive_more, now_of}
use Rattle.gd_book_part.proofs.tables.Tables.waive.Goals as goal

pub returns : goal.returns
returns c =
    let items : List Confirmation = c.args.self.now.confirmations.items in
    let at : c.place-at.result ≡ c.args.line = c.place-at.ensures.is in
    let within = subst (λ n. n < length items) at c.place-at.ensures.within in
    let entry : c.index.result.now ≡ get_or items c.args.line nothing = c.index.ensures ∙ get_or_default items c.place-at.result c.index.result.now nothing c.place-at.ensures.within ∙ ap (λ n. get_or items n nothing) at in
    let is = c.waived.ensures ∙ ap (λ (x : Confirmation). record x { waived = true }) (c.in_cycle-entry.ensures ∙ ap₂ now_of entry c.requires.kept.cycle) in
    λ reply. waive_more c.args.opening.now c.args.history.now c.args.moment c.args.line reply c.args.self.now c.later_of-self.result _ c.waived.result c.later_of-self.ensures c.requires.kept c.requires.accepted within (ap (λ n. set items n c.waived.result) at) is
