use Rattle.std.proofs.Common.{◌≡◌, ◌<◌, length, refl, sym, ap, subst, ◌∙◌, arith}
use Rattle.std.specs.Prelude.{IsOk}
use Rattle.std.proofs.lemmas.List.FromFn.{length-map-range_with_len}
use Rattle.gd_system.specs.Route.{ends_of}
use Rattle.gd_question.specs.Posing.{Posed}
use Rattle.gd_machine.specs.Asking.{line_count, line_of, line_over}
use Rattle.gd_machine.specs.Known.{IsRouted}
use Rattle.gd_machine.proofs.Flowing.{key_holds}
use Rattle.gd_book_part.specs.Asking.{with_line, asked_until}
use Rattle.gd_book_part.proofs.Asking.{asked_more}
use Rattle.gd_book_part.proofs.tables.Tables.ask.Goals as goal

pub loop-line-preserved : goal.loop-line-preserved
loop-line-preserved c =
    let terms = c.terms_of-terms.result in
    let told = c.terms_of-terms.ensures in
    c.in-Ok.ensures
    ∙ ap (λ (q : Posed). with_line q (line_over q.pipeline (ends_of q.pipeline terms.key.origin terms.key.dest) terms.class terms.floor terms.ceiling)) c.loop-line.invariant
    ∙ asked_more c.args.opening.now c.args.history.now c.args.round c.loop-line.line terms.key terms.class terms.floor terms.ceiling told.key told.class told.floor told.ceiling

pub returns : goal.returns
returns c =
    let count = c.asked_lines-count.ensures.is in
    let end = c.loop-line.auto in
    let past = c.loop-line-test.false in
    let all : c.loop-line.line ≡ line_count c.args.opening.now c.args.history.now = omega (arith, count, end.line-end, past) in
    c.finish.ensures ∙ c.loop-line.invariant ∙ ap (asked_until c.args.opening.now c.args.history.now c.args.round) all

pub put_line-requires-clause-routed : goal.put_line-requires-clause-routed
put_line-requires-clause-routed c =
    let day = c.args.opening.now in
    let told = c.terms_of-terms.ensures in
    let count = c.asked_lines-count.ensures.is in
    let within = c.loop-line-test.true in
    let known : c.loop-line.line < line_count day c.args.history.now = omega (arith, count, within) in
    let route = key_holds day c.args.history.now (IsRouted day) c.requires.sound.routed c.loop-line.line known in
    let ends = (λ i. ends_of (c.loop-line.invariant i).pipeline (told.key i).origin (told.key i).dest) ∙ route.1 in
    subst IsOk (sym ends) refl

pub put_line-requires-clause-few : goal.put_line-requires-clause-few
put_line-requires-clause-few c =
    let day = c.args.opening.now in
    let so_far = ap (λ (q : Posed). length q.asked.lines) c.loop-line.invariant ∙ length-map-range_with_len (line_of day c.args.history.now) 0 c.loop-line.line in
    let few = c.asked_lines-count.ensures.few in
    let within = c.loop-line-test.true in
    omega (arith, so_far, few, within)
