use Rattle.std.proofs.Common.{◌≡◌, ◌∙◌, ℕ, List, All, ap, sym, subst}
use Rattle.std.proofs.lemmas.Result.{IfOk-weaker}
use Rattle.gasday_archive.specs.Keeping.{IsKnownIn, IsPublishedIn, IsThere, KeepsTold, published_cycles}
use Rattle.gasday_archive.proofs.Keeping.{told_weaker}
use Rattle.gasday_archive.proofs.Publications.{all_held, all_published, all_there}
use Rattle.gasday_archive.proofs.keeps.keep_published.Goals as goal

pub keep_all-requires-clause-known : goal.keep_all-requires-clause-known
keep_all-requires-clause-known g c =
    let b = c.args.book.now in
    let known = c.args.note.now in
    let same : c.as_slice.result.now ≡ published_cycles b.history = c.as_slice.ensures.value ∙ c.in_ok-cycles.ensures ∙ ap published_cycles c.history.ensures.is in
    subst (All (IsThere known)) (sym same) (all_there b.day b.history known (all_held b.day b.history known c.history.ensures.legal c.requires.posted))

pub returns-clause-kept : goal.returns-clause-kept
returns-clause-kept g c clean =
    let b = c.args.book.now in
    let known = c.args.note.now in
    let same : c.as_slice.result.now ≡ published_cycles b.history = c.as_slice.ensures.value ∙ c.in_ok-cycles.ensures ∙ ap published_cycles c.history.ensures.is in
    let old = c.args.conn.now in
    let new = c.keep_all.new.conn in
    let former = c.args.told.now.items in
    let told = c.keep_all.new.told.items in
    IfOk-weaker c.keep_all.result _ _
    (λ status keeps. told_weaker g.S.Store c.args.is_strict (IsKnownIn known) (IsPublishedIn b.day b.history) (published_cycles b.history) old new former told status
    (all_published b.day b.history known (all_held b.day b.history known c.history.ensures.legal c.requires.posted))
    (subst (λ (cycles : List ℕ). KeepsTold g.S.Store c.args.is_strict (IsKnownIn known) cycles old new former told status) same keeps))
    (c.keep_all.ensures.kept clean)
