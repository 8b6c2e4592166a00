use Rattle.std.proofs.Common.{ℕ, List, inr, subst}
use Rattle.sqlite.specs.Held.{state}
use Rattle.gd_live.specs.Seen.{at_desk}
use Rattle.gasday_live.specs.Unopened.{OpensNone}
use Rattle.gasday_live.proofs.BegunBooks.{new_book}
use Rattle.gasday_live.proofs.Running.{none_opened}
use Rattle.gasday_live.proofs.beginning.begin_new.Goals as goal

pub returns-in-Ok-clause-begun : goal.returns-in-Ok-clause-begun
returns-in-Ok-clause-begun g c had was =
    new_book had _ _ _ _ _ _ _ _ _ (at_desk c.into_desk-desk.result) (state g.S.Store c.args.conn.now) (state g.S.Store c.keep_opening.new.conn) was c.in_ok-text.ensures.head c.in_ok-text.ensures.bytes c.as_slice.ensures.value c.as_slice-2.ensures.value c.in_ok-opened.ensures.opened c.into_desk-desk.ensures
    c.in-Ok.ensures.kept

pub returns-in_err-opened-clause-unbegun : goal.returns-in_err-opened-clause-unbegun
returns-in_err-opened-clause-unbegun g c had kept =
    let read = c.in_ok-text in
    none_opened c.from_residual-in_err-opened.result (g.R.Read.remaining c.args.reader.now) had (state g.S.Store c.args.conn.now) c.in_err-opened.field-0.0 c.from_residual-in_err-opened.ensures.1
    (inr (read.text.items, read.bytes.items, g.R.Read.remaining c.read_head.new.reader, read.ensures.bytes, read.ensures.head, subst (λ (text : List ℕ). OpensNone text c.in_err-opened.field-0.0) c.as_slice.ensures.value c.in_err-opened.ensures.refused))
    kept
