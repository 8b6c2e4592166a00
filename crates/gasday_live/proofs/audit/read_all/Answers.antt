use Rattle.std.proofs.Common.{List}
use Rattle.std.proofs.lemmas.Result.{IfErr-weaker, IfOk-weaker}
use Rattle.sqlite.specs.Effect.{Database}
use Rattle.sqlite.specs.Held.{state}
use Rattle.gd_journal_store.specs.Pieces.{Piece, Keeps}
use Rattle.gd_serving.specs.declared.replaying.ReplayFault.{ReplayFault}
use Rattle.gd_serving.specs.declared.replaying.ReplayFault.TheVariants.{Differs, OutOfMemory, Store}
use Rattle.gasday_live.specs.Books.{Blames}
use Rattle.gasday_live.specs.Faults.{ExplainsIn}
use Rattle.gasday_live.proofs.audit.read_all.Goals as goal

explained : (had : Database) (ps : List Piece) (why : ReplayFault) → Keeps ps had → Blames ps why → ExplainsIn had why
explained had ps (Differs piece call) keeps blamed = (ps, keeps, blamed)
explained had ps OutOfMemory keeps blamed = tt
explained had ps (Store fault) keeps blamed = tt

pub returns-clause-book : goal.returns-clause-book
returns-clause-book g c clean =
    let it = c.in_ok-count.ensures.counted (c.read_book.ensures.clean clean) in
    IfOk-weaker c.read_book.result _ _ (λ b is. (it.0, it.2, is.1)) (c.read_book.ensures.book clean it.0 it.3 it.1)

pub returns-clause-differs : goal.returns-clause-differs
returns-clause-differs g c clean =
    let it = c.in_ok-count.ensures.counted (c.read_book.ensures.clean clean) in
    let had = (state g.S.Store c.args.conn.now).now in
    IfErr-weaker c.read_book.result _ _ (λ why blamed. explained had it.0 why it.2 blamed) (c.read_book.ensures.differs clean it.0 it.3 it.1)
