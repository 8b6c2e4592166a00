use Rattle.std.proofs.Common.{◌≡◌, ◌<◌, ◌∙◌, true, false, max, length, rules, sym, subst, arith}
use Rattle.gasday_archive.specs.Keeping.{IsKnownIn, IsThere, answer_status, is_last}
use Rattle.gasday_archive.proofs.Keeping.{one_more, ended, all_done, known_then, last_by, stay_trans}
use Rattle.gasday_archive.proofs.keeps.keep_all.Goals as goal

pub returns-then-ends-eq2-clause-kept : goal.returns-then-ends-eq2-clause-kept
returns-then-ends-eq2-clause-kept g c clean =
    let known = c.args.note.now in
    let cycle = c.cycle-item.result in
    let within : c.cycles.cycle-index < length c.args.cycles.now = omega (arith, c.cycles-test.true) in
    let there : IsThere known cycle = subst (IsThere known) (sym c.cycle-item.is) (c.requires.known c.cycles.cycle-index cycle within) in
    let keeps = c.keep_cycle-answer.ensures.tried clean in
    let last : is_last c.keep_cycle-answer.result ≡ true = last_by c.args.is_strict _ ∙ search rules in
    let ends : c.max-status.result ≡ max c.cycles.status (answer_status c.args.is_strict c.keep_cycle-answer.result) = search rules in
    ended g.S.Store c.args.is_strict (IsKnownIn known) c.args.cycles.now c.cycles.cycle-index cycle c.args.conn.now c.cycles.conn c.keep_cycle-answer.new.conn c.args.told.now.items c.cycles.told.items c.tell.new.told.items c.cycles.status c.max-status.result keeps.posting c.keep_cycle-answer.result
    within c.cycle-item.is (c.cycles.invariant.kept (c.keep_cycle-answer.ensures.clean clean)) (known_then known c.cycles.note cycle keeps.posting c.cycles.invariant.stays there keeps.is) keeps.tries last c.tell.ensures.rows ends

pub cycles-preserved : goal.cycles-preserved
cycles-preserved g c =
    let known = c.args.note.now in
    let cycle = c.cycle-item.result in
    let within : c.cycles.cycle-index < length c.args.cycles.now = omega (arith, c.cycles-test.true) in
    let there : IsThere known cycle = subst (IsThere known) (sym c.cycle-item.is) (c.requires.known c.cycles.cycle-index cycle within) in
    let last : is_last c.keep_cycle-answer.result ≡ false = last_by c.args.is_strict _ ∙ search rules in
    let ends : c.max-status.result ≡ max c.cycles.status (answer_status c.args.is_strict c.keep_cycle-answer.result) = search rules in
    record {
      board = c.keep_cycle-answer.ensures.board ∙ c.cycles.invariant.board;
      stays = stay_trans known c.cycles.note c.keep_cycle-answer.new.note c.cycles.invariant.stays c.keep_cycle-answer.ensures.stays;
      clean = λ clean. c.cycles.invariant.clean (c.keep_cycle-answer.ensures.clean clean);
      kept =
          λ clean. let keeps = c.keep_cycle-answer.ensures.tried clean in
          one_more g.S.Store c.args.is_strict (IsKnownIn known) c.args.cycles.now c.cycles.cycle-index cycle c.args.conn.now c.cycles.conn c.keep_cycle-answer.new.conn c.args.told.now.items c.cycles.told.items c.tell.new.told.items c.cycles.status c.max-status.result keeps.posting c.keep_cycle-answer.result
          within c.cycle-item.is (c.cycles.invariant.kept (c.keep_cycle-answer.ensures.clean clean)) (known_then known c.cycles.note cycle keeps.posting c.cycles.invariant.stays there keeps.is) keeps.tries last c.tell.ensures.rows ends;
      room = omega (arith, c.tell.ensures.len, c.tell.ensures.room, c.cycles.invariant.room, within);
    }

pub returns-clause-kept : goal.returns-clause-kept
returns-clause-kept g c clean =
    all_done g.S.Store c.args.is_strict (IsKnownIn c.args.note.now) c.args.cycles.now c.cycles.cycle-index c.args.conn.now c.cycles.conn c.args.told.now.items c.cycles.told.items c.cycles.status
    (omega (arith, c.cycles-test.false)) (c.cycles.invariant.kept clean)
