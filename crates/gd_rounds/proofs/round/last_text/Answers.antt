use Rattle.std.proofs.Common.{◌≡◌, ◌+◌, length, Ok, arith, ap, subst, sym, ◌∙◌}
use Rattle.std.specs.Prelude.{string_bytes}
use Rattle.gd_rounds.proofs.Search.{LastBefore, NoneBefore, none_left, none_seen}
use Rattle.gd_rounds.proofs.Written.{IsLast, last_so_far}
use Rattle.gd_rounds.proofs.round.last_text.Goals as goal

pub returns-clause-none : goal.returns-clause-none
returns-clause-none c none =
    let now = c.places in
    let walk = c.args.walk.now in
    let past = c.places-test.false in
    let low = c.places.auto.place-end in
    let count = ap length c.history-count.ensures.is in
    let end : now.place ≡ length walk.history + 1 = omega (arith, past, low, count) in
    let left = none_left now.found (NoneBefore now.walk.history c.args.cycle c.args.round now.place)
    (λ text. LastBefore now.walk.day now.walk.history c.args.cycle c.args.round now.place (string_bytes text)) none now.invariant.found in
    none_seen walk.day walk.history c.history-count.ensures.legal c.args.cycle c.args.round now.place end
    (subst (λ h. NoneBefore h c.args.cycle c.args.round now.place) now.invariant.history left)

pub places-preserved : goal.places-preserved
places-preserved c =
    let walk = c.go_to.new.self in
    let was = c.places in
    let went = c.in_ok-go_to.ensures in
    let at = went.at in
    let found = subst (λ h. IsLast was.walk.day h c.args.cycle c.args.round was.place string_bytes was.place was.found) (sym went.history) was.invariant.found in
    record {
      day = went.day ∙ was.invariant.day;
      history = went.history ∙ was.invariant.history;
      at = omega (arith, at);
      found = last_so_far walk.day walk.history c.args.cycle c.args.round was.place string_bytes c.in_ok-text_at.field-0 was.found c.later_of-found.result c.later_of-found.ensures
          c.in_ok-text_at.ensures.text (λ e. c.in_ok-text_at.ensures.none (ap Ok e))
          (subst (λ d. IsLast d walk.history c.args.cycle c.args.round was.place string_bytes was.place was.found) (sym went.day) found);
    }
