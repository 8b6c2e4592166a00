use Rattle.std.proofs.Common.{rules, ◌≡◌, ◌≢◌, ◌+◌, inl, length, refl, sym, append-nil}
use Rattle.gd_serving.specs.Seen.{seen}
use Rattle.gd_live.specs.Seen.{stand_of}
use Rattle.gd_live.specs.Lines.{echoed}
use Rattle.gd_live.proofs.Taking.{is_none, row_taken}
use Rattle.gd_live.proofs.live_book.LiveBook.take_bare.Goals as goal

pub returns-then-is_empty : goal.returns-then-is_empty
returns-then-is_empty g c =
    let zero : length c.args.line.now ≡ 0 = search rules in (
      echoed,
      inl (is_none c.args.line.now zero, refl, refl),
      record {
        rows = sym (append-nil c.args.given.now.rows.items);
        replies = sym (append-nil c.args.given.now.replies.items);
        told = c.in_ok-push.ensures.items;
      },
    )

pub returns : goal.returns
returns g c =
    let some : length c.args.line.now ≢ 0 = search rules in
    let more : c.in-Some.number ≡ c.args.self.now.number + 1 = search rules in
    row_taken c.take_row.result (stand_of c.args.self.now) c.in-Some.number (stand_of c.take_row.new.self) c.args.line.now (seen c.args.given.now) (seen c.take_row.new.given) some more c.take_row.ensures
