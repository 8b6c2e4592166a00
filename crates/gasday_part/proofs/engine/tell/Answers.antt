use Rattle.std.proofs.Common.{◌+◌, arith}
use Rattle.gasday_part.specs.AnswerSeen.{last_row}
use Rattle.gasday_part.proofs.Writing.{printed_more, printed_on, stops_short, short_of, all_told}
use Rattle.gasday_part.proofs.engine.tell.Goals as goal
use Rattle.gasday_part.proofs.engine.tell.Goals.{then-len-ge-BLOCK+in-Ok-write_bytes, else-len-ge-BLOCK}

pub returns-in_default : goal.returns-in_default
returns-in_default g c =
    let short = rw c.as_slice.ensures.value at c.tell_short.ensures.told in
    let short = rw c.in_default.ensures.err at short in
    rw c.tell_short.ensures.status (short_of _ _ _ c.args.replies.now (last_row c.args.short) c.args.status c.replies.reply-index c.replies.block.items (omega arith) c.replies.invariant short)

pub returns-then-short : goal.returns-then-short
returns-then-short g c =
    let short = rw c.as_slice-then-short.ensures.value at c.tell_short-then-short.ensures.told in
    rw c.tell_short-then-short.ensures.status (short_of _ _ _ c.args.replies.now (last_row c.args.short) c.args.status c.replies.reply-index c.replies.block.items (omega arith) c.replies.invariant short)

pub returns-in-Ok-write_bytes-2 : goal.returns-in-Ok-write_bytes-2
returns-in-Ok-write_bytes-2 g c =
    let now = rw c.as_slice-2.ensures.value at c.in-Ok-write_bytes-2.ensures.all in
    rw c.if-short.false (all_told _ _ _ c.args.replies.now c.args.status c.replies.reply-index c.replies.block.items (omega (arith, c.replies-test.false)) c.replies.invariant now)

pub returns : goal.returns
returns g c =
    let some = c.write_bytes-2.ensures.front in
    let bytes = c.as_slice-2.ensures.value in
    stops_short _ _ _ c.args.replies.now (last_row c.args.short) c.args.status c.replies.reply-index some.0 c.replies.block.items (omega arith) (rw bytes at some.1) c.replies.invariant (rw bytes at some.2)

pub returns-in_default-write_bytes : goal.returns-in_default-write_bytes
returns-in_default-write_bytes g c =
    let here = printed_more _ _ c.args.replies.now c.replies.reply-index c.replies.block.items c.add.new.block.items c.reply-item.result (omega arith) c.reply-item.is c.in-Ok.ensures.ok c.replies.invariant in
    let some = c.write_bytes.ensures.front in
    let bytes = c.as_slice-then-len-ge-BLOCK.ensures.value in
    stops_short _ _ _ c.args.replies.now (last_row c.args.short) c.args.status (c.replies.reply-index + 1) some.0 c.add.new.block.items (omega arith) (rw bytes at some.1) here (rw bytes at some.2)

pub replies-preserved : goal.replies-preserved
replies-preserved g c =
    let here = printed_more _ _ c.args.replies.now c.replies.reply-index c.replies.block.items c.add.new.block.items c.reply-item.result (omega arith) c.reply-item.is c.in-Ok.ensures.ok c.replies.invariant in
    elim c.if-len-ge-BLOCK.branch [
      | then-len-ge-BLOCK+in-Ok-write_bytes w ↦
          let now = rw w.as_slice-then-len-ge-BLOCK.ensures.value at w.in-Ok-write_bytes.ensures.all in
          rw w.writer-is (rw w.block-is (printed_on _ _ _ c.args.replies.now (c.replies.reply-index + 1) c.add.new.block.items w.clear.new.self.items w.clear.ensures.items now here))
      | else-len-ge-BLOCK w ↦ rw w.writer-is (rw w.block-is here)
    ]
