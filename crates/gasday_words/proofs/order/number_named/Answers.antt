use Rattle.gasday_words.proofs.Numbers.{nothing_read, read_number}
use Rattle.gasday_words.proofs.order.number_named.Goals as goal

pub returns-in_default : goal.returns-in_default
returns-in_default c = nothing_read c.args.word.now c.in_default.ensures.value.0

pub returns-then-number-le-MOST_NUMBER : goal.returns-then-number-le-MOST_NUMBER
returns-then-number-le-MOST_NUMBER c =
    read_number c.args.word.now c.in-Ok.number c.in-Ok.ensures.value.0 c.if-number-ge1.true c.if-number-le-MOST_NUMBER.true
