use Rattle.std.proofs.Common.{inl, inr}
use Rattle.gasday_orders.proofs.AskedTexts.{found}
use Rattle.gasday_orders.proofs.asking.ask.Goals as goal

pub returns-in-Ok-Some : goal.returns-in-Ok-Some
returns-in-Ok-Some g c = inl (
  c.in-Some.inquiry,
  c.in-Some.ensures.asks,
  inr (c.in-Ok-Some.text, found c.args.name.now c.in-Ok-Some.field-0 c.in-Ok-Some.text c.in-Ok-Some.field-0-is c.in-Ok-Some.ensures.text, c.ask_rows.ensures.file, c.ask_rows.ensures.asked),
)
