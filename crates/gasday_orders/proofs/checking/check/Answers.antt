use Rattle.std.proofs.Common.{inl}
use Rattle.gasday_orders.proofs.AskedTexts.{named}
use Rattle.gasday_orders.proofs.checking.check.Goals as goal

pub returns-in-Ok : goal.returns-in-Ok
returns-in-Ok g c = inl (c.in-Ok.text, named c.as_slice.result.now c.args.request.now.texts.items c.in-Ok.text c.as_slice.ensures.value c.in-Ok.ensures.text, c.check_files.ensures)
