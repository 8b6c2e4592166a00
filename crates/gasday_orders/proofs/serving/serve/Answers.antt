use Rattle.std.proofs.Common.{rules}
use Rattle.gasday_orders.proofs.AskedTexts.{named, served, some_named}
use Rattle.gasday_orders.proofs.serving.serve.Goals as goal

pub returns-in-Ok : goal.returns-in-Ok
returns-in-Ok g c = served g.S.Store (g.O.Opener.opens c.args.file) _ _ _ _ _ _ c.in-Ok.text c.as_slice-lines.result.now
    (some_named (λ n. n.now) c.args.request.now.texts.items (search rules))
    (named c.as_slice.result.now c.args.request.now.texts.items c.in-Ok.text c.as_slice.ensures.value c.in-Ok.ensures.text)
    c.as_slice-lines.ensures.value
    c.serve_over-ran.ensures
