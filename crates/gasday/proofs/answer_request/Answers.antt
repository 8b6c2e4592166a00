use Rattle.std.proofs.Common.{inl, inr}
use Rattle.gasday_words.specs.Ordered.{seen}
use Rattle.gasday.proofs.Carrying.{answered}
use Rattle.gasday.proofs.answer_request.Goals as goal

pub returns-in-Ok : goal.returns-in-Ok
returns-in-Ok g c = answered g.S.Store _ _ _ _ _ _ _ (seen c.args.request.now.order) c.requires (inl (c.in-Ok.text, c.in-Ok.ensures.text, c.answer.ensures))

pub returns-in-Err : goal.returns-in-Err
returns-in-Err g c = answered g.S.Store _ _ _ _ _ _ _ (seen c.args.request.now.order) c.requires (inr (c.in-Err.ensures.unread.0, (c.in-Err.unread, c.in-Err.ensures.unread.1, c.refuse.ensures.refused)))
