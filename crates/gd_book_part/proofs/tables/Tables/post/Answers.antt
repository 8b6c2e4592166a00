use Rattle.std.proofs.Common.{refl, arith}
use Rattle.gd_book_part.proofs.QuietEvents.{post_more, post_within}
use Rattle.gd_book_part.proofs.tables.Tables.post.Goals as goal

pub index_mut-requires : goal.index_mut-requires
index_mut-requires c =
    let within = post_within c.args.opening.now c.args.history.now c.args.moment c.args.element.0 c.args.capacity c.known.ensures c.requires.accepted in
    let limited = c.requires.kept.limited in
    omega (arith, within, limited)

pub returns : goal.returns
returns c =
    let within = post_within c.args.opening.now c.args.history.now c.args.moment c.args.element.0 c.args.capacity c.known.ensures c.requires.accepted in
    let limited = c.requires.kept.limited in
    λ reply. post_more c.args.opening.now c.args.history.now c.args.moment c.args.element.0 c.args.capacity reply c.args.self.now c.later_of-self.result _ c.later_of-self.ensures c.requires.kept c.requires.accepted (omega (arith, within, limited)) refl
