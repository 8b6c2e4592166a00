use Rattle.std.proofs.Common.{rules, ◌≡◌, ◌∷◌, [], ◌++◌, ◌∙◌, ap, true, List}
use Rattle.std.specs.Result.{is_ok}
use Rattle.gd_replies.specs.declared.reply.Reply.{Reply}
use Rattle.gd_replies.proofs.Rest.{set_told}
use Rattle.gd_replies.proofs.solved.set_replies.Goals as goal

pub returns : goal.returns
returns c =
    let good : is_ok c.push.result ≡ true = search rules in
    let items = rw good at c.push.ensures.items in
    let one = items ∙ ap (λ (l : List Reply). l ++ c.args.told ∷ []) c.new-rows.ensures.items in
    let two = rw c.places.ensures at c.in_ok-push_places.ensures in
    let three = rw (c.segment_count-points.ensures, c.points.ensures) at c.in_ok-push_ends.ensures in
    let four = rw (c.segment_count-points.ensures, c.point_count.ensures, c.pools.ensures) at c.in_ok-push_ends-2.ensures in
    set_told c.args.told c.args.system.now c.args.set.now c.push.new.self.items c.push_places.new.rows.items c.push_ends.new.rows.items c.push_ends-2.new.rows.items c.known.ensures.known.named c.requires.1 one two three four
