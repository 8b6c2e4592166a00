use Rattle.std.proofs.Common.{rules, ◌≡◌, ◌+◌, ◌++◌, ◌∙◌, ap}
use Rattle.std.specs.Int.{w128}
use Rattle.std.specs.List.{flat_map, range_with_len}
use Rattle.std.proofs.lemmas.Int.{to_z-of_z}
use Rattle.gd_cost.specs.Parts.{class_words}
use Rattle.gd_replies.specs.Replies.{level_row}
use Rattle.gd_replies.proofs.Rest.{class_more}
use Rattle.gd_replies.proofs.solved.push_price.Goals as goal

pub classes-preserved : goal.classes-preserved
classes-preserved c =
    let words = class_words c.args.price in
    class_more (λ k. level_row c.args.element (k + 1) (words.0 k) (words.1 k)) c.args.rows.now.items c.classes.rows.items c.push_level.new.rows.items c.classes.class c.classes.invariant
    (rw (to_z-of_z w128 c.word-first.result c.word-first.ensures.fits, to_z-of_z w128 c.word-second.result c.word-second.ensures.fits, c.word-first.ensures.is, c.first.ensures, c.word-second.ensures.is, c.second.ensures) at c.in_ok-push_level.ensures)

pub returns : goal.returns
returns c =
    let words = class_words c.args.price in
    let all : c.classes.class ≡ 8 = search rules in
    c.classes.invariant ∙ ap (λ n. c.args.rows.now.items ++ flat_map (λ k. level_row c.args.element (k + 1) (words.0 k) (words.1 k)) (range_with_len 0 n)) all
