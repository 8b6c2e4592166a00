use Rattle.std.proofs.Common.{rules, ◌≡◌, ◌+◌, ◌++◌, ◌∙◌, ap, string_bytes}
use Rattle.std.specs.Int.{w128}
use Rattle.std.specs.List.{flat_map, range_with_len}
use Rattle.std.proofs.lemmas.Int.{to_z-of_z}
use Rattle.gd_cost.specs.Parts.{class_words}
use Rattle.gd_body.specs.Rows.{lines_of, level_row}
use Rattle.gd_body.proofs.RowLists.{rows_more}
use Rattle.gd_body.proofs.taken.write_price.Goals as goal

pub classes-preserved : goal.classes-preserved
classes-preserved c =
    let words = class_words c.args.price in
    rows_more (λ k. level_row c.args.element (k + 1) (words.0 k) (words.1 k)) (string_bytes c.args.text.now) (string_bytes c.classes.text) (string_bytes c.write_level.new.text) c.classes.class c.classes.invariant
    (rw (to_z-of_z w128 c.word-first.result c.word-first.ensures.fits, to_z-of_z w128 c.word-second.result c.word-second.ensures.fits, c.word-first.ensures.is, c.first.ensures, c.word-second.ensures.is, c.second.ensures) at c.in_ok-write_level.ensures)

pub returns : goal.returns
returns c =
    let words = class_words c.args.price in
    let all : c.classes.class ≡ 8 = search rules in
    c.classes.invariant ∙ ap (λ n. string_bytes c.args.text.now ++ lines_of (flat_map (λ k. level_row c.args.element (k + 1) (words.0 k) (words.1 k)) (range_with_len 0 n))) all
