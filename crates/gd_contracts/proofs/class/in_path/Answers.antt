use Rattle.std.proofs.Common.{sym, ap, ◌∙◌, refl, length}
use Rattle.std.specs.Prelude.{◌&&◌}
use Rattle.gd_tree.specs.Grown.{has_route}
use Rattle.gd_contracts.proofs.ClassAnswers.{in_path_here, in_path_is}
use Rattle.gd_contracts.proofs.class.in_path.Goals as goal

pub returns-then-origin-dest : goal.returns-then-origin-dest
returns-then-origin-dest c = in_path_here c.args.system.now c.known.ensures.known c.args.primary c.args.line c.requires.primary_ends c.requires.line_ends c.if-origin-dest.true

pub returns-then-runs : goal.returns-then-runs
returns-then-runs c =
    ap (λ v. v && c.runs-then-runs.result) (sym c.if-runs.true)
    ∙ in_path_is c.args.system.now c.known.ensures.known c.args.primary c.args.line c.requires.primary_ends c.requires.line_ends c.tree-tree.result.now c.runs.result c.runs-then-runs.result
    c.if-origin-dest.false c.tree-tree.ensures c.runs.ensures.is c.runs-then-runs.ensures.is

pub returns-else-runs : goal.returns-else-runs
returns-else-runs c =
    let tree = c.tree-tree.result.now in
    let after = has_route tree (length tree) c.args.line.dest_place.0 c.args.primary.dest_place.0 in
    c.if-runs.false
    ∙ ap (λ v. v && after) (sym c.if-runs.false)
    ∙ in_path_is c.args.system.now c.known.ensures.known c.args.primary c.args.line c.requires.primary_ends c.requires.line_ends tree c.runs.result after
    c.if-origin-dest.false c.tree-tree.ensures c.runs.ensures.is refl
