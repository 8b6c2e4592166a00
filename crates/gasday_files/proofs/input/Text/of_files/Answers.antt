use Rattle.std.proofs.Common.{map, take, sym, subst}
use Rattle.std.proofs.lemmas.List.{map_more}
use Rattle.gasday_files.specs.Texts.{IsMadeOf, nothing, added}
use Rattle.gasday_files.proofs.input.Text.of_files.Goals as goal

pub names-init : goal.names-init
names-init c = nothing c.empty-text.result c.empty-text.ensures.bytes c.empty-text.ensures.parts

pub names-preserved : goal.names-preserved
names-preserved c =
    subst (λ names. IsMadeOf names c.add.new.self)
    (sym (map_more (λ n. n.now) c.args.names.now c.names.name-index _ c.names-test.true))
    (added (map (λ n. n.now) (take c.names.name-index c.args.names.now)) _ c.names.text c.add.new.self c.names.invariant c.in_default.ensures)
