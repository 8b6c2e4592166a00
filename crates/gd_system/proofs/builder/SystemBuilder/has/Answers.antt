use Rattle.std.proofs.Common.{◌≡◌, true, false, sym, ap, ◌∙◌}
use Rattle.std.proofs.lemmas.Map.Made.{is_some-lookup}
use Rattle.gd_system.specs.BuilderInside.{pipeline_of}
use Rattle.gd_system.specs.Pipeline.{names_of, same_name}
use Rattle.gd_system.specs.Building.{known}
use Rattle.gd_system.proofs.Names.{known_segment, known_point, known_pool}
use Rattle.gd_system.proofs.builder.SystemBuilder.has.Goals.{then-contains_key, else-contains_key}
use Rattle.gd_system.proofs.builder.SystemBuilder.has.Goals as goal

pub returns-then-contains_key-2 : goal.returns-then-contains_key-2
returns-then-contains_key-2 c =
    let p = pipeline_of c.self.inside in
    let told = sym (is_some-lookup (same_name c.args.name) c.self.inside.segments.entries) ∙ sym c.contains_key.ensures in
    let yes : known (names_of p) c.args.name ≡ true = elim c.if-contains_key.branch [
      | then-contains_key w ↦ known_segment p c.args.name (told ∙ w.if-contains_key.true)
      | else-contains_key w ↦ known_point p c.args.name (sym w.contains_key-else-contains_key.ensures ∙ sym w.value-is ∙ c.if-contains_key-2.true)
    ] in
    c.if-contains_key-2.true ∙ sym yes ∙ ap (λ x. known (names_of x) c.args.name) c.self.view_is

pub returns-else-contains_key-2 : goal.returns-else-contains_key-2
returns-else-contains_key-2 c =
    let p = pipeline_of c.self.inside in
    let told = sym (is_some-lookup (same_name c.args.name) c.self.inside.segments.entries) ∙ sym c.contains_key.ensures in
    let last : known (names_of p) c.args.name ≡ c.contains_key-else-contains_key-2.result = elim c.if-contains_key.branch [
      | then-contains_key w ↦ absurd (let no : true ≡ false = sym w.if-contains_key.true ∙ sym w.value-is ∙ c.if-contains_key-2.false in cc)
      | else-contains_key w ↦ known_pool p c.args.name (told ∙ w.if-contains_key.false) (sym w.contains_key-else-contains_key.ensures ∙ sym w.value-is ∙ c.if-contains_key-2.false) ∙ sym c.contains_key-else-contains_key-2.ensures
    ] in
    sym last ∙ ap (λ x. known (names_of x) c.args.name) c.self.view_is
