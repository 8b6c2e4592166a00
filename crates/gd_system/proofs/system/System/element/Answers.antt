use Rattle.std.proofs.Common.{◌≡◌, ◌+◌, length, sym, ap, ◌∙◌, arith}
use Rattle.std.specs.Prelude.{Some}
use Rattle.std.specs.Option.{option_map}
use Rattle.gd_system.specs.Pipeline.{element_number}
use Rattle.gd_system.specs.SystemInside.{pipeline_of}
use Rattle.gd_system.proofs.Slots.{segment_number, point_number, pool_number}
use Rattle.gd_system.proofs.system.System.element.Goals as goal

pub returns-in-Some-clause-is : goal.returns-in-Some-clause-is
returns-in-Some-clause-is c =
    let p = pipeline_of c.self.inside in
    sym (segment_number p c.self.invariant.named c.args.name c.in-Some.at (sym c.get_index_of.ensures.is ∙ c.in-Some.is))
    ∙ ap (λ x. element_number x c.args.name) c.self.view_is

pub returns-in-Some-get_index_of-clause-is : goal.returns-in-Some-get_index_of-clause-is
returns-in-Some-get_index_of-clause-is c =
    let p = pipeline_of c.self.inside in
    let at = c.in-Some-get_index_of.at in
    ap (λ n. Some (n + at)) c.len-segments.ensures.is
    ∙ sym (point_number p c.self.invariant.named c.args.name at (sym c.get_index_of.ensures.is ∙ c.in_default.is) (sym c.get_index_of-2.ensures.is ∙ c.in-Some-get_index_of.is))
    ∙ ap (λ x. element_number x c.args.name) c.self.view_is

pub returns-in_err-at-clause-is : goal.returns-in_err-at-clause-is
returns-in_err-at-clause-is c =
    let p = pipeline_of c.self.inside in
    let n = length p.tree + length p.points in
    ap (option_map (λ e. e.0)) c.from_residual.ensures
    ∙ ap (option_map (λ k. n + k)) (sym c.in_err-at.was ∙ c.get_index_of-3.ensures.is)
    ∙ sym (pool_number p c.self.invariant.named c.args.name (sym c.get_index_of.ensures.is ∙ c.in_default.is) (sym c.get_index_of-2.ensures.is ∙ c.in_default-get_index_of.is))
    ∙ ap (λ x. element_number x c.args.name) c.self.view_is

pub returns-clause-is : goal.returns-clause-is
returns-clause-is c =
    let p = pipeline_of c.self.inside in
    let n = length p.tree + length p.points in
    let count : c.len-segments.result + c.len.result ≡ n = omega (arith, c.len-segments.ensures.is, c.len.ensures.is) in
    ap (λ k. Some (k + c.in_ok-at.at)) count
    ∙ ap (option_map (λ k. n + k)) (sym c.in_ok-at.was ∙ c.get_index_of-3.ensures.is)
    ∙ sym (pool_number p c.self.invariant.named c.args.name (sym c.get_index_of.ensures.is ∙ c.in_default.is) (sym c.get_index_of-2.ensures.is ∙ c.in_default-get_index_of.is))
    ∙ ap (λ x. element_number x c.args.name) c.self.view_is
