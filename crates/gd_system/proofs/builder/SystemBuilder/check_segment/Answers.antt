use Rattle.std.proofs.Common.{◌∙◌, sym, ap}
use Rattle.gd_system.specs.BuilderInside.{pipeline_of}
use Rattle.gd_system.specs.Building.{joined_within}
use Rattle.gd_system.proofs.Checks.{checked_segment_is, too_many, few_enough}
use Rattle.gd_system.proofs.builder.SystemBuilder.check_segment.Goals as goal

pub returns-in-None-clause-is : goal.returns-in-None-clause-is
returns-in-None-clause-is c =
    ap (joined_within c.len-count.result) (sym c.in-None.is)
    ∙ checked_segment_is (pipeline_of c.self.inside) c.args.self.now c.args.name c.args.from c.args.to c.len-count.result c.eq.result c.get_index_of-a.result c.get_index_of-b.result c.joining.result c.self.view_is
    (sym c.has.ensures ∙ c.if-has.false) c.len-count.ensures.is c.eq.ensures c.get_index_of-a.ensures.is c.get_index_of-b.ensures.is c.joining.ensures.is

pub returns-then-count-ge-MAX_SEGMENTS-clause-is : goal.returns-then-count-ge-MAX_SEGMENTS-clause-is
returns-then-count-ge-MAX_SEGMENTS-clause-is c =
    sym (too_many c.len-count.result c.in-Some.joined c.if-count-ge-MAX_SEGMENTS.true)
    ∙ ap (joined_within c.len-count.result) (sym c.in-Some.is)
    ∙ checked_segment_is (pipeline_of c.self.inside) c.args.self.now c.args.name c.args.from c.args.to c.len-count.result c.eq.result c.get_index_of-a.result c.get_index_of-b.result c.joining.result c.self.view_is
    (sym c.has.ensures ∙ c.if-has.false) c.len-count.ensures.is c.eq.ensures c.get_index_of-a.ensures.is c.get_index_of-b.ensures.is c.joining.ensures.is

pub returns-else-count-ge-MAX_SEGMENTS-clause-is : goal.returns-else-count-ge-MAX_SEGMENTS-clause-is
returns-else-count-ge-MAX_SEGMENTS-clause-is c =
    sym (few_enough c.len-count.result c.in-Some.joined c.if-count-ge-MAX_SEGMENTS.false)
    ∙ ap (joined_within c.len-count.result) (sym c.in-Some.is)
    ∙ checked_segment_is (pipeline_of c.self.inside) c.args.self.now c.args.name c.args.from c.args.to c.len-count.result c.eq.result c.get_index_of-a.result c.get_index_of-b.result c.joining.result c.self.view_is
    (sym c.has.ensures ∙ c.if-has.false) c.len-count.ensures.is c.eq.ensures c.get_index_of-a.ensures.is c.get_index_of-b.ensures.is c.joining.ensures.is
