use Rattle.std.proofs.Common.{◌≡◌, ◌+◌, ◌∙◌, ap, sym, inr}
use Rattle.gd_certificate.specs.Cutting.{Members}
use Rattle.gd_text.specs.Building.{built_from}
use Rattle.gd_text.specs.Members.{member_step, members_of}
use Rattle.std.proofs.lemmas.Result.{err_from_is_err_and}
use Rattle.gd_text.proofs.Building.{goes_on, stops, is_done}
use Rattle.gd_text.proofs.members.members_of.Goals as goal

pub returns-in_err-add_member : goal.returns-in_err-add_member
returns-in_err-add_member c =
    let p = err_from_is_err_and c.from_residual-in_err-add_member.result c.from_residual-in_err-add_member.ensures.1 in
    let step = member_step c.args.system.now in
    let begun : members_of c.args.rows.now c.args.system.now ≡ built_from step 1 c.in_ok-table.table c.args.rows.now = ap (λ (m : Members). built_from step 1 m c.args.rows.now) (sym c.in_ok-table.ensures) in
    rw (p.1, p.2) (inr (begun ∙ stops step (c.rows.index + 1) c.rows.index c.rows.table c.index-rows-index.result c.args.rows.now _ _ c.rows-test.true c.index-rows-index.is c.in_err-add_member.ensures.taken c.rows.invariant.built))

pub rows-preserved : goal.rows-preserved
rows-preserved c =
    let step = member_step c.args.system.now in
    record {
      built = goes_on step (c.rows.index + 1) c.rows.index c.rows.table c.add_member.new.table c.index-rows-index.result c.args.rows.now _ c.rows-test.true c.index-rows-index.is c.in_ok-add_member.ensures.taken c.rows.invariant.built;
      shaped = c.in_ok-add_member.ensures.shaped;
    }

pub returns : goal.returns
returns c =
    let step = member_step c.args.system.now in
    let begun : members_of c.args.rows.now c.args.system.now ≡ built_from step 1 c.in_ok-table.table c.args.rows.now = ap (λ (m : Members). built_from step 1 m c.args.rows.now) (sym c.in_ok-table.ensures) in
    begun ∙ is_done step (c.rows.index + 1) c.rows.index c.rows.table c.args.rows.now _ c.rows-test.false c.rows.invariant.built
