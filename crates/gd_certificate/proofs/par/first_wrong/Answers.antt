use Rattle.std.proofs.Common.{◌≡◌, ℕ, ◌-◌, ◌<◌, ◌^◌, ◌∙◌, ap, arith, subst, sym, rules, Bool}
use Rattle.std.specs.List.{AllZip, range_with_len}
use Rattle.rayon.proofs.ToStd.{nat_range-All}
use denote.Param.Always.{Asked}
use denote.Param.Members.{lent}
use Rattle.gd_certificate.specs.Search.{FindsFirst}
use Rattle.gd_certificate.proofs.Searching.{first_found}
use Rattle.gd_certificate.proofs.par.first_wrong.Goals as goal

pub position_first-requires-clause-items : goal.position_first-requires-clause-items
position_first-requires-clause-items g c κs within =
    let ends = c.into_par_iter.ensures in
    rw (ends.0, ends.1) (nat_range-All (λ i. Asked g.F.Fn (lent c.args.is_wrong, (i, tt))) 0 c.args.count (λ i low high. c.requires i high))

pub returns : goal.returns
returns g c =
    let h = c.position_first.ensures in
    let ends = c.into_par_iter.ensures in
    let short : c.args.count < 2 ^ 64 = search rules in
    let whole : c.args.count - 0 ≡ c.args.count = omega arith in
    let asked = h.2 ∙ (λ i. range_with_len (ends.0 i) (ends.1 i - ends.0 i)) ∙ ap (range_with_len 0) whole in
    let answers : ℕ → Bool → Type 0 = λ i b. g.F.Fn.post c.args.is_wrong (i, tt) b in
    subst (FindsFirst c.args.count answers) (sym h.4) (first_found answers c.args.count h.1 short (subst (λ xs. AllZip answers xs h.1) asked h.3))
