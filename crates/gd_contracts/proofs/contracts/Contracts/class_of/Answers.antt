use Rattle.std.proofs.Common.{◌≡◌, sym, subst, ◌∙◌, Some}
use Rattle.gd_contracts.specs.Holdings.{Holdings, contract_named}
use Rattle.gd_contracts.specs.Classed.{HasClass}
use Rattle.gd_contracts.specs.Inside.{holdings_of}
use Rattle.gd_contracts.proofs.ContractNames.{found_served}
use Rattle.gd_contracts.proofs.ClassAnswers.{class_is, told_is}
use Rattle.gd_contracts.proofs.contracts.Contracts.class_of.Goals as goal

pub class_under-requires-clause-routed : goal.class_under-requires-clause-routed
class_under-requires-clause-routed c =
    let h = holdings_of c.self.inside in
    let found = subst (λ (x : Holdings). contract_named x.contracts c.args.contract ≡ Some c.in-Some.agreed) (sym c.self.view_is) (sym c.contract.ensures ∙ c.in-Some.is) in
    found_served h.pipeline h.contracts c.args.contract c.in-Some.agreed c.self.invariant.served found

pub returns-clause-classed : goal.returns-clause-classed
returns-clause-classed c =
    let h = holdings_of c.self.inside in
    let found = subst (λ (x : Holdings). contract_named x.contracts c.args.contract ≡ Some c.in-Some.agreed) (sym c.self.view_is) (sym c.contract.ensures ∙ c.in-Some.is) in
    let told = told_is h c.args.contract c.args.origin c.args.dest c.in-Some.agreed c.in_ok-line.line c.class_under.result found (sym c.ends.ensures.is ∙ c.in_ok-line.was) c.class_under.ensures in
    subst (λ (x : Holdings). HasClass x c.args.contract c.args.origin c.args.dest c.class_under.result) c.self.view_is
    (class_is h c.args.contract c.args.origin c.args.dest c.class_under.result c.self.invariant told)
