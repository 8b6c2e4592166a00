use Rattle.std.proofs.Common.{sym, ap, ◌∙◌}
use Rattle.gd_contracts.specs.Holdings.{Holdings, contract_named}
use Rattle.gd_contracts.proofs.ContractNames.{named_lookup, told}
use Rattle.gd_contracts.proofs.contracts.Contracts.contract.Goals as goal

pub returns-in_err-terms : goal.returns-in_err-terms
returns-in_err-terms c =
    c.from_residual.ensures
    ∙ ap (told c.args.name) (sym c.in_err-terms.was ∙ c.get.ensures)
    ∙ sym (named_lookup c.self.inside.terms.entries c.args.name)
    ∙ ap (λ (h : Holdings). contract_named h.contracts c.args.name) c.self.view_is

pub returns : goal.returns
returns c =
    ap (told c.args.name) (sym c.in_ok-terms.was ∙ c.get.ensures)
    ∙ sym (named_lookup c.self.inside.terms.entries c.args.name)
    ∙ ap (λ (h : Holdings). contract_named h.contracts c.args.name) c.self.view_is
