use Rattle.std.proofs.Common.{◌≡◌, None, sym, ap, ◌∙◌, length, arith, subst}
use Rattle.std.proofs.lemmas.List.{length-map}
use Rattle.gd_contracts.specs.Holdings.{Holdings, contract_named}
use Rattle.gd_contracts.specs.Adding.{checked_contract, routed_within}
use Rattle.gd_contracts.specs.Inside.{holdings_of, contract_of}
use Rattle.gd_contracts.proofs.ContractNames.{some_named, duplicate_is, checked_is, too_many, few_enough, absent}
use Rattle.gd_contracts.proofs.contracts.Contracts.check.Goals as goal

pub returns-then-contains_key-clause-is : goal.returns-then-contains_key-clause-is
returns-then-contains_key-clause-is c =
    duplicate_is (holdings_of c.self.inside) c.args.name c.args.service (some_named c.self.inside.terms.entries c.args.name ∙ sym c.contains_key.ensures ∙ c.if-contains_key.true)
    ∙ ap (λ h. checked_contract h c.args.name c.args.service) c.self.view_is

pub returns-in-Some-clause-is : goal.returns-in-Some-clause-is
returns-in-Some-clause-is c =
    let h = holdings_of c.self.inside in
    ap (routed_within (length h.contracts)) (sym c.in-Some.is)
    ∙ checked_is h c.args.name c.args.service c.primary_refusal.result (some_named c.self.inside.terms.entries c.args.name ∙ sym c.contains_key.ensures ∙ c.if-contains_key.false) c.primary_refusal.ensures
    ∙ ap (λ h. checked_contract h c.args.name c.args.service) c.self.view_is

pub returns-then-len-ge-MAX_CONTRACTS-clause-is : goal.returns-then-len-ge-MAX_CONTRACTS-clause-is
returns-then-len-ge-MAX_CONTRACTS-clause-is c =
    let h = holdings_of c.self.inside in
    let count = length-map c.self.inside.terms.entries contract_of in
    sym (too_many (length h.contracts) (omega (arith, count, c.len.ensures.is, c.if-len-ge-MAX_CONTRACTS.true)))
    ∙ ap (routed_within (length h.contracts)) (sym c.in_default.is)
    ∙ checked_is h c.args.name c.args.service c.primary_refusal.result (some_named c.self.inside.terms.entries c.args.name ∙ sym c.contains_key.ensures ∙ c.if-contains_key.false) c.primary_refusal.ensures
    ∙ ap (λ h. checked_contract h c.args.name c.args.service) c.self.view_is

pub returns-clause-is : goal.returns-clause-is
returns-clause-is c =
    let h = holdings_of c.self.inside in
    let count = length-map c.self.inside.terms.entries contract_of in
    sym (few_enough (length h.contracts) (omega (arith, count, c.len.ensures.is, c.if-len-ge-MAX_CONTRACTS.false)))
    ∙ ap (routed_within (length h.contracts)) (sym c.in_default.is)
    ∙ checked_is h c.args.name c.args.service c.primary_refusal.result (some_named c.self.inside.terms.entries c.args.name ∙ sym c.contains_key.ensures ∙ c.if-contains_key.false) c.primary_refusal.ensures
    ∙ ap (λ h. checked_contract h c.args.name c.args.service) c.self.view_is

pub returns-clause-new : goal.returns-clause-new
returns-clause-new c =
    let h = holdings_of c.self.inside in
    subst (λ (x : Holdings). contract_named x.contracts c.args.name ≡ None) c.self.view_is
    (absent (contract_named h.contracts c.args.name) (some_named c.self.inside.terms.entries c.args.name ∙ sym c.contains_key.ensures ∙ c.if-contains_key.false))
