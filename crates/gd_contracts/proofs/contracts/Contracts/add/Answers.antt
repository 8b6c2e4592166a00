use Rattle.std.proofs.Common.{◌≡◌, ◌<◌, ◌++◌, ◌∷◌, [], sym, ap, subst, ◌∙◌, length, List, ℕ, None, map}
use Rattle.std.specs.List.{IsDistinct}
use Rattle.std.specs.Map.{lookup}
use Rattle.gd_system.specs.Pipeline.{same_name}
use Rattle.gd_contracts.specs.Holdings.{Holdings, contract_named}
use Rattle.gd_contracts.specs.Adding.{checked_contract}
use Rattle.gd_contracts.specs.Known.{AreHoldings, IsBanded}
use Rattle.gd_contracts.specs.Inside.{holdings_of, contract_of}
use Rattle.gd_contracts.specs.declared.contract.Contract.{Contract}
use Rattle.gd_contracts.specs.declared.contracts.Terms.{Terms}
use Rattle.gd_contracts.proofs.ContractNames.{new_lookup, map_push, names_keys, contract_kept}
use Rattle.gd_contracts.proofs.contracts.Contracts.add.Goals as goal

pub push-requires-clause-new : goal.push-requires-clause-new
push-requires-clause-new c =
    let new = subst (λ (h : Holdings). contract_named h.contracts c.args.contract.name ≡ None) (sym c.self.view_is) c.in_ok-check.ensures.new in
    ap (lookup (same_name c.args.contract.name)) c.reserve.ensures.entries ∙ new_lookup c.self.inside.terms.entries c.args.contract.name new

pub invariant_of-self-2 : goal.invariant_of-self-2
invariant_of-self-2 c =
    let h = holdings_of c.self.inside in
    let contract : Contract = c.args.contract in
    let entry : List ℕ × Terms = (contract.name, c.terms_of-terms.result) in
    let entries : List (List ℕ × Terms) = c.push.new.self.entries in
    let more : map contract_of entries ≡ h.contracts ++ contract ∷ [] =
    ap (map contract_of) (c.push.ensures.last ∙ ap (λ l. l ++ entry ∷ []) c.reserve.ensures.entries)
    ∙ map_push c.self.inside.terms.entries entry
    ∙ ap (λ (x : Contract). h.contracts ++ x ∷ []) c.terms_of-terms.ensures in
    let passes =
    ap (checked_contract h contract.name) (sym (ap (λ (x : Contract). x.service) c.terms_of-terms.ensures))
    ∙ ap (λ (x : Holdings). checked_contract x contract.name c.terms_of-terms.result.service) c.self.view_is
    ∙ sym c.in_ok-check.ensures.is in
    let banded : IsBanded contract.service = subst IsBanded (ap (λ (x : Contract). x.service) c.terms_of-terms.ensures) c.read_band.ensures in
    let few : length h.contracts < 4096 = subst (λ (x : Holdings). length x.contracts < 4096) (sym c.self.view_is) c.in_ok-check.ensures.few in
    let distinct : IsDistinct same_name (map (λ x. x.name) (h.contracts ++ contract ∷ [])) =
    subst (IsDistinct same_name) (sym (names_keys entries) ∙ ap (map (λ (x : Contract). x.name)) more) c.push.ensures.unique in
    subst (λ (l : List Contract). AreHoldings (record h { contracts = l })) (sym more) (contract_kept h contract c.in_ok-check.field-0 c.self.invariant passes banded few distinct)
