-- What the fields of contracts stand for.
use Rattle.std.specs.Prelude.{ℕ, List, map}
use Rattle.gd_contracts.specs.Holdings.{Holdings}
use Rattle.gd_contracts.specs.Known.{AreHoldings}
use Rattle.gd_contracts.specs.declared.contract.Contract.{Contract}
use Rattle.gd_contracts.specs.declared.contracts.Terms.{Terms}
use Rattle.gd_contracts.specs.declared.contracts.Contracts.TheInside.{Inside}

abbrev pub contract_of : List ℕ × Terms → Contract
contract_of e = record { name = e.0; shipper = e.1.shipper; quantity = e.1.quantity; service = e.1.service }

abbrev pub holdings_of : Inside → Holdings
holdings_of c = record { pipeline = c.system; contracts = map contract_of c.terms.entries }

abbrev pub AreHoldingsInside : Inside → Type 0
AreHoldingsInside c = AreHoldings (holdings_of c)
