use Rattle.std.proofs.Common.{rules, ℕ, List, [], map, sym, subst, arith}
use Rattle.std.specs.List.{IsDistinct}
use Rattle.gd_system.specs.Pipeline.{Pipeline}
use Rattle.gd_system.specs.Known.{IsSystem}
use Rattle.gd_contracts.specs.Inside.{contract_of}
use Rattle.gd_contracts.specs.Known.{AreHoldings}
use Rattle.gd_contracts.specs.declared.contracts.Terms.{Terms}
use Rattle.gd_contracts.proofs.contracts.Contracts.new.Goals as goal

-- without contracts only the pipeline is to be known
no_holdings : (p : Pipeline) → IsSystem p → AreHoldings (record { pipeline = p; contracts = [] })
unfolding IsDistinct
no_holdings p s = record { system = s; few = omega arith; distinct = search rules; served = search rules }

pub invariant_of-result : goal.invariant_of-result
invariant_of-result c =
    subst (λ (entries : List (List ℕ × Terms)). AreHoldings (record { pipeline = c.args.system; contracts = map contract_of entries })) (sym c.new.ensures.empty) (no_holdings c.args.system c.known.ensures.known)
