-- Contracts by name, from the map that keeps them.
use Rattle.std.proofs.Common.{◌≡◌, ℕ, ◌<◌, ◌≤◌, ◌+◌, Bool, true, false, cond, List, [], ◌∷◌, ◌++◌, length, map, Option, Some, None, Result, Ok, Err, refl, sym, ap, subst, ◌∙◌, arith}
use Rattle.std.proofs.lemmas.Bool.{le-leb}
use Rattle.std.proofs.lemmas.Bool.Decides.{nat_tests}
use Rattle.std.proofs.lemmas.List.{length-append}
use Rattle.std.proofs.lemmas.List.Elements.{All-push, All-tail}
use Rattle.std.specs.Cmp.Lexicographic.{bytes_decides}
use Rattle.std.specs.List.{IsDistinct}
use Rattle.std.specs.Map.{keys_of, lookup}
use Rattle.std.specs.Prelude.{if◌then◌else◌, is_some, nat_le, All}
use Rattle.gd_system.specs.Pipeline.{Pipeline, same_name}
use Rattle.gd_system.specs.Route.{ends_of}
use Rattle.gd_system.specs.declared.part.Ends.{Ends}
use Rattle.gd_system.specs.declared.RouteFault.{RouteFault}
use Rattle.gd_contracts.specs.Holdings.{Holdings, contract_named}
use Rattle.gd_contracts.specs.Adding.{refusal, primary_refusal, routed_within, checked_contract, with_contract}
use Rattle.gd_contracts.specs.Known.{IsServed, IsBanded, AreHoldings}
use Rattle.gd_contracts.specs.Inside.{contract_of}
use Rattle.gd_contracts.specs.declared.contract.Contract.{Contract}
use Rattle.gd_contracts.specs.declared.contract.Service.{Service}
use Rattle.gd_contracts.specs.declared.contract.Service.TheVariants.{Firm, Interruptible}
use Rattle.gd_contracts.specs.declared.contracts.Terms.{Terms}
use Rattle.gd_contracts.specs.declared.ContractFault.TheVariants.{Duplicate, TooMany}

-- the contract of a name and its terms
abbrev pub told : List ℕ → Option Terms → Option Contract
told name None = None
told name (Some terms) = Some (contract_of (name, terms))

pub named_lookup : (es : List (List ℕ × Terms)) (name : List ℕ) → contract_named (map contract_of es) name ≡ told name (lookup (same_name name) es)
named_lookup [] name = refl
named_lookup (e ∷ es) name = go (same_name name e.0) refl (named_lookup es name)
  where
    go : (v : Bool) → same_name name e.0 ≡ v → contract_named (map contract_of es) name ≡ told name (lookup (same_name name) es)
        → cond v (Some (contract_of e)) (contract_named (map contract_of es) name) ≡ told name (cond v (Some e.1) (lookup (same_name name) es))
    go true h ih = ap (λ k. Some (contract_of (k, e.1))) (sym ((bytes_decides name e.0).0 h))
    go false h ih = ih

some_told : (name : List ℕ) (r : Option Terms) → is_some (told name r) ≡ is_some r
some_told name None = refl
some_told name (Some terms) = refl

pub some_named : (es : List (List ℕ × Terms)) (name : List ℕ) → is_some (contract_named (map contract_of es) name) ≡ is_some (lookup (same_name name) es)
some_named es name = ap is_some (named_lookup es name) ∙ some_told name (lookup (same_name name) es)

untold : (name : List ℕ) (r : Option Terms) → told name r ≡ None → r ≡ None
untold name None h = refl
untold name (Some terms) h = cc

pub new_lookup : (es : List (List ℕ × Terms)) (name : List ℕ) → contract_named (map contract_of es) name ≡ None → lookup (same_name name) es ≡ None
new_lookup es name h = untold name (lookup (same_name name) es) (sym (named_lookup es name) ∙ h)

pub absent : {X : Type 0} (r : Option X) → is_some r ≡ false → r ≡ None
absent None e = refl
absent (Some x) e = cc

-- the first refusal, from what the look-ups say
pub duplicate_is : (h : Holdings) (name : List ℕ) (service : Service) → is_some (contract_named h.contracts name) ≡ true → Err Duplicate ≡ checked_contract h name service
duplicate_is h name service e = sym (ap (λ (v : Bool). if v then Err Duplicate else routed_within (length h.contracts) (primary_refusal h.pipeline service)) e)

pub checked_is : (h : Holdings) (name : List ℕ) (service : Service) (r : Option RouteFault) → is_some (contract_named h.contracts name) ≡ false → r ≡ primary_refusal h.pipeline service
    → routed_within (length h.contracts) r ≡ checked_contract h name service
checked_is h name service r e f =
    ap (routed_within (length h.contracts)) f ∙ sym (ap (λ (v : Bool). if v then Err Duplicate else routed_within (length h.contracts) (primary_refusal h.pipeline service)) e)

pub too_many : (n : ℕ) → 4096 ≤ n → routed_within n None ≡ Err TooMany
too_many n h = ap (λ (v : Bool). if v then Err TooMany else Ok tt) (le-leb 4096 n h)

pub few_enough : (n : ℕ) → n < 4096 → routed_within n None ≡ Ok tt
few_enough n h = let no : nat_le 4096 n ≡ false = grind (arith, nat_tests) in ap (λ (v : Bool). if v then Err TooMany else Ok tt) no

-- a contract that is not refused has its route
unrefused : (r : Result Ends RouteFault) → refusal r ≡ None → (ends : Ends) × (r ≡ Ok ends)
unrefused (Ok ends) h = (ends, refl)
unrefused (Err fault) h = cc

service_served : (p : Pipeline) (service : Service) → primary_refusal p service ≡ None → IsBanded service → IsServed p service
service_served p (Firm origin dest) h b = unrefused (ends_of p origin dest) h
service_served p (Interruptible band) h b = b

passed : (h : Holdings) (name : List ℕ) (service : Service) (u : Unit {0}) → checked_contract h name service ≡ Ok u → primary_refusal h.pipeline service ≡ None
passed h name service u e = go (is_some (contract_named h.contracts name)) (primary_refusal h.pipeline service) refl e
  where
    go : (v : Bool) (r : Option RouteFault) → primary_refusal h.pipeline service ≡ r → (if v then Err Duplicate else routed_within (length h.contracts) r) ≡ Ok u → primary_refusal h.pipeline service ≡ None
    go true r f e = cc
    go false None f e = f
    go false (Some fault) f e = cc

pub names_keys : (es : List (List ℕ × Terms)) → map (λ c. c.name) (map contract_of es) ≡ keys_of es
names_keys [] = refl
names_keys (e ∷ es) = ap (λ l. e.0 ∷ l) (names_keys es)

pub map_push : (es : List (List ℕ × Terms)) (e : List ℕ × Terms) → map contract_of (es ++ e ∷ []) ≡ map contract_of es ++ contract_of e ∷ []
map_push [] e = refl
map_push (x ∷ es) e = ap (λ l. contract_of x ∷ l) (map_push es e)

-- one contract more
pub contract_kept : (h : Holdings) (c : Contract) (u : Unit {0}) → AreHoldings h → checked_contract h c.name c.service ≡ Ok u → IsBanded c.service → length h.contracts < 4096 → IsDistinct same_name (map (λ x. x.name) (h.contracts ++ c ∷ []))
    → AreHoldings (with_contract h c)
contract_kept h c u k e banded few distinct =
    let more : length (h.contracts ++ c ∷ []) ≡ length h.contracts + 1 = length-append h.contracts (c ∷ []) in
    record {
      system = k.system;
      few = omega arith;
      distinct = distinct;
      served = All-push (λ x. IsServed h.pipeline x.service) h.contracts c k.served (service_served h.pipeline c.service (passed h c.name c.service u e) banded);
    }

-- the contract that is found is one of them
pub found_served : (p : Pipeline) (contracts : List Contract) (name : List ℕ) (c : Contract) → All (λ x. IsServed p x.service) contracts → contract_named contracts name ≡ Some c → IsServed p c.service
found_served p [] name c all e = cc
found_served p (x ∷ xs) name c all e = go (same_name name x.name) e (found_served p xs name c (All-tail (λ x. IsServed p x.service) x xs all))
  where
    here : IsServed p x.service
    here = all 0 x (omega arith)

    go : (v : Bool) → cond v (Some x) (contract_named xs name) ≡ Some c → (contract_named xs name ≡ Some c → IsServed p c.service) → IsServed p c.service
    go true e ih = let same : x ≡ c = cc in subst (λ z. IsServed p z.service) same here
    go false e ih = ih e
