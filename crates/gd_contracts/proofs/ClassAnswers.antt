-- The class that is told, and the test whether a line lies in the primary path.
use Rattle.std.proofs.Common.{◌≡◌, ◌≢◌, ℕ, Bool, true, List, length, Option, Some, None, Result, Ok, Err, refl, sym, ap, ◌∙◌}
use Rattle.std.specs.Prelude.{◌&&◌}
use Rattle.gd_rules.specs.Class.{lies_on}
use Rattle.gd_rules.specs.Question.{Element}
use Rattle.gd_tree.specs.Grown.{has_route}
use Rattle.gd_system.specs.Pipeline.{Pipeline, elements_of}
use Rattle.gd_system.specs.Route.{ends_of}
use Rattle.gd_system.specs.Ends.{AreEnds}
use Rattle.gd_system.specs.Known.{IsSystem}
use Rattle.gd_system.specs.declared.part.Ends.{Ends}
use Rattle.gd_system.specs.declared.RouteFault.{RouteFault}
use Rattle.gd_system.proofs.NamedEnds.{has_route-elements, told_route}
use Rattle.gd_contracts.specs.Holdings.{Holdings, contract_named}
use Rattle.gd_contracts.specs.Known.{AreHoldings}
use Rattle.gd_contracts.specs.Classes.{route_between, firm_between, bought, class_between, class_under, class_answer}
use Rattle.gd_contracts.specs.Classed.{IsClass, HasClass}
use Rattle.gd_contracts.specs.declared.contract.Contract.{Contract}
use Rattle.gd_contracts.specs.declared.contract.Service.{Service}
use Rattle.gd_contracts.specs.declared.contract.Service.TheVariants.{Firm, Interruptible}
use Rattle.gd_contracts.proofs.InPath.{lies_by_ends, lies_at_once}

module _ (p : Pipeline) (s : IsSystem p) (primary line : Ends) (a : AreEnds p primary) (b : AreEnds p line) where
  -- a line at one place passes no segment
  pub in_path_here : line.origin_place.0 ≡ line.dest_place.0 → true ≡ lies_on (route_between p primary) (route_between p line)
  in_path_here e = sym (lies_at_once (length p.tree) (elements_of p) s.grown primary.origin_place.0 primary.dest_place.0 line.origin_place.0 line.dest_place.0 b.dest_placed e)

  -- the test by two walks along the tree of segments
  pub in_path_is : (tree : List Element) (before after : Bool) → line.origin_place.0 ≢ line.dest_place.0 → tree ≡ p.tree
      → before ≡ has_route tree (length tree) primary.origin_place.0 line.origin_place.0 → after ≡ has_route tree (length tree) line.dest_place.0 primary.dest_place.0
      → (before && after) ≡ lies_on (route_between p primary) (route_between p line)
  in_path_is tree before after apart same e f =
      let n = length p.tree in
      let first : before ≡ has_route (elements_of p) n primary.origin_place.0 line.origin_place.0 =
      e ∙ ap (λ (t : List Element). has_route t (length t) primary.origin_place.0 line.origin_place.0) same ∙ sym (has_route-elements p primary.origin_place.0 line.origin_place.0) in
      let last : after ≡ has_route (elements_of p) n line.dest_place.0 primary.dest_place.0 =
      f ∙ ap (λ (t : List Element). has_route t (length t) line.dest_place.0 primary.dest_place.0) same ∙ sym (has_route-elements p line.dest_place.0 primary.dest_place.0) in
      ap (λ v. v && after) first
      ∙ ap (λ v. has_route (elements_of p) n primary.origin_place.0 line.origin_place.0 && v) last
      ∙ sym (lies_by_ends n (elements_of p) s.grown primary.origin_place.0 primary.dest_place.0 line.origin_place.0 line.dest_place.0 a.origin_placed a.dest_placed b.origin_placed b.dest_placed a.routed b.routed apart)

-- what is told is the class of the tariff, for the one route of the line and the one primary route
is_class : (p : Pipeline) → IsSystem p → (service : Service) (line : Ends) (class : ℕ) → class_between p line (bought p service) ≡ Ok class → IsClass p service line (route_between p line) class
is_class p s (Firm origin dest) line class e = go (ends_of p origin dest) refl e
  where
    go : (r : Result Ends RouteFault) → ends_of p origin dest ≡ r → class_between p line (firm_between p r) ≡ Ok class → IsClass p (Firm origin dest) line (route_between p line) class
    go (Ok primary) f e = (primary, route_between p primary, f, told_route p s origin dest primary f, cc)
    go (Err fault) f e = cc
is_class p s (Interruptible band) line class e = cc

pub class_is : (h : Holdings) (contract origin dest : List ℕ) (class : ℕ) → AreHoldings h → class_answer h contract origin dest ≡ Ok class → HasClass h contract origin dest class
class_is h contract origin dest class k e = go (contract_named h.contracts contract) (ends_of h.pipeline origin dest) refl refl e
  where
    go : (c : Option Contract) (r : Result Ends RouteFault) → contract_named h.contracts contract ≡ c → ends_of h.pipeline origin dest ≡ r → class_under h.pipeline c r ≡ Ok class → HasClass h contract origin dest class
    go None r f g e = cc
    go (Some agreed) (Err fault) f g e = cc
    go (Some agreed) (Ok line) f g e = record {
      agreed = agreed;
      line = line;
      route = route_between h.pipeline line;
      found = f;
      told = g;
      leads = told_route h.pipeline k.system origin dest line g;
      is = is_class h.pipeline k.system agreed.service line class e;
    }

pub told_is : (h : Holdings) (contract origin dest : List ℕ) (agreed : Contract) (line : Ends) (class : ℕ) → contract_named h.contracts contract ≡ Some agreed → ends_of h.pipeline origin dest ≡ Ok line
    → class_between h.pipeline line (bought h.pipeline agreed.service) ≡ Ok class → class_answer h contract origin dest ≡ Ok class
told_is h contract origin dest agreed line class f g e =
    ap (λ o. class_under h.pipeline o (ends_of h.pipeline origin dest)) f ∙ ap (class_under h.pipeline (Some agreed)) g ∙ e
