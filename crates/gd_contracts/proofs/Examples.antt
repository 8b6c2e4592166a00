-- The definitions, computed on a small pipeline with a branch: segments S1 from A to B, S2 from B to C and S3 from B to E; receipts R1 at A, RC at C and RE at E; deliveries D1 at C, DB at B, DE at E and DA at A; the pool HUB at B.
-- Contract F is firm from R1 to D1, so its primary route is S1 and S2. Contract I is interruptible at band 3.
use Rattle.std.proofs.Common.{◌≡◌, ℕ, List, [], ◌∷◌, None, Ok, Err, refl}
use Rattle.gd_rules.specs.Question.Element.{Segment as segment}
use Rattle.gd_tree.specs.Walk.{walk}
use Rattle.gd_system.specs.Pipeline.{Pipeline}
use Rattle.gd_system.specs.declared.part.Point.{Point}
use Rattle.gd_system.specs.declared.RouteFault.TheVariants.{UnknownEnd, WrongEnd, SameEnd, NoRoute}
use Rattle.gd_units.specs.declared.service.Kind.{Kind}
use Rattle.gd_units.specs.declared.service.Kind.TheVariants.{Receipt, Delivery}
use Rattle.gd_contracts.specs.Holdings.{Holdings}
use Rattle.gd_contracts.specs.Adding.{none_on, routed_within, after_contract}
use Rattle.gd_contracts.specs.Classes.{class_answer}
use Rattle.gd_contracts.specs.declared.contract.Contract.{Contract}
use Rattle.gd_contracts.specs.declared.contract.Service.{Service}
use Rattle.gd_contracts.specs.declared.contract.Service.TheVariants.{Firm, Interruptible}
use Rattle.gd_contracts.specs.declared.ContractFault.TheVariants.{Duplicate, Route as Unrouted, TooMany}
use Rattle.gd_contracts.specs.declared.ClassFault.TheVariants.{UnknownContract, Route}

abbrev one : ℕ → List ℕ
one a = a ∷ []

abbrev two : ℕ → ℕ → List ℕ
two a b = a ∷ b ∷ []

abbrev r1 : List ℕ
r1 = two 82 49

abbrev rc : List ℕ
rc = two 82 67

abbrev re : List ℕ
re = two 82 69

abbrev d1 : List ℕ
d1 = two 68 49

abbrev db : List ℕ
db = two 68 66

abbrev de : List ℕ
de = two 68 69

abbrev da : List ℕ
da = two 68 65

abbrev hub : List ℕ
hub = 72 ∷ 85 ∷ 66 ∷ []

abbrev nowhere : List ℕ
nowhere = one 88

abbrev f : List ℕ
f = one 70

abbrev i : List ℕ
i = one 73

abbrev shipper : List ℕ
shipper = two 83 72

abbrev point : List ℕ → Kind → ℕ → List ℕ × Point
point name kind place = (name, record { kind = kind; place = record { 0 = place }; operator = two 79 80; capacity = 100 })

abbrev small : Pipeline
small = record {
  places = one 65 ∷ one 66 ∷ one 67 ∷ one 69 ∷ [];
  segments = two 83 49 ∷ two 83 50 ∷ two 83 51 ∷ [];
  tree = segment 0 1 100 ∷ segment 1 2 80 ∷ segment 1 3 40 ∷ [];
  points = point r1 Receipt 0 ∷ point rc Receipt 2 ∷ point re Receipt 3 ∷ point d1 Delivery 2 ∷ point db Delivery 1 ∷ point de Delivery 3 ∷ point da Delivery 0 ∷ [];
  pools = (hub, record { place = record { 0 = 1 }; operator = two 79 80 }) ∷ [];
}

abbrev contract : List ℕ → Service → Contract
contract name service = record { name = name; shipper = shipper; quantity = 50; service = service }

abbrev firm : Contract
firm = contract f (Firm r1 d1)

abbrev interruptible : Contract
interruptible = contract i (Interruptible 3)

abbrev holdings : Holdings
holdings = record { pipeline = small; contracts = firm ∷ interruptible ∷ [] }

abbrev one_holding : Holdings
one_holding = record { pipeline = small; contracts = firm ∷ [] }

-- contracts are entered in turn
first : after_contract (none_on small) firm ≡ Ok one_holding
unfolding walk
first = refl

second : after_contract one_holding interruptible ≡ Ok holdings
second = refl

-- a name that is there comes before ends that are unknown
again : after_contract holdings (contract i (Firm nowhere nowhere)) ≡ Err Duplicate
again = refl

-- primary ends with no route: unknown, turned, and against the segments
unknown_ends : after_contract (none_on small) (contract f (Firm nowhere d1)) ≡ Err (Unrouted UnknownEnd)
unknown_ends = refl

turned_ends : after_contract (none_on small) (contract f (Firm d1 r1)) ≡ Err (Unrouted WrongEnd)
turned_ends = refl

against_ends : after_contract (none_on small) (contract f (Firm rc da)) ≡ Err (Unrouted NoRoute)
unfolding walk
against_ends = refl

-- the 4,096th contract is taken, and the 4,097th is not
last_place : routed_within 4095 None ≡ Ok tt
last_place = refl

no_place : routed_within 4096 None ≡ Err TooMany
no_place = refl

-- from the primary receipt to the primary delivery
primary : class_answer holdings f r1 d1 ≡ Ok 1
unfolding walk
primary = refl

-- to a delivery at B, on the way
on_the_way : class_answer holdings f r1 db ≡ Ok 2
unfolding walk
on_the_way = refl

-- into a pool at B and out of it
into_pool : class_answer holdings f r1 hub ≡ Ok 2
unfolding walk
into_pool = refl

out_of_pool : class_answer holdings f hub d1 ≡ Ok 2
unfolding walk
out_of_pool = refl

-- at E alone, on the branch: no segment is passed
at_one_place : class_answer holdings f re de ≡ Ok 2
unfolding walk
at_one_place = refl

-- to E, over S1 on the way and S3 off it
off_the_way : class_answer holdings f r1 de ≡ Ok 3
unfolding walk
off_the_way = refl

wrong : class_answer holdings f d1 r1 ≡ Err (Route WrongEnd)
wrong = refl

against : class_answer holdings f rc da ≡ Err (Route NoRoute)
unfolding walk
against = refl

same : class_answer holdings f hub hub ≡ Err (Route SameEnd)
same = refl

-- interruptible service at band 3, for any line with a route
band_three : class_answer holdings i r1 d1 ≡ Ok 6
unfolding walk
band_three = refl

band_three_branch : class_answer holdings i r1 de ≡ Ok 6
unfolding walk
band_three_branch = refl

-- an unknown contract comes before unknown ends
unknown_first : class_answer holdings nowhere nowhere nowhere ≡ Err UnknownContract
unknown_first = refl

unknown_end : class_answer holdings f nowhere d1 ≡ Err (Route UnknownEnd)
unknown_end = refl
