-- Steps that can't be made.
use Rattle.std.proofs.Common.{◌≡◌, ◌≢◌, ℕ, zero, suc, ◌-◌, ◌+◌, ◌*◌, ◌≤◌, ◌<◌, true, false, not, Option, Some, List, [], ◌∷◌, ◌++◌, replicate}
use Rattle.std.proofs.Common.{slice_get, refl, ap, subst, arith}
use Rattle.std.proofs.Math.Nat.{mul-le-mul_left}
use Rattle.std.proofs.lemmas.Map.Entries.{All-lookup}
use Rattle.std.specs.Prelude.{IfSome, IsSome, is_some, nat_eq}
use Rattle.route_base.specs.Itinerary.{Position, Step, wait, Walks}
use Rattle.route_base.specs.Legs.{HasNoEmptyWait}
use Rattle.route_base.specs.Setting.{Setting}
use Rattle.route_base.specs.declared.limits.TheConstants.{HEAVIEST_WEIGHT}
use Rattle.route_base.specs.declared.types.Leg.{Leg}
use Rattle.route_base.specs.declared.types.Leg.TheVariants.{Wait}
use Rattle.route_base.proofs.Logic.{map_some}
use Rattle.route_base.proofs.Waiting.{same_position, waits}
use Rattle.vehicle_classes.specs.VehicleModel.{VehicleModel}
use Rattle.network_tables.specs.Access.{is_park_open}
use Rattle.network_tables.specs.NetworkModel.{NetworkModel, IsGoodNetwork, park_of, weight_at}
use Rattle.network_tables.specs.Parking.{ParkRow}
use Rattle.network_tables.specs.RoadSetting.{road_setting}

-- some of the minutes of a wait, the next one, and the rest
pub wait_split : (n k : ℕ) → k < n → (left : List Step) × (replicate n wait ≡ replicate k wait ++ wait ∷ left)
wait_split zero k lt = absurd (omega (arith, lt))
wait_split (suc n) zero lt = (replicate n wait, refl)
wait_split (suc n) (suc k) lt =
    let rest = wait_split n k (omega (arith, lt)) in
    (rest.0, ap (λ (xs : List Step). wait ∷ xs) rest.1)

-- waiting until a minute
pub waits_to : (s : Setting) (until v t u x weight : ℕ) → s.weight v ≡ Some weight → t ≤ u → u ≤ until
    → ((m : ℕ) → t ≤ m → m < u → s.wait_shut v m ≡ false) → Walks s until (replicate (u - t) wait)
    (record { node = v; minute = t; cost = x }) (record { node = v; minute = u; cost = x + (u - t) * weight })
waits_to s until v t u x weight rated from to opens =
    subst (λ (p : Position). Walks s until (replicate (u - t) wait) (record { node = v; minute = t; cost = x }) p)
    (same_position _ _ refl (omega (arith, from)) refl)
    (waits s until (u - t) v t x weight rated (λ m at under. opens m at (omega (arith, under, from))) (omega (arith, from, to)))

-- where waiting is open, the road setting doesn't shut it
pub wait_open : (network : NetworkModel) (vehicle : VehicleModel) (v t : ℕ) → is_park_open network (park_of network v) t ≡ true
    → (road_setting network vehicle).wait_shut v t ≡ false
wait_open network vehicle v t opens = ap not opens

-- a node with a weight has a row
pub rated_row : (network : NetworkModel) (v w : ℕ) → weight_at network v ≡ Some w → IsSome (park_of network v)
rated_row network v w is = ap is_some (map_some (park_of network v) (λ (park : ParkRow). park.weight) w is).1

-- a weight is small, and so is the cost of some minutes of waiting
pub small_weight : (network : NetworkModel) (v w : ℕ) → IsGoodNetwork network → weight_at network v ≡ Some w → w ≤ HEAVIEST_WEIGHT
small_weight network v w good is =
    let found = map_some (park_of network v) (λ (park : ParkRow). park.weight) w is in
    let small : found.0.weight ≤ HEAVIEST_WEIGHT = subst (λ (o : Option ParkRow). IfSome o (λ park. park.weight ≤ HEAVIEST_WEIGHT)) found.1
    (All-lookup (λ (park : ParkRow). park.weight ≤ HEAVIEST_WEIGHT) (nat_eq v) network.parks (λ k d within. (good.parks k d within).small)) in
    omega (arith, small, found.2)

pub small_wait : (minutes w : ℕ) → w ≤ HEAVIEST_WEIGHT → minutes * w ≤ minutes * HEAVIEST_WEIGHT
small_wait minutes w small = mul-le-mul_left minutes small

-- none of the legs is an empty wait
pub none_empty : (legs : List Leg) (i : ℕ) (leg : Leg) → HasNoEmptyWait legs → slice_get legs i ≡ Some leg → leg ≢ Wait 0
none_empty [] i leg tidy at = absurd (cc)
none_empty (x ∷ xs) zero leg tidy at =
    let same : x ≡ leg = cc in
    subst (λ (l : Leg). l ≢ Wait 0) same tidy.0
none_empty (x ∷ xs) (suc i) leg tidy at = none_empty xs i leg tidy.1 at
