-- Why a step of an itinerary is unlawful, over the road setting (source: own).
use Rattle.std.specs.Prelude.{◌≡◌, ◌≢◌, ◌⊎◌, ℕ, ◌+◌, ◌<◌, ◌≤◌, true, false, Some, None}
use Rattle.route_base.specs.Itinerary.{Position, Step, drive, wait}
use Rattle.route_base.specs.Setting.{Setting, Road}
use Rattle.vehicle_classes.specs.Classes.{keys_of}
use Rattle.vehicle_classes.specs.VehicleModel.{VehicleModel}
use Rattle.network_tables.specs.Access.{is_let_in}
use Rattle.network_tables.specs.NetworkModel.{NetworkModel, closures_of}
use Rattle.network_tables.specs.RoadSetting.{road_setting}
use Rattle.road_access.specs.Closures.{IsFirstRun}
use Rattle.road_access.specs.Rulings.{ruling_given}
use Rattle.road_access.specs.declared.rulings.Ruling.{Ruling}
use Rattle.trip_explain.specs.declared.explanation.Why.{Why}
use Rattle.trip_explain.specs.declared.explanation.Why.TheVariants.{Tail, Late, Unrated, Shut, Rule, Closure}

-- the reason that a ruling is
abbrev pub reason_of : Ruling → Why
reason_of ruling = Rule ruling.of_arc ruling.key ruling.conditional ruling.clause

-- the rule that decides doesn't let the vehicle in, and it is this one
pub record IsBarredBy (network : NetworkModel) (vehicle : VehicleModel) (a t : ℕ) (why : Why) : Type 0 where
  pub ruling : Ruling
  pub barred : is_let_in network vehicle a t ≡ false
  pub given : ruling_given network vehicle a t (keys_of vehicle.class) ≡ Some ruling
  pub is : why ≡ reason_of ruling

-- the arc lets the vehicle in, and its first closure that has the minute, counted from 1, is this one
pub record IsInClosure (network : NetworkModel) (vehicle : VehicleModel) (a t : ℕ) (why : Why) : Type 0 where
  pub k : ℕ
  pub let_in : is_let_in network vehicle a t ≡ true
  pub first : IsFirstRun (closures_of network a) t k
  pub is : why ≡ Closure (k + 1)

-- why the arc is closed at a minute: the rule that decides, or else a closure
abbrev pub IsClosedBy : NetworkModel → VehicleModel → ℕ → ℕ → Why → Type 0
IsClosedBy network vehicle a t why = IsBarredBy network vehicle a t why ⊎ IsInClosure network vehicle a t why

-- the arc is open at the minutes before t, and closed at t for this reason
pub record ClosesFirst (network : NetworkModel) (vehicle : VehicleModel) (a from t : ℕ) (why : Why) : Type 0 where
  pub from_on : from ≤ t
  pub before : (u : ℕ) → from ≤ u → u < t → (road_setting network vehicle).shut a u ≡ false
  pub closed : (road_setting network vehicle).shut a t ≡ true
  pub by : IsClosedBy network vehicle a t why

-- the arc doesn't begin at the node
abbrev pub IsElsewhere : Setting → ℕ → ℕ → Type 0
IsElsewhere s a v = (s.road a ≡ None) ⊎ ((road : Road) × (s.road a ≡ Some road) × (road.tail ≢ v))

-- an arc that begins at the node
pub record Begins (s : Setting) (a v : ℕ) (road : Road) : Type 0 where
  pub is : s.road a ≡ Some road
  pub tail : road.tail ≡ v

-- the step can't be made from this position; the first reason that holds, and its minute
pub data IsBarred (network : NetworkModel) (vehicle : VehicleModel) (until : ℕ) (p : Position) : Step → ℕ → Why → Type 0 where
  elsewhere : {a : ℕ} → IsElsewhere (road_setting network vehicle) a p.node → IsBarred network vehicle until p (drive a) p.minute Tail
  late : {a : ℕ} (road : Road) → Begins (road_setting network vehicle) a p.node road → until < p.minute + road.minutes
      → IsBarred network vehicle until p (drive a) p.minute Late
  closed : {a t : ℕ} {why : Why} (road : Road) → Begins (road_setting network vehicle) a p.node road → p.minute + road.minutes ≤ until
      → t < p.minute + road.minutes → ClosesFirst network vehicle a p.minute t why
      → IsBarred network vehicle until p (drive a) t why
  unrated : (road_setting network vehicle).weight p.node ≡ None → IsBarred network vehicle until p wait p.minute Unrated
  late_wait : (weight : ℕ) → (road_setting network vehicle).weight p.node ≡ Some weight → until < p.minute + 1
      → IsBarred network vehicle until p wait p.minute Late
  shut_wait : (weight : ℕ) → (road_setting network vehicle).weight p.node ≡ Some weight → p.minute + 1 ≤ until
      → (road_setting network vehicle).wait_shut p.node p.minute ≡ true → IsBarred network vehicle until p wait p.minute Shut
