-- Where an itinerary is unlawful, and why (source: own).
use Rattle.std.specs.Prelude.{◌≡◌, ◌≢◌, ◌⊎◌, ℕ, ◌+◌, ◌≤◌, List, ◌∷◌, ◌++◌, length, take, slice_get, Some}
use Rattle.route_base.specs.Itinerary.{Position, Step, Walks}
use Rattle.route_base.specs.Legs.{steps_of_leg, Achieves}
use Rattle.route_base.specs.Replay.{LeadTo}
use Rattle.route_base.specs.Time.{IsInstant}
use Rattle.route_base.specs.declared.types.Leg.{Leg}
use Rattle.route_base.specs.declared.types.Request.{Request}
use Rattle.vehicle_classes.specs.VehicleModel.{VehicleModel}
use Rattle.network_tables.specs.NetworkModel.{NetworkModel}
use Rattle.network_tables.specs.RoadSetting.{road_setting}
use Rattle.trip_explain.specs.declared.explanation.Explanation.{Explanation}
use Rattle.trip_explain.specs.declared.explanation.Explanation.TheVariants.{Lawful, Unlawful}
use Rattle.trip_explain.specs.declared.explanation.Why.{Why}
use Rattle.trip_explain.specs.declared.explanation.Why.TheVariants.{Goal}
use Rattle.trip_explain.specs.Reasons.{IsBarred}

-- a request between nodes of the network, at instants
pub record IsRoadRequest (network : NetworkModel) (r : Request) : Type 0 where
  pub origin : (1 ≤ r.origin.0) × (r.origin.0 ≤ network.graph.nodes)
  pub goal : (1 ≤ r.goal.0) × (r.goal.0 ≤ network.graph.nodes)
  pub depart : IsInstant r.depart
  pub until : IsInstant r.until
  pub in_time : r.depart ≤ r.until

-- some steps of the leg are lawful from this position, and the next is not, for this reason
pub record StopsIn (network : NetworkModel) (vehicle : VehicleModel) (until : ℕ) (leg : Leg) (from : Position) (minute : ℕ) (why : Why)
    : Type 0 where
  pub made : List Step
  pub step : Step
  pub left : List Step
  pub at : Position
  pub steps : steps_of_leg leg ≡ made ++ step ∷ left
  pub walk : Walks (road_setting network vehicle) until made from at
  pub stuck : IsBarred network vehicle until at step minute why

-- all steps are lawful, and don't lead to the goal
pub record EndsElsewhere (r : Request) (legs : List Leg) (i : ℕ) (at : Position) (minute : ℕ) (why : Why) : Type 0 where
  pub all : i ≡ length legs
  pub elsewhere : at.node ≢ r.goal.0
  pub minute_is : minute ≡ at.minute
  pub goal : why ≡ Goal

-- the legs before this one, counted from 1, are lawful, and this one is not, for this reason; or all are, and don't lead to the goal
pub record IsUnlawfulAt (network : NetworkModel) (vehicle : VehicleModel) (r : Request) (legs : List Leg) (number minute : ℕ) (why : Why)
    : Type 0 where
  pub i : ℕ
  pub number_is : number ≡ i + 1
  pub at : Position
  pub led : LeadTo (road_setting network vehicle) r (take i legs) at
  pub here : ((leg : Leg) × (slice_get legs i ≡ Some leg) × StopsIn network vehicle r.until leg at minute why)
      ⊎ EndsElsewhere r legs i at minute why

-- what an explanation says of these legs
abbrev pub IsExplained : NetworkModel → VehicleModel → Request → List Leg → Explanation → Type 0
IsExplained network vehicle r legs (Lawful pair) = Achieves (road_setting network vehicle) r legs pair
IsExplained network vehicle r legs (Unlawful leg minute why) = IsUnlawfulAt network vehicle r legs leg minute why
