-- A request that a finding answers (source: own).
use Rattle.std.specs.Prelude.{ℕ, ◌≤◌, List, slice_index_or}
use Rattle.route_base.specs.FirstItinerary.{IsFirst}
use Rattle.route_base.specs.Legs.{Achieves, CostsFit, HasNoNeighbouringWaits}
use Rattle.route_base.specs.Net.{Net, IsGoodRequest, setting_of}
use Rattle.route_base.specs.declared.types.Leg.{Leg}
use Rattle.route_base.specs.declared.types.Pair.{Pair}
use Rattle.route_base.specs.declared.types.Request.{Request}
use Rattle.propagation.specs.Found.{Finding, IsFoundFor}

-- the request is one over the net whose costs fit, and the finding answers it
pub record IsAnswered (net : Net) (r : Request) (finding : Finding) : Type 0 where
  pub good : IsGoodRequest net r
  pub in_time : r.depart ≤ r.until
  pub fit : CostsFit (setting_of net) r
  pub found : IsFoundFor net r finding

-- the legs are lawful ones of pair k without neighbouring waits, and those of the first of the pair's itineraries
pub record AreUnpacked (net : Net) (r : Request) (finding : Finding) (k : ℕ) (legs : List Leg) : Type 0 where
  pub achieves : (d : Pair) → Achieves (setting_of net) r legs (slice_index_or finding.pairs k d)
  pub tidy : HasNoNeighbouringWaits legs
  pub first : (d : Pair) → IsFirst (setting_of net) r legs (slice_index_or finding.pairs k d)
