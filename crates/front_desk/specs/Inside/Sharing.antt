-- Nets that trips of one vehicle share, and jobs in the order in which they are planned: propositions (source: own).
use Rattle.std.specs.Prelude.{◌≡◌, ℕ, ◌≤◌, ◌<◌, List, All, Contains, IfSome, length, slice_get}
use Rattle.route_base.specs.Matching.{StandsFor}
use Rattle.route_base.specs.Net.{setting_of}
use Rattle.itinerary_unpack.specs.SearchArcs.{AreSearchArcs}
use Rattle.network_tables.specs.NetworkModel.{NetworkModel}
use Rattle.network_tables.specs.RoadSetting.{road_setting}
use Rattle.network_tables.specs.declared.jobs.Job.{Job}
use Rattle.front_desk.specs.Batch.{IsTextAt}
use Rattle.front_desk.specs.Trips.{Trip, vehicle_named}
use Rattle.front_desk.specs.declared.shared_nets.SharedNet.{SharedNet}

-- the net stands for the roads of the named vehicle in its window, and has what the searches over it share
pub record IsSharedNet (network : NetworkModel) (shared : SharedNet) : Type 0 where
  pub stands : StandsFor (setting_of shared.net) (road_setting network (vehicle_named network shared.vehicle.items)) shared.window
  pub arcs : AreSearchArcs shared.net shared.arcs

-- the net is that of the trip's vehicle, and its window has the trip's minutes
pub record IsSharedBy (shared : SharedNet) (trip : Trip) : Type 0 where
  pub named : shared.vehicle.items ≡ trip.vehicle
  pub from : shared.window.lo ≤ trip.depart
  pub to : trip.until ≤ shared.window.hi

-- a right text of the job that is planned at a place
abbrev pub IsTextAtPlace : NetworkModel → List Job → List ℕ → ℕ → List ℕ → Type 0
IsTextAtPlace network jobs order place text = IfSome (slice_get order place) (λ job. IsTextAt network jobs job text)

-- the order has each of the jobs from 0 up to, but not including, the count, and no others
pub record HasEachJob (count : ℕ) (order : List ℕ) : Type 0 where
  pub counted : length order ≡ count
  pub each : All (λ job. job < count) order
  pub all : (job : ℕ) → job < count → Contains order job
