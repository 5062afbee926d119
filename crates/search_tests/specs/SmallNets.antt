-- Small nets: numbers so low that every cost of a request fits (source: own).
use Rattle.std.specs.Prelude.{ℕ, ◌+◌, ◌*◌, ◌≤◌, ◌<◌, Option, IfSome}
use Rattle.route_base.specs.Net.{Net, IsGoodRequest}
use Rattle.route_base.specs.declared.limits.TheConstants.{COST_OF_MINUTE, DEAREST_MINUTE, HEAVIEST_WEIGHT, LONGEST_HORIZON}
use Rattle.route_base.specs.declared.types.Park.{Park}
use Rattle.route_base.specs.declared.types.Request.{Request}
use Rattle.route_base.specs.declared.types.TimedArc.{TimedArc}

-- the arc has at most 1000 minutes, and costs no more than these minutes of driving
pub record IsShortAndCheap (arc : TimedArc) : Type 0 where
  pub minutes : (1 ≤ arc.minutes) × (arc.minutes ≤ 1000)
  pub cost : arc.cost ≤ COST_OF_MINUTE * arc.minutes

-- such an arc between the first nodes, with one of the first lists of closed runs
pub record IsSmallArc (nodes lists : ℕ) (arc : TimedArc) : Type 0 where
  pub tail : (1 ≤ arc.tail.0) × (arc.tail.0 ≤ nodes)
  pub head : (1 ≤ arc.head.0) × (arc.head.0 ≤ nodes)
  pub cheap : IsShortAndCheap arc
  pub closed : arc.closed < lists

-- no minute of the arc is too dear
abbrev pub IsCheapArc : TimedArc → Type 0
IsCheapArc arc = arc.cost ≤ DEAREST_MINUTE * arc.minutes

-- no park, or one whose weight isn't too large, with one of the first lists of runs
abbrev pub IsLight : ℕ → Option Park → Type 0
IsLight lists park = IfSome park (λ p. (p.weight ≤ HEAVIEST_WEIGHT) × (p.shut < lists))

-- a request over the net, of at most 60 days
pub record IsRequestOver (net : Net) (r : Request) : Type 0 where
  pub ends : IsGoodRequest net r
  pub in_time : r.depart ≤ r.until
  pub short : r.until ≤ r.depart + LONGEST_HORIZON
