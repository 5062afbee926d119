-- A certificate of what a search has found can be written, where roads are cheap.
use Rattle.std.proofs.Common.{◌≡◌, ℕ, ◌≤◌, ◌<◌, Some, List, All, length, get_or, arith}
use Rattle.std.proofs.lemmas.List.Elements.{All-weaker}
use Rattle.route_base.specs.Front.{IsRight}
use Rattle.route_base.specs.Legs.{Achieves, CostsFit, HasNoNeighbouringWaits, start_of, end_of, steps_of}
use Rattle.route_base.specs.Net.{Net, IsGoodRequest, setting_of}
use Rattle.route_base.specs.Setting.{Setting, Road}
use Rattle.route_base.specs.declared.limits.TheConstants.{LAST_INSTANT, MOST_ARCS, MOST_NODES}
use Rattle.route_base.specs.declared.types.Bound.{Bound}
use Rattle.route_base.specs.declared.types.NodeId.{NodeId}
use Rattle.route_base.specs.declared.types.Request.{Request}
use Rattle.route_base.specs.declared.types.Route.{Route}
use Rattle.route_base.proofs.Walking.{walk_in_time}
use Rattle.cost_functions.specs.Building.{AreBuilt}
use Rattle.cost_functions.specs.Pieces.{ArePieces}
use Rattle.cost_functions.specs.declared.TheConstants.{HIGHEST_PIECE_COST}
use Rattle.potentials.specs.Sums.{AreLeastBounds, bound_at}
use Rattle.propagation.specs.Found.{Finding, IsFoundFor}
use Rattle.certificate.specs.Writable.{IsWritable, IsWritableLeg, IsWritableNode}
use Rattle.certificate.specs.declared.Certificate.{Certificate}
use Rattle.certificate.specs.declared.limits.TheConstants.{LONGEST_BOUND}
use Rattle.certificate_check.proofs.Arcs.{road_within}
use Rattle.plan_certificate.specs.CheapRoads.{HasCheapRoads}
use Rattle.plan_certificate.specs.Inside.Entries.{AreEntriesOf, pieces_of}
use Rattle.plan_certificate.proofs.FoundEntries.{each_entry, bound_within, function_filled, function_has, function_within}
use Rattle.plan_certificate.proofs.LeastSums.{least_minutes, least_cost}
use Rattle.plan_certificate.proofs.WritableLegs.{writable_legs}

module _ (net : Net) (r : Request) (found : Finding) (answers : IsFoundFor net r found)
    (least : AreLeastBounds (setting_of net) r.goal.0 (bound_at found.bounds)) (c : Certificate)
    (bounds : AreEntriesOf (bound_at found.bounds) c.bounds) (functions : AreEntriesOf (pieces_of found.functions) c.functions)
    (few_nodes : net.nodes ≤ MOST_NODES) where
  abbrev s : Setting
  s = setting_of net

  module _ (k : ℕ) (d : NodeId × Bound) (within : k < length c.bounds) where
    abbrev b : NodeId × Bound
    b = get_or c.bounds k d

    of_bound : bound_at found.bounds b.0.0 ≡ Some b.1
    of_bound = each_entry (bound_at found.bounds) c.bounds bounds k d within

    bound_minutes : b.1.minutes ≤ LONGEST_BOUND
    bound_minutes = let long = least_minutes net answers.good r.goal.0 (bound_at found.bounds) least b.0.0 b.1 of_bound in
        omega (arith, long, few_nodes)

    bound_cost : HasCheapRoads s → b.1.cost ≤ HIGHEST_PIECE_COST
    bound_cost cheap = let dear = least_cost net answers.good r.goal.0 (bound_at found.bounds) least cheap b.0.0 b.1 of_bound in
        omega (arith, dear, few_nodes)

  -- a node of the net is within the range of the format
  few : {A : Type 0} (n : ℕ) (entries : List (NodeId × A)) → n ≡ net.nodes → All (λ e. (1 ≤ e.0.0) × (e.0.0 ≤ n)) entries
      → All (λ e. IsWritableNode e.0) entries
  few n entries all within = All-weaker (λ e. (1 ≤ e.0.0) × (e.0.0 ≤ n)) (λ e. IsWritableNode e.0)
      (λ e node. (node.0, omega (arith, node.1, all, few_nodes))) entries within

  module _ (few_arcs : length net.arcs ≤ MOST_ARCS) (asked : IsGoodRequest net r) (ordered : r.depart ≤ r.until) (fit : CostsFit s r)
      (right : IsRight s r c.routes) where
    arcs : (a : ℕ) (road : Road) → s.road a ≡ Some road → (1 ≤ a) × (a ≤ MOST_ARCS)
    arcs a road is = let inside = road_within net.arcs a road is in (inside.0, omega (arith, inside.1, few_arcs))

    abbrev Lawful : Route → Type 0
    Lawful x = Achieves s r x.legs x.pair × HasNoNeighbouringWaits x.legs

    pub is_writable : HasCheapRoads s → IsWritable c
    is_writable cheap = record {
      arrivals = All-weaker Lawful (λ x. x.pair.arrival ≤ LAST_INSTANT)
          (λ x h. let late = walk_in_time s r.until (steps_of x.legs) (start_of r) (end_of r x.pair) ordered h.0.walk in
          omega (arith, late, asked.until)) c.routes right.legs;
      costs = All-weaker Lawful (λ x. x.pair.cost ≤ HIGHEST_PIECE_COST)
          (λ x h. let dear = fit (steps_of x.legs) (end_of r x.pair) h.0.walk in omega (arith, dear)) c.routes right.legs;
      legs = All-weaker Lawful (λ x. All IsWritableLeg x.legs)
          (λ x h. writable_legs s r.until arcs asked.until x.legs (start_of r) (end_of r x.pair) h.0.no_empty_wait h.0.walk)
          c.routes right.legs;
      waits = All-weaker Lawful (λ x. HasNoNeighbouringWaits x.legs) (λ x h. h.1) c.routes right.legs;
      bound_nodes = few (length found.bounds) c.bounds answers.bounded (bound_within found.bounds c.bounds bounds);
      bound_minutes = bound_minutes;
      bound_costs = λ k d within. bound_cost k d within cheap;
      rising_bounds = bounds.rising;
      function_nodes = few (length found.functions) c.functions answers.nodes (function_within found.functions c.functions functions);
      pieces = All-weaker (λ e. AreBuilt e.1) (λ e. ArePieces e.1) (λ e h. h.pieces) c.functions
          (function_has found.functions c.functions functions AreBuilt answers.reduced);
      filled = function_filled found.functions c.functions functions;
      rising_functions = functions.rising;
    }
