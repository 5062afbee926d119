-- The way back from a pair's end to the start.
use Rattle.std.proofs.Common.{◌≡◌, ⊎_elim, replicate, ℕ, ◌/◌, ◌%◌, ◌<◌, ◌≤◌, eqb, true, Option, Some, List, [], ◌∷◌, ◌++◌, length, refl, sym, ◌∙◌, ap, subst, arith}
use Rattle.std.specs.Prelude.{Contains, IsNone, reverse}
use Rattle.std.proofs.lemmas.Bool.{eqb-true, eq-eqb, and_from, and_parts}
use Rattle.std.proofs.lemmas.Nat.{div-mul-add, mod-mul-add, div-add-mod'}
use Rattle.route_base.specs.Front.{IsNoWorse}
use Rattle.route_base.specs.Itinerary.{Position, drive, wait, Walks}
use Rattle.route_base.specs.Net.{setting_of}
use Rattle.route_base.specs.declared.types.Pair.{Pair}
use Rattle.route_base.proofs.Waiting.{same_position}
use Rattle.route_base.proofs.Walking.{walk_in_time}
use Rattle.front_transport.specs.ParetoFronts.{IsParetoFront, ArrivesBefore}
use Rattle.node_arcs.specs.Stars.{Star}
use Rattle.propagation.specs.Inside.Invariants.{point}
use Rattle.state_dominance.specs.Inside.Dominance.{Task, IsAchievedIn, IsStart}
use Rattle.state_dominance.specs.Inside.Product.{Ruler, code}
use Rattle.state_dominance.proofs.Finishing.{front}
use Rattle.ruled_states.specs.Inside.Codes.{base}
use Rattle.ruled_states.specs.Inside.Tables.{ArePlacesOf, code_of}
use Rattle.ruled_states.specs.declared.table.Info.{Info}
use Rattle.ruled_states.specs.declared.table.Place.{Place}
use Rattle.ruled_search.specs.Routes.{IsFirstRuled, TellsSteps}
use Rattle.ruled_search.specs.Inside.Sources.{AreFirstSteps, ComesFirst, HasSource, IsBest, IsEndOf, IsKnownSpot, IsLeastAt, IsSolved, LeadsToEnd, place_of}
use Rattle.ruled_search.specs.Inside.Tasks.{latest_in, progress_of, state_bound, task_of}
use Rattle.ruled_search.specs.declared.progress.Progress.{Progress as ProgressHeld}
use Rattle.ruled_search.specs.declared.routes.RuledLeg.{RuledLeg}
use Rattle.ruled_search.specs.declared.routes.RuledRoute.{RuledRoute}
use Rattle.ruled_search.specs.declared.sources.Source.{Source}
use Rattle.ruled_search.specs.declared.sources.Spot.{Spot}
use Rattle.ruled_search.specs.declared.task.Task.{Task as TaskHeld}
use Rattle.ruled_search.proofs.Backward.{end_known, leads_before, source_known, start_is}
use Rattle.ruled_search.proofs.Best.{best_end, best_source, first_of_pair, waits_first}
use Rattle.ruled_search.proofs.FirstLegs.{IsFirstRoad, leg_first}
use Rattle.ruled_search.proofs.FirstSteps.{first_walk}
use Rattle.ruled_search.proofs.Numbering.{solved_numbered}
use Rattle.ruled_search.proofs.Planned.{bounds_along, simulates}
use Rattle.ruled_search.proofs.Tried.{IsLeastOf, if_some, least_of_all}

-- the spot is known and the best, and legs, the last first, tell the first steps that lead from it to the pair, at the least state of the goal
pub record IsOnWay (k : Task) (infos : List Info) (cost : ℕ → ℕ → Option ℕ) (back : List RuledLeg) (pair : Pair) (spot : Spot) : Type 0 where
  pub is_one : IsKnownSpot infos cost spot.number spot.minute spot.cost spot
  pub best : IsBest k (place_of spot)
  pub node : ℕ
  pub goal : k.goal node ≡ true
  pub least : (c : ℕ) → k.goal c ≡ true → cost c pair.arrival ≡ Some pair.cost → node / base ≤ c / base
  pub leads : LeadsToEnd k cost back spot (point node pair.arrival pair.cost)

module _ {R : Type 0} {ruling : R → Ruler} {task : TaskHeld R} {incoming : Star} {progress : ProgressHeld}
    (solved : IsSolved R ruling task incoming progress) where
  is_front : IsParetoFront IsNoWorse ArrivesBefore (IsAchievedIn (task_of R ruling task)) progress.pairs.items
  is_front = front (task_of R ruling task) (progress_of progress)
      (simulates ruling task solved.asked) (bounds_along ruling task solved.asked) solved.facts solved.done solved.asked.in_time

  -- what is known is in time
  pub spot_in_time : (spot : Spot) → IsKnownSpot progress.table.infos (progress_of progress).cost spot.number spot.minute spot.cost spot
      → spot.minute ≤ task.request.until
  spot_in_time spot known =
      let reach = solved.facts.reached (place_of spot) known.known in
      walk_in_time (task_of R ruling task).setting task.request.until reach.0 (task_of R ruling task).start (place_of spot) solved.asked.in_time reach.1

  -- the least end of a pair
  pub end_found : (pair : Pair) (found : Option Spot) (spot : Spot) → found ≡ Some spot
      → IsLeastAt progress.table.infos (progress_of progress).cost task.request.goal.0 pair.arrival pair.cost
      (λ k. (ruling task.ruler.now).ends k ≡ true) found
      → IsEndOf (task_of R ruling task) progress.table.infos (progress_of progress).cost pair spot
  end_found pair found spot some least =
      let right = if_some (λ (w : Spot). IsKnownSpot progress.table.infos (progress_of progress).cost w.number pair.arrival pair.cost w
      × (w.info.node.0 ≡ task.request.goal.0) × ((ruling task.ruler.now).ends w.info.state ≡ true)) found spot some least.some in
      let small = (solved_numbered solved).small spot.number spot.info right.0.info in
      record {
        is_one = right.0;
        goal = and_from (eqb (code_of spot.info % base) task.request.goal.0) ((ruling task.ruler.now).ends (code_of spot.info / base))
            (eq-eqb (code_of spot.info % base) task.request.goal.0 (mod-mul-add spot.info.state base spot.info.node.0 small ∙ right.1))
            (ap (ruling task.ruler.now).ends (div-mul-add spot.info.state base spot.info.node.0 small) ∙ right.2);
        least = λ c at known.
            let parts = and_parts (eqb (c % base) task.request.goal.0) ((ruling task.ruler.now).ends (c / base)) at in
            let node : c % base ≡ task.request.goal.0 = eqb-true (c % base) task.request.goal.0 parts.0 in
            let own : code base task.request.goal.0 (c / base) ≡ c = omega (arith, div-add-mod' c base, node) in
            if_some (λ (w : Spot). (k : ℕ) → (ruling task.ruler.now).ends k ≡ true
            → (progress_of progress).cost (code base task.request.goal.0 k) pair.arrival ≡ Some pair.cost → w.info.state ≤ k)
            found spot some least.least (c / base) parts.1 (ap (λ n. (progress_of progress).cost n pair.arrival) own ∙ known);
      }

  pub least_end : (pair : Pair) (row : List Place) → ArePlacesOf progress.table.infos task.request.goal.0 row → (count : ℕ) (found : Option Spot)
      → length row ≤ count
      → IsLeastOf progress.table.infos (progress_of progress).cost task.request.goal.0 pair.arrival pair.cost (λ k. (ruling task.ruler.now).ends k ≡ true)
      row count found
      → IsLeastAt progress.table.infos (progress_of progress).cost task.request.goal.0 pair.arrival pair.cost (λ k. (ruling task.ruler.now).ends k ≡ true)
      found
  least_end pair row places count found all done =
      let node : task.request.goal.0 < base = omega (arith, solved.asked.ends.goal.1, solved.asked.good.nodes) in
      least_of_all progress.table.infos (solved_numbered solved).small progress.functions.items task.request.goal.0 pair.arrival pair.cost node
      (λ k. (ruling task.ruler.now).ends k ≡ true) row places count found all done

  pub end_there : (pair : Pair) → Contains progress.pairs.items pair → (found : Option Spot) → IsNone found
      → IsLeastAt progress.table.infos (progress_of progress).cost task.request.goal.0 pair.arrival pair.cost
      (λ k. (ruling task.ruler.now).ends k ≡ true) found → ⊥
  end_there pair one found none least =
      let a = solved.facts.achieved pair one in
      let known = end_known (task_of R ruling task) (progress_of progress) is_front solved.facts pair one a in
      let parts = and_parts (eqb (a.node % base) task.request.goal.0) ((ruling task.ruler.now).ends (a.node / base)) a.goal in
      let node : a.node % base ≡ task.request.goal.0 = eqb-true (a.node % base) task.request.goal.0 parts.0 in
      let own : code base task.request.goal.0 (a.node / base) ≡ a.node = omega (arith, div-add-mod' a.node base, node) in
      least.none none (a.node / base) parts.1 (ap (λ c. (progress_of progress).cost c pair.arrival) own ∙ known)

  -- what begins the way back
  pub begins_way : (pair : Pair) → Contains progress.pairs.items pair → (spot : Spot)
      → IsEndOf (task_of R ruling task) progress.table.infos (progress_of progress).cost pair spot
      → IsOnWay (task_of R ruling task) progress.table.infos (progress_of progress).cost [] pair spot
  begins_way pair one spot end =
      let at : point (code_of spot.info) pair.arrival pair.cost ≡ place_of spot =
      same_position _ _ refl (sym end.is_one.at) (sym end.is_one.paid) in
      let state : code_of spot.info / base ≡ spot.info.state =
      div-mul-add spot.info.state base spot.info.node.0 ((solved_numbered solved).small spot.number spot.info end.is_one.info) in
      let least : (c : ℕ) → (task_of R ruling task).goal c ≡ true → (progress_of progress).cost c pair.arrival ≡ Some pair.cost
      → code_of spot.info / base ≤ c / base = λ c goal known. let le = end.least c goal known in omega (arith, le, state) in
      record {
        is_one = record {
          same = refl;
          at = refl;
          paid = refl;
          info = end.is_one.info;
          known = ap (λ (t : ℕ). (progress_of progress).cost (code_of spot.info) t) end.is_one.at
              ∙ (end.is_one.known ∙ ap (λ (n : ℕ). Some n) (sym end.is_one.paid));
        };
        best = subst (λ (p : Position). IsBest (task_of R ruling task) p) at
            (best_end (setting_of task.net.now) (ruling task.ruler.now) task.request.origin.0 task.request.goal.0 task.request.depart task.request.until
            (state_bound (ruling task.ruler.now) task.bounds.now) (latest_in R ruling task) solved.asked.rules solved.asked.numbers
            solved.asked.bound solved.asked.latest (progress_of progress)
            solved.facts solved.done solved.asked.in_time pair one (code_of spot.info) end.goal least);
        node = code_of spot.info;
        goal = end.goal;
        least = least;
        leads = record { steps = []; tells = refl; first = sym at };
      }

  module _ (back : List RuledLeg) (pair : Pair) (one : Contains progress.pairs.items pair) (spot : Spot)
      (way : IsOnWay (task_of R ruling task) progress.table.infos (progress_of progress).cost back pair spot) where
    way_leads : Walks (task_of R ruling task).setting task.request.until way.leads.steps (place_of spot) (point way.node pair.arrival pair.cost)
    way_leads = first_walk (task_of R ruling task) (progress_of progress).cost way.leads.steps (place_of spot)
        (point way.node pair.arrival pair.cost) way.leads.first

    -- the steps of the first leg are first, and begin at the best spot
    leg_is_first : (source : Source)
        → (c : ComesFirst (task_of R ruling task) progress.table.infos (progress_of progress).cost spot source)
        → AreFirstSteps (task_of R ruling task) (progress_of progress).cost c.comes.steps (place_of source.from) (place_of spot)
        × IsBest (task_of R ruling task) (place_of source.from)
    leg_is_first source c =
        let from = source.from in
        let k = task_of R ruling task in
        let cost = (progress_of progress).cost in
        let small = (solved_numbered solved).small from.number from.info c.comes.is_one.info in
        ⊎_elim
        (λ (h : (n : ℕ) × (c.comes.steps ≡ replicate n wait)).
        let all = waits_first (setting_of task.net.now) (ruling task.ruler.now) task.request.origin.0 task.request.goal.0 task.request.depart
        task.request.until (state_bound (ruling task.ruler.now) task.bounds.now) (latest_in R ruling task) solved.asked.rules
        solved.asked.numbers solved.asked.bound solved.asked.latest
        (progress_of progress) solved.facts solved.done solved.asked.in_time pair one h.0 (place_of from) (place_of spot)
        (solved.facts.reached (place_of from) c.comes.is_one.known)
        (subst (λ w. Walks k.setting task.request.until w (place_of from) (place_of spot)) h.1 c.comes.walk) way.best
        (way.leads.steps, way.node, way.goal, way_leads) in
        (subst (λ w. AreFirstSteps k cost w (place_of from) (place_of spot)) (sym h.1) all.0, all.1))
        (λ (h : IsFirstRoad k cost c.comes.steps (place_of from) (place_of spot)). (
          subst (λ w. AreFirstSteps k cost w (place_of from) (place_of spot)) (sym h.is) (place_of spot, h.first, refl),
          best_source (setting_of task.net.now) (ruling task.ruler.now) task.request.origin.0 task.request.goal.0 task.request.depart
              task.request.until (state_bound (ruling task.ruler.now) task.bounds.now) (latest_in R ruling task) solved.asked.rules
              solved.asked.numbers solved.asked.bound solved.asked.latest
              (progress_of progress) solved.facts solved.done solved.asked.in_time pair one (drive h.road) (place_of from) (place_of spot) way.best
              (way.leads.steps, way.node, way.goal, way_leads) h.first,
        ))
        (leg_first k cost spot from small source.leg c.comes.steps c.comes.tells c.comes.walk c.comes.is_one.known c.comes.least c.first)

    pub way_goes_on : (source : Source) → ComesFirst (task_of R ruling task) progress.table.infos (progress_of progress).cost spot source
        → IsOnWay (task_of R ruling task) progress.table.infos (progress_of progress).cost (back ++ source.leg ∷ []) pair source.from
    way_goes_on source c =
        let leg = leg_is_first source c in
        record {
          is_one = c.comes.is_one;
          best = leg.1;
          node = way.node;
          goal = way.goal;
          least = way.least;
          leads = leads_before (task_of R ruling task) progress.table.infos (progress_of progress).cost back spot
              (point way.node pair.arrival pair.cost) source c.comes leg.0 way.leads;
        }

    pub way_has_source : (IsStart (task_of R ruling task) (place_of spot) → ⊥)
        → HasSource (task_of R ruling task) (progress_of progress).cost spot
    way_has_source later =
        let c = source_known (task_of R ruling task) (progress_of progress) is_front solved.facts pair one way.node way.goal way.leads.steps
        (place_of spot) way_leads way.is_one.known later in
        record { step = c.0; source = c.1; comes = c.2 }

    pub way_is_first : (route : RuledRoute) → route.pair ≡ pair → route.legs.items ≡ reverse back → IsStart (task_of R ruling task) (place_of spot)
        → IsFirstRuled (task_of R ruling task) base route
    way_is_first route same legs start =
        let k = task_of R ruling task in
        let reach = solved.facts.reached (place_of spot) way.is_one.known in
        let at = start_is k (bounds_along ruling task solved.asked).time (place_of spot) reach start in
        let first : AreFirstSteps k (progress_of progress).cost way.leads.steps k.start (point way.node pair.arrival pair.cost) =
        subst (λ (p : Position). AreFirstSteps k (progress_of progress).cost way.leads.steps p (point way.node pair.arrival pair.cost)) (sym at)
        way.leads.first in
        record {
          achieves = record {
            node = way.node;
            goal = way.goal;
            steps = way.leads.steps;
            walk = subst (λ (w : Pair). Walks k.setting task.request.until way.leads.steps k.start (point way.node w.arrival w.cost)) (sym same)
                (first_walk k (progress_of progress).cost way.leads.steps k.start (point way.node pair.arrival pair.cost) first);
            tells = subst (λ (w : List RuledLeg). TellsSteps base w way.leads.steps) (sym legs) way.leads.tells;
          };
          first = λ g others goal walk. first_of_pair (setting_of task.net.now) (ruling task.ruler.now) task.request.origin.0 task.request.goal.0
              task.request.depart task.request.until (state_bound (ruling task.ruler.now) task.bounds.now) (latest_in R ruling task) solved.asked.rules
              solved.asked.numbers solved.asked.bound solved.asked.latest (progress_of progress) solved.facts solved.done solved.asked.in_time pair
              one way.node way.goal way.least way.leads.steps
              first g others goal
              (subst (λ (w : Pair). Walks k.setting task.request.until others k.start (point g w.arrival w.cost)) same walk);
        }
