use Rattle.std.proofs.Common.{◌≡◌, ◌+◌, ◌≤◌, [], List, length, sym, ap, subst, arith, length-append}
use Rattle.std.specs.Prelude.{reverse}
use Rattle.route_base.specs.Itinerary.{Step}
use Rattle.route_base.specs.Legs.{steps_of, steps_of_leg, start_of}
use Rattle.route_base.specs.declared.types.Leg.{Leg}
use Rattle.route_base.proofs.Arcs.{takes_time}
use Rattle.route_base.specs.StepsBack.{LeadsFirst}
use Rattle.route_base.proofs.GoingBack.{is_first}
use Rattle.propagation.specs.Inside.Invariants.{point}
use Rattle.tidy_legs.specs.Tidiness.{IsTidy}
use Rattle.tidy_legs.proofs.TurnedLegs.{tidy_reversed, steps_before, length_reversed}
use Rattle.itinerary_unpack.specs.Inside.Requests.{setting_in, solved_cost}
use Rattle.itinerary_unpack.specs.Inside.Ways.{LeadsToPair}
use Rattle.itinerary_unpack.proofs.Backwards.{ways_to, at_pair, leads_from_start, comes_by_step, leads_before, node_within, read_known}
use Rattle.itinerary_unpack.proofs.back.legs_back.Goals as goal
use Rattle.itinerary_unpack.proofs.back.legs_back.Goals.{then-node-solved, else-node-solved+then-minute-solved}

pub back-init : goal.back-init
back-init c =
    let r = c.args.solved.request in
    let found = c.args.solved.found.now in
    let solved = c.requires.solved in
    let s = setting_in c.args.solved in
    let cost = solved_cost c.args.solved in
    let start = at_pair c.args.solved.net.now r found solved.found c.args.pair c.requires.one in
    let tight = solved.found.justified.tight (point r.goal.0 c.args.pair.arrival start.here) start.known in
    let none : [] ≡ c.new-legs.result.items = sym c.new-legs.ensures.items in
    record {
      low = solved.ends.goal.0;
      high = solved.ends.goal.1;
      size = subst (λ (w : List Leg). length (steps_of (reverse w)) + c.args.pair.arrival ≤ r.until) none (omega (arith, tight.2));
      tidy = subst IsTidy none (record { no_empty_wait = tt; no_neighbours = tt });
      leads = subst (λ (w : List Leg). LeadsToPair s r cost c.args.pair r.goal.0 c.args.pair.arrival (steps_of (reverse w))) none start;
    }

pub source_of-source-requires-clause-comes : goal.source_of-source-requires-clause-comes
source_of-source-requires-clause-comes c =
    let solved = c.requires.solved in
    let found = c.args.solved.found.now in
    let leads = c.back.invariant.leads in
    let known = read_known found.functions c.back.node.0 c.back.minute leads.here c.function.result.now c.at.result c.unwrap_or-cost.result
    c.function.ensures c.at.ensures c.unwrap_or-cost.ensures leads.known in
    let later : c.back.node.0 ≡ c.args.solved.request.origin.0 → c.back.minute ≡ c.args.solved.request.depart → ⊥ = λ node minute.
    elim c.if-node-solved.branch [
      | then-node-solved w ↦ w.if-node-solved.true node
      | else-node-solved+then-minute-solved w ↦ w.if-minute-solved.true minute
    ] in
    comes_by_step c.args.solved.net.now c.args.solved.request found solved.found c.args.pair c.requires.one
    c.back.node.0 c.back.minute c.unwrap_or-cost.result (steps_of (reverse c.back.legs.items)) leads known later

pub push_leg-requires-clause-room : goal.push_leg-requires-clause-room
push_leg-requires-clause-room c = record {
  tidy = c.back.invariant.tidy;
  short = omega (
    arith,
    length_reversed c.back.legs.items,
    c.back.invariant.size,
    c.source_of-source.ensures.comes.short,
    c.requires.solved.ends.until,
  );
}

pub back-preserved : goal.back-preserved
back-preserved c =
    let r = c.args.solved.request in
    let solved = c.requires.solved in
    let net = c.args.solved.net.now in
    let found = c.args.solved.found.now in
    let s = setting_in c.args.solved in
    let cost = solved_cost c.args.solved in
    let from = c.source_of-source.result in
    let comes = c.source_of-source.ensures.comes in
    let leads = c.back.invariant.leads in
    let known = read_known found.functions c.back.node.0 c.back.minute leads.here c.function.result.now c.at.result c.unwrap_or-cost.result
    c.function.ensures c.at.ensures c.unwrap_or-cost.ensures leads.known in
    let steps = steps_before c.back.legs.items c.push_leg.new.legs.items from.leg c.in_ok-push_leg.ensures.steps in
    let within = node_within found.functions from.node.0 from.minute comes.before comes.known in
    record {
      low = within.0;
      high = omega (arith, within.1, solved.found.nodes);
      size = omega (
        arith,
        ap (λ (w : List Step). length w) steps,
        length-append (steps_of_leg from.leg) (steps_of (reverse c.back.legs.items)),
        comes.short,
        c.back.invariant.size,
      );
      tidy = c.in_ok-push_leg.ensures.tidy;
      leads = subst (λ (w : List Step). LeadsToPair s r cost c.args.pair from.node.0 from.minute w) (sym steps)
          (leads_before s r cost c.args.pair c.back.node.0 c.back.minute c.unwrap_or-cost.result
          (steps_of (reverse c.back.legs.items)) from (takes_time net solved.found.good)
          (ways_to net r found solved.found c.args.pair c.requires.one)
          (solved.found.justified.begun (point from.node.0 from.minute comes.before) comes.known) leads known c.source_of-source.ensures);
    }

from_start : (c : goal.Else-minute-solved) → LeadsFirst (setting_in c.args.solved) c.args.solved.request c.args.pair
    (start_of c.args.solved.request) (steps_of (reverse c.back.legs.items))
from_start c =
    let r = c.args.solved.request in
    let s = setting_in c.args.solved in
    let cost = solved_cost c.args.solved in
    let solved = c.requires.solved in
    let steps = steps_of (reverse c.back.legs.items) in
    leads_from_start c.args.solved.net.now r c.args.solved.found.now solved.found c.args.pair c.requires.one steps
    (subst (λ n. LeadsToPair s r cost c.args.pair n r.depart steps) c.if-node-solved.false
    (subst (λ n. LeadsToPair s r cost c.args.pair c.back.node.0 n steps) c.if-minute-solved.false c.back.invariant.leads))

pub returns-clause-tidy : goal.returns-clause-tidy
returns-clause-tidy c = tidy_reversed c.back.legs.items c.back.invariant.tidy

pub returns-clause-walk : goal.returns-clause-walk
returns-clause-walk c = (from_start c).walk

pub returns-clause-first : goal.returns-clause-first
returns-clause-first c = is_first (setting_in c.args.solved) c.args.solved.request c.args.pair (takes_time c.args.solved.net.now c.requires.solved.found.good)
    (reverse c.back.legs.items) (from_start c)
