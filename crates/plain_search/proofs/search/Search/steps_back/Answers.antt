use Rattle.std.proofs.Common.{◌≡◌, ◌+◌, ◌++◌, ◌∷◌, [], List, length, reverse, refl, sym, ◌∙◌, ap, subst, rules, arith, length-append}
use Rattle.std.specs.Prelude.{All}
use Rattle.std.proofs.lemmas.List.Elements.{All-push}
use Rattle.route_base.specs.Itinerary.{Step, Position}
use Rattle.route_base.specs.Legs.{steps_of, start_of}
use Rattle.route_base.specs.Net.{setting_of}
use Rattle.route_base.specs.declared.types.Leg.{Leg}
use Rattle.route_base.specs.declared.types.Pair.{Pair}
use Rattle.route_base.proofs.Arcs.{takes_time}
use Rattle.route_base.proofs.Waiting.{same_position}
use Rattle.route_base.specs.StepsBack.{LeadsFirst}
use Rattle.route_base.proofs.GoingBack.{leads_at_end, leads_before_leg, is_first}
use Rattle.plain_search.specs.Inside.Costs.{at, value_of}
use Rattle.plain_search.specs.Inside.CostTable.{cost_of}
use Rattle.plain_search.specs.Inside.Predecessors.{IsSingle}
use Rattle.plain_search.proofs.Backward.{steps-reverse_push}
use Rattle.plain_search.proofs.Columns.{final_inside}
use Rattle.plain_search.proofs.EveryWay.{ways_to}
use Rattle.plain_search.proofs.search.Search.steps_back.Goals as goal

pub back-init : goal.back-init
back-init c =
    let s = setting_of c.args.self.now.net.now in
    let r = c.args.self.now.request in
    let cost = cost_of c.args.table.now in
    let pair : Pair = record { arrival = c.args.arrival; cost = cost r.goal.0 c.args.arrival } in
    let none : [] ≡ c.new-legs.result.items = sym c.new-legs.ensures.items in
    record {
      known = c.requires.label.reached.known;
      upto = c.requires.label.reached.upto;
      short = omega (arith, ap (λ (w : List Leg). length w) none);
      single = subst (All IsSingle) none (λ i d within. absurd (omega (arith, within)));
      leads = subst (λ (w : List Leg). LeadsFirst s r pair (at cost r.goal.0 c.args.arrival) (steps_of (reverse w))) none (leads_at_end s r pair);
    }

pub back-preserved : goal.back-preserved
back-preserved c =
    let net = c.args.self.now.net.now in
    let s = setting_of net in
    let r = c.args.self.now.request in
    let cost = cost_of c.args.table.now in
    let pair : Pair = record { arrival = c.args.arrival; cost = cost r.goal.0 c.args.arrival } in
    let from = c.predecessor-from.result in
    let leads = c.predecessor-from.ensures.leads in
    let items : c.push.new.self.items ≡ c.back.legs.items ++ from.leg ∷ [] = search rules in
    let begun = (final_inside net r c.args.self.now.asked.in_time c.args.table.now c.requires.relaxed from.node.0 from.minute leads.known).minute.0 in
    record {
      known = leads.known;
      upto = omega (arith, leads.earlier, c.back.invariant.upto);
      short = omega (
        arith,
        ap (λ (w : List Leg). length w) items,
        length-append c.back.legs.items
            (from.leg ∷ []),
        c.back.invariant.short,
        leads.earlier,
      );
      single = rw items (All-push IsSingle c.back.legs.items from.leg c.back.invariant.single leads.single);
      leads = subst (λ (w : List Step). LeadsFirst s r pair (at cost from.node.0 from.minute) w)
          (sym (ap (λ (w : List Leg). steps_of (reverse w)) items ∙ steps-reverse_push c.back.legs.items from.leg))
          (leads_before_leg s r pair (takes_time net c.args.self.now.good) (value_of cost)
          (ways_to s r cost (r.until + 1) c.args.self.now.asked.fit c.requires.label.sound.founded c.requires.relaxed.relaxed pair refl)
          (steps_of (reverse c.back.legs.items)) from.leg (at cost from.node.0 from.minute) (at cost c.back.node.0 c.back.minute) begun
          leads.walk c.predecessor-from.ensures.first c.back.invariant.leads);
    }

from_start : (c : goal.Else-minute-self) → LeadsFirst (setting_of c.args.self.now.net.now) c.args.self.now.request
    (record { arrival = c.args.arrival; cost = cost_of c.args.table.now c.args.self.now.request.goal.0 c.args.arrival })
    (start_of c.args.self.now.request) (steps_of (reverse c.back.legs.items))
from_start c =
    let s = setting_of c.args.self.now.net.now in
    let r = c.args.self.now.request in
    let cost = cost_of c.args.table.now in
    let pair : Pair = record { arrival = c.args.arrival; cost = cost r.goal.0 c.args.arrival } in
    let free : cost c.back.node.0 c.back.minute ≡ 0 = ap (λ n. cost n c.back.minute) c.if-node-self.false
    ∙ (ap (λ n. cost r.origin.0 n) c.if-minute-self.false ∙ c.requires.label.sound.founded.start) in
    subst (λ (w : Position). LeadsFirst s r pair w (steps_of (reverse c.back.legs.items)))
    (same_position (at cost c.back.node.0 c.back.minute) (start_of r) c.if-node-self.false c.if-minute-self.false free) c.back.invariant.leads

pub returns-clause-walk : goal.returns-clause-walk
returns-clause-walk c = (from_start c).walk

pub returns-clause-first : goal.returns-clause-first
returns-clause-first c = is_first (setting_of c.args.self.now.net.now) c.args.self.now.request
    (record { arrival = c.args.arrival; cost = cost_of c.args.table.now c.args.self.now.request.goal.0 c.args.arrival })
    (takes_time c.args.self.now.net.now c.args.self.now.good) (reverse c.back.legs.items) (from_start c)
