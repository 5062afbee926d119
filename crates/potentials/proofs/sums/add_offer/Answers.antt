use Rattle.std.proofs.Common.{◌≡◌, inl, ◌+◌, ◌-◌, All, Some, List, get_or, refl, sym, ap, subst, arith}
use Rattle.std.specs.Option.{option_map}
use Rattle.std.proofs.lemmas.List.Elements.{All-push}
use Rattle.route_base.specs.Setting.{Road}
use Rattle.route_base.specs.Net.{road_of, at_number}
use Rattle.route_base.specs.declared.types.TimedArc.{TimedArc}
use Rattle.route_base.proofs.Arcs.{good_arc, road_is}
use Rattle.node_arcs.specs.declared.links.End.TheVariants.{Head}
use Rattle.node_arcs.proofs.ArcEnds.{ends_within}
use Rattle.potentials.specs.Inside.Summing.{HasOffer, IsOffer, counted_on}
use Rattle.potentials.specs.declared.sums.Offer.{Offer}
use Rattle.potentials.proofs.Ending.{cheap, head_of, sum_fits}
use Rattle.potentials.proofs.Offers.{added_offer, arc_read, kept_offer}
use Rattle.potentials.proofs.sums.add_offer.Goals as goal

abbrev no_arc : TimedArc
no_arc = record { tail = record { 0 = 0 }; head = record { 0 = 0 }; minutes = 0; cost = 0; closed = 0 }

pub returns-clause-each : goal.returns-clause-each
returns-clause-each c =
    let net = c.args.plan.net.now in
    let within = ends_within net Head c.args.v.0 c.args.a.0 c.requires.ends in
    let arc = get_or c.arcs.result.now (c.args.a.0 - 1) no_arc in
    let is : at_number net.arcs c.args.a.0 ≡ Some arc = arc_read c.arcs.result.now net.arcs c.arcs.ensures.value c.args.a.0 no_arc within.0 within.1 in
    let good = good_arc net c.arcs.ensures.good c.args.a.0 arc is in
    subst (λ (w : List Offer). All (IsOffer net c.args.plan.counted c.args.plan.cap c.args.v.0 c.args.x) w) (sym c.in_ok-push.ensures.items)
    (All-push (IsOffer net c.args.plan.counted c.args.plan.cap c.args.v.0 c.args.x) c.args.offers.now.items _ c.requires.each
    (record {
      arc = c.args.a.0;
      road = road_of arc;
      is = ap (option_map road_of) is;
      head = head_of (at_number net.arcs c.args.a.0) arc c.args.v.0 is c.requires.ends;
      tail = refl;
      sum = ap (λ n. n + c.args.x) c.of.ensures;
      cheap = cheap net c.args.plan.counted arc good;
      below = omega arith;
      real = sum_fits c.args.plan.counted c.of.result c.args.x net.nodes (omega (arith, c.of.ensures, cheap net c.args.plan.counted arc good))
          c.requires.room c.requires.good.nodes;
      node = good.tail;
    }))

pub returns-clause-read : goal.returns-clause-read
returns-clause-read c road by =
    let net = c.args.plan.net.now in
    let counted = counted_on c.args.plan.counted in
    let within = ends_within net Head c.args.v.0 c.args.a.0 c.requires.ends in
    let arc = get_or c.arcs.result.now (c.args.a.0 - 1) no_arc in
    let new = c.push.new.self.items in
    let is : at_number net.arcs c.args.a.0 ≡ Some arc = arc_read c.arcs.result.now net.arcs c.arcs.ensures.value c.args.a.0 no_arc within.0 within.1 in
    let added = subst (λ (w : List Offer). HasOffer w arc.tail.0 (c.of.result + c.args.x)) (sym c.in_ok-push.ensures.items)
    (added_offer c.args.offers.now.items _) in
    inl (subst (λ (w : Road). HasOffer new w.tail (counted w + c.args.x)) (road_is (at_number net.arcs c.args.a.0) arc road is by)
    (subst (λ n. HasOffer new arc.tail.0 (n + c.args.x)) c.of.ensures added))

pub returns-clause-kept : goal.returns-clause-kept
returns-clause-kept c u sum has =
    subst (λ (w : List Offer). HasOffer w u sum) (sym c.in_ok-push.ensures.items) (kept_offer c.args.offers.now.items _ u sum has)
