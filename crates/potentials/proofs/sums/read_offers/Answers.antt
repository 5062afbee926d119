use Rattle.std.proofs.Common.{◌≡◌, ⊎_elim, ◌<◌, get_or, subst, arith}
use Rattle.node_arcs.specs.declared.links.End.TheVariants.{Head}
use Rattle.node_arcs.proofs.StarPlaces.{place_ends, ends_place, earlier_or_next}
use Rattle.route_base.specs.declared.types.ArcId.{ArcId}
use Rattle.potentials.specs.Inside.Summing.{IsArcRead}
use Rattle.potentials.proofs.Offers.{still_read}
use Rattle.potentials.proofs.sums.read_offers.Goals as goal

abbrev no_arc : ArcId
no_arc = record { 0 = 0 }

pub add_offer-requires-clause-ends : goal.add_offer-requires-clause-ends
add_offer-requires-clause-ends c = place_ends c.args.plan.net.now Head c.args.plan.incoming.now c.requires.incoming c.args.v.0 c.of-a-items.result.now
    c.of-a-items.ensures c.loop-a.a-index no_arc c.loop-a-test.true

pub loop-a-preserved : goal.loop-a-preserved
loop-a-preserved c =
    let net = c.args.plan.net.now in
    let arcs = c.of-a-items.result.now in
    let added = c.in_ok-add_offer.ensures in
    record {
      each = added.each;
      read = λ i a below is. ⊎_elim
          (λ (before : i < c.loop-a.a-index). still_read net c.args.plan.counted c.args.plan.cap c.args.x a.0 c.loop-a.offers.items
          c.add_offer.new.offers.items added.kept (c.loop-a.invariant.read i a before is))
          (λ (here : get_or arcs c.loop-a.a-index no_arc ≡ a).
          subst (λ (w : ArcId). IsArcRead net c.args.plan.counted c.args.plan.cap c.args.x c.add_offer.new.offers.items w.0) here added.read)
          (earlier_or_next arcs c.loop-a.a-index i a no_arc below is);
    }

pub returns : goal.returns
returns c = record {
  each = c.loop-a.invariant.each;
  all = λ a ends.
      let place = ends_place c.args.plan.net.now Head c.args.plan.incoming.now c.requires.incoming c.args.v.0 c.of-a-items.result.now
      c.of-a-items.ensures a ends in
      c.loop-a.invariant.read place.0 (record { 0 = a }) (omega (arith, place.1, c.loop-a-test.false)) place.2;
}
