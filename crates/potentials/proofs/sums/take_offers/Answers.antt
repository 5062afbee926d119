use Rattle.std.proofs.Common.{◌≡◌, inl, inr, ⊎_elim, ◌+◌, ◌<◌, get_or, sym, ◌∙◌, subst, arith}
use Rattle.route_base.specs.Net.{setting_of}
use Rattle.label_queue.specs.Keys.{key_at}
use Rattle.node_arcs.proofs.StarPlaces.{earlier_or_next}
use Rattle.potentials.specs.Inside.Summing.{HasOffer, HasSum, IsWide, IsPastAt, counted_on, most_on}
use Rattle.potentials.specs.declared.sums.Offer.{Offer}
use Rattle.potentials.proofs.Ending.{ends_of}
use Rattle.std.proofs.lemmas.Option.{slice_get_within}
use Rattle.potentials.proofs.Summing.{settles}
use Rattle.potentials.proofs.sums.take_offers.Goals as goal

abbrev no_offer : Offer
no_offer = record { tail = record { 0 = 0 }; sum = 0 }

pub loop-offer-preserved : goal.loop-offer-preserved
loop-offer-preserved g c =
    let offers = c.args.offers.now in
    let taken = c.in_ok-take_offer.ensures.taken in
    record {
      nodes = taken.nodes;
      room = taken.room;
      facts = taken.facts;
      work = taken.work;
      less = omega (arith, taken.less, c.loop-offer.invariant.less);
      taken = λ i offer below is. ⊎_elim
          (λ (before : i < c.loop-offer.offer-index). taken.kept offer.tail.0 offer.sum (c.loop-offer.invariant.taken i offer before is))
          (λ (here : get_or offers c.loop-offer.offer-index no_offer ≡ offer).
          subst (λ (w : Offer). HasSum (key_at c.take_offer.new.known.items) w.tail.0 w.sum) here taken.has)
          (earlier_or_next offers c.loop-offer.offer-index i offer no_offer below is);
      span = c.take_offer.ensures.span ∙ c.loop-offer.invariant.span;
      wide = subst (λ n. IsWide c.args.plan.net.now c.args.plan.counted c.args.plan.cap n) (sym c.take_offer.ensures.span) c.loop-offer.invariant.wide;
      admits = c.take_offer.ensures.admits;
    }

pub returns-clause-facts : goal.returns-clause-facts
returns-clause-facts g c =
    let net = c.args.plan.net.now in
    let known = key_at c.loop-offer.known.items in
    settles (setting_of net).road (counted_on c.args.plan.counted) c.args.plan.goal.0 net.nodes (most_on c.args.plan.counted) c.args.plan.cap
    c.args.v.0 c.args.x known
    (key_at (g.Q.NodeQueue.keys c.loop-offer.queue)) c.loop-offer.invariant.facts c.loop-offer.invariant.work
    (λ a road by head.
    let sum = counted_on c.args.plan.counted road + c.args.x in
    ⊎_elim
    (λ (has : HasOffer c.args.offers.now road.tail sum). inl (subst (λ n. HasSum known road.tail n) has.4
    (subst (λ n. HasSum known n has.1.sum) has.3 (c.loop-offer.invariant.taken has.0 has.1
    (omega (arith, slice_get_within c.args.offers.now has.0 has.1 has.2, c.loop-offer-test.false)) has.2))))
    (λ (past : IsPastAt net c.args.plan.counted c.args.plan.cap sum). inr past)
    (c.requires.offers.all a (ends_of net a c.args.v.0 road by head) road by))
