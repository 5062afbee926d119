use Rattle.std.proofs.Common.{◌+◌, ◌<◌, ◌∙◌, subst, sym, arith}
use Rattle.route_base.specs.Net.{setting_of}
use Rattle.label_queue.specs.Keys.{key_at}
use Rattle.potentials.specs.Inside.Summing.{GetsSum, HasSum, counted_on, most_on}
use Rattle.potentials.proofs.Summing.{reach_keeps, sum_kept}
use Rattle.potentials.proofs.sums.take_offer.Goals as goal

pub returns-clause-taken : goal.returns-clause-taken
returns-clause-taken g c =
    let net = c.args.plan.net.now in
    let counted = counted_on c.args.plan.counted in
    let offer = c.requires.offer in
    let u = c.args.offer.tail.0 in
    let known = key_at c.args.known.now.items in
    let new = key_at c.reach.new.known.items in
    let keys = key_at (g.Q.NodeQueue.keys c.args.queue.now) in
    let new_keys = key_at (g.Q.NodeQueue.keys c.reach.new.queue) in
    let reached : GetsSum u (counted offer.road + c.args.x) known new keys new_keys =
    subst (λ n. GetsSum u n known new keys new_keys) offer.sum c.in_ok-reach.ensures.reached in
    let keeps = reach_keeps (setting_of net).road counted c.args.plan.goal.0 net.nodes (most_on c.args.plan.counted) c.args.plan.cap c.args.v.0
    c.args.x offer.arc u
    offer.road known new keys new_keys c.requires.facts c.requires.work offer.is offer.head offer.tail offer.cheap reached in
    record {
      nodes = c.in_ok-reach.ensures.nodes ∙ c.requires.nodes;
      room = c.in_ok-reach.ensures.room ∙ c.requires.room;
      facts = keeps.0;
      work = keeps.1;
      less = keeps.3;
      kept = λ w sum has. sum_kept (setting_of net).road counted c.args.plan.goal.0 net.nodes (most_on c.args.plan.counted) c.args.plan.cap u
          (counted offer.road + c.args.x) known new keys new_keys w sum reached has;
      has = subst (λ n. HasSum new u n) (sym offer.sum) keeps.2;
    }

pub reach-requires-clause-settled : goal.reach-requires-clause-settled
reach-requires-clause-settled g c x known gone = omega (arith, c.requires.work.low c.args.offer.tail.0 x known gone, c.requires.offer.sum)

pub reach-requires-clause-admitted : goal.reach-requires-clause-admitted
reach-requires-clause-admitted g c =
    let offer = c.requires.offer in
    let counted = counted_on c.args.plan.counted in
    let below : counted offer.road + c.args.x < c.args.plan.cap = omega (arith, offer.below, offer.sum) in
    let wide = c.requires.wide offer.arc c.args.x offer.road offer.is below in
    c.requires.admits c.args.offer.sum (omega (arith, offer.sum)) (omega (arith, offer.sum, wide)) offer.real
