use Rattle.std.proofs.Common.{ℕ, Option, subst}
use Rattle.route_base.specs.Setting.{Road}
use Rattle.state_dominance.specs.Inside.Product.{Service}
use Rattle.ruled_states.specs.Inside.Reduced.{reduced_in, sums_of}
use Rattle.ruled_bounds.specs.Inside.Reducing.{EndsBy, IsPricedBy, IsReducedBy}
use Rattle.ruled_bounds.proofs.Reduced.{arcs_reduced}
use Rattle.ruled_bounds.proofs.stop_sums.reduced_sums.Goals as goal

pub returns-then-stages_hold : goal.returns-then-stages_hold
returns-then-stages_hold g c =
    let sums = c.in_ok-sums.sums in
    let ground = c.args.ground.now in
    let good = c.node_count-nodes.ensures.good in
    let sum = reduced_in (sums_of sums.sums.items) in
    record {
      waits = λ v weight is. subst (λ (o : Option ℕ). IsPricedBy sums.price o) is (c.is_low.ensures.waits c.if-is_low.true v);
      drives = λ i a over few is. subst (λ (o : Option Road). IsReducedBy sums.price sum i o) is
          (arcs_reduced ground.net.now ground.incoming.now sums.price sum i good c.requires.incoming (c.is_low.ensures.drives c.if-is_low.true)
          (c.stages_hold.ensures.nodes c.if-stages_hold.true i few) a);
      stops = λ i stop is. subst (λ (o : Option Service). EndsBy sum i o) is (c.stages_hold.ensures.stops c.if-stages_hold.true i);
    }
