use Rattle.std.proofs.Common.{◌≡◌, ⊎_elim, ℕ, ◌<◌, get_or, refl, sym, subst, arith}
use Rattle.route_base.specs.Itinerary.{Step, drive, wait, Moves}
use Rattle.route_base.specs.declared.types.ArcId.{ArcId}
use Rattle.route_base.specs.declared.types.Leg.{Leg}
use Rattle.node_arcs.specs.declared.links.End.TheVariants.{Head}
use Rattle.node_arcs.proofs.StarPlaces.{place_ends, ends_place, earlier_or_next}
use Rattle.potentials.proofs.Ending.{ends_of}
use Rattle.route_base.specs.StepsBack.{HasNoMove, IsFirstLeg}
use Rattle.propagation.specs.Inside.Invariants.{point}
use Rattle.itinerary_unpack.specs.Inside.Requests.{setting_in, solved_cost}
use Rattle.itinerary_unpack.proofs.Sourcing.{smaller_earlier}
use Rattle.route_base.proofs.GoingBack.{drives_first}
use Rattle.itinerary_unpack.proofs.sources.source_of.Goals as goal

abbrev no_arc : ArcId
no_arc = record { 0 = 0 }

pub wait_into-requires : goal.wait_into-requires
wait_into-requires c = record { solved = c.requires.solved; low = c.requires.low; high = c.requires.high; upto = c.requires.upto }

pub drive_into-requires-clause-ends : goal.drive_into-requires-clause-ends
drive_into-requires-clause-ends c = place_ends c.args.solved.net.now Head c.args.solved.incoming.now c.requires.solved.incoming c.args.v.0
    c.of-a-items.result.now c.of-a-items.ensures c.loop-a.a-index no_arc c.loop-a-test.true

pub loop-a-preserved : goal.loop-a-preserved
loop-a-preserved c i a below is = ⊎_elim
    (λ (before : i < c.loop-a.a-index). c.loop-a.invariant i a before is)
    (λ (here : get_or c.of-a-items.result.now c.loop-a.a-index no_arc ≡ a).
    subst (λ (w : ArcId). HasNoMove (setting_in c.args.solved) c.args.solved.request.until (solved_cost c.args.solved) (drive w.0)
    (point c.args.v.0 c.args.t c.args.x)) here
    (c.in_default-drive_into.ensures.none refl))
    (earlier_or_next c.of-a-items.result.now c.loop-a.a-index i a no_arc below is)

-- the arcs before the one over which a drive leads here have smaller numbers
pub returns-in-Some-drive_into : goal.returns-in-Some-drive_into
returns-in-Some-drive_into c =
    let s = setting_in c.args.solved in
    let until = c.args.solved.request.until in
    let cost = solved_cost c.args.solved in
    let p = point c.args.v.0 c.args.t c.args.x in
    let k = c.loop-a.a-index in
    let arcs = c.of-a-items.result.now in
    let found = c.in-Some-drive_into.ensures in
    let smaller : (b : ℕ) → b < (get_or arcs k no_arc).0 → HasNoMove s until cost (drive b) p = λ b less q known move.
    let place = smaller_earlier c.args.solved.net.now c.args.solved.incoming.now c.requires.solved.incoming c.args.v.0 arcs c.of-a-items.ensures k no_arc
    c.loop-a-test.true b less (ends_of c.args.solved.net.now b c.args.v.0 move.road move.is (sym move.node)) in
    c.loop-a.invariant place.0 (record { 0 = b }) place.1 place.2 q known move in
    record {
      comes = found.some;
      first = subst (λ (w : Leg). IsFirstLeg s until cost p w) (sym found.leg)
          (drives_first s until cost p (c.in_default.ensures.none refl) (get_or arcs k no_arc) smaller);
    }

pub unreachable-requires : goal.unreachable-requires
unreachable-requires c = by c.requires.comes.step c.requires.comes.move
  where
    by : (y : Step) → Moves (setting_in c.args.solved) c.args.solved.request.until y c.requires.comes.source (point c.args.v.0 c.args.t c.args.x) → ⊥
    by wait move = c.in_default.ensures.none refl c.requires.comes.source c.requires.comes.known move
    by (drive b) move =
        let place = ends_place c.args.solved.net.now Head c.args.solved.incoming.now c.requires.solved.incoming c.args.v.0 c.of-a-items.result.now
        c.of-a-items.ensures b (ends_of c.args.solved.net.now b c.args.v.0 move.road move.is (sym move.node)) in
        c.loop-a.invariant place.0 (record { 0 = b }) (omega (arith, place.1, c.loop-a-test.false)) place.2 c.requires.comes.source c.requires.comes.known move
