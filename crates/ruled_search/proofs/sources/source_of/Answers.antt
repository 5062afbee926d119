use Rattle.std.proofs.Common.{◌≡◌, ⊎_elim, ◌<◌, ◌≤◌, get_or, refl, subst, arith}
use Rattle.std.proofs.lemmas.Bool.{cases_lt}
use Rattle.route_base.specs.declared.types.ArcId.{ArcId}
use Rattle.node_arcs.specs.declared.links.End.TheVariants.{Head}
use Rattle.node_arcs.proofs.StarPlaces.{place_ends, ends_place, earlier_or_next}
use Rattle.ruled_search.specs.Inside.Sources.{HasNoRoad}
use Rattle.ruled_search.specs.Inside.Tasks.{progress_of, task_of}
use Rattle.ruled_search.proofs.EarlierArcs.{earlier_place}
use Rattle.ruled_search.proofs.FirstLegs.{drives_are_next, rests_are_next, services_are_last}
use Rattle.ruled_search.proofs.Sourcing.{has_none, no_drives, no_drives_before}
use Rattle.ruled_search.proofs.sources.source_of.Goals as goal

abbrev no_arc : ArcId
no_arc = record { 0 = 0 }

pub drive_into-requires-clause-ends : goal.drive_into-requires-clause-ends
drive_into-requires-clause-ends g c = place_ends c.args.task.net.now Head c.args.incoming.now c.requires.solved.arcs c.args.spot.info.node.0
    c.of-a-items.result.now c.of-a-items.ensures c.loop-a.a-index no_arc c.loop-a-test.true

pub returns-in-Some-rest_into : goal.returns-in-Some-rest_into
returns-in-Some-rest_into g c = record {
  comes = c.in-Some-rest_into.ensures.some;
  first = rests_are_next (task_of _ g.R.Ruler.ruling c.args.task) (progress_of c.args.progress.now).cost c.args.spot c.in-Some-rest_into.source.leg
      (c.in_default.ensures.none refl) c.in-Some-rest_into.ensures.leg;
}

pub returns-in-Some-drive_into : goal.returns-in-Some-drive_into
returns-in-Some-drive_into g c =
    let arcs = c.of-a-items.result.now in
    let i = c.loop-a.a-index in
    record {
      comes = c.in-Some-drive_into.ensures.some;
      first = drives_are_next (task_of _ g.R.Ruler.ruling c.args.task) (progress_of c.args.progress.now).cost c.args.spot
          c.in-Some-drive_into.source.leg (get_or arcs i no_arc) c.in-Some-drive_into.ensures.leg (c.in_default.ensures.none refl)
          (c.in_default-rest_into.ensures.none refl)
          (no_drives_before c.requires.solved c.args.spot c.requires.spot c.requires.upto (get_or arcs i no_arc).0
          (λ b below ends. let place = earlier_place c.args.task.net.now Head c.args.incoming.now c.requires.solved.arcs c.args.spot.info.node.0
          arcs c.of-a-items.ensures i no_arc c.loop-a-test.true b below ends in
          c.loop-a.invariant place.0 (record { 0 = b }) place.1 place.2));
    }

pub returns-in-Some-service_into : goal.returns-in-Some-service_into
returns-in-Some-service_into g c = record {
  comes = c.in-Some-service_into.ensures.some;
  first = services_are_last (task_of _ g.R.Ruler.ruling c.args.task) (progress_of c.args.progress.now).cost c.args.spot
      c.in-Some-service_into.source.leg c.loop-place.place c.in-Some-service_into.ensures.leg (c.in_default.ensures.none refl)
      (c.in_default-rest_into.ensures.none refl)
      (no_drives c.requires.solved c.args.spot c.requires.spot c.requires.upto
      (λ a ends. let place = ends_place c.args.task.net.now Head c.args.incoming.now c.requires.solved.arcs c.args.spot.info.node.0
      c.of-a-items.result.now c.of-a-items.ensures a ends in
      c.loop-a.invariant place.0 (record { 0 = a }) (omega (arith, place.1, c.loop-a-test.false)) place.2))
      c.loop-place.invariant;
}

pub loop-a-preserved : goal.loop-a-preserved
loop-a-preserved g c i a below is = ⊎_elim
    (λ (before : i < c.loop-a.a-index). c.loop-a.invariant i a before is)
    (λ (here : get_or c.of-a-items.result.now c.loop-a.a-index no_arc ≡ a).
    subst (λ (w : ArcId). HasNoRoad (task_of _ g.R.Ruler.ruling c.args.task) (progress_of c.args.progress.now).cost c.args.spot 0 w.0) here
    (c.in_default-drive_into.ensures.none refl))
    (earlier_or_next c.of-a-items.result.now c.loop-a.a-index i a no_arc below is)

pub loop-place-preserved : goal.loop-place-preserved
loop-place-preserved g c i below = ⊎_elim
    (λ (before : i < c.loop-place.place). c.loop-place.invariant i before)
    (λ (here : c.loop-place.place ≤ i).
    let same : c.loop-place.place ≡ i = omega (arith, below, here) in
    subst (λ n. HasNoRoad (task_of _ g.R.Ruler.ruling c.args.task) (progress_of c.args.progress.now).cost c.args.spot 2 n) same
    (c.in_default-service_into.ensures.none refl))
    (cases_lt i c.loop-place.place)

pub unreachable-requires : goal.unreachable-requires
unreachable-requires g c = has_none c.requires.solved c.args.spot c.requires.spot c.requires.upto
    (c.in_default.ensures.none refl)
    (λ a ends. let place = ends_place c.args.task.net.now Head c.args.incoming.now c.requires.solved.arcs c.args.spot.info.node.0
    c.of-a-items.result.now c.of-a-items.ensures a ends in
    c.loop-a.invariant place.0 (record { 0 = a }) (omega (arith, place.1, c.loop-a-test.false)) place.2)
    (c.in_default-rest_into.ensures.none refl)
    (λ place within. c.loop-place.invariant place (omega (arith, within, c.loop-place-test.false, c.service_count-place-end.ensures)))
    c.requires.comes
