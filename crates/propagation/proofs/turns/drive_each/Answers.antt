use Rattle.std.proofs.Common.{◌≡◌, ⊎_elim, ◌<◌, None, get_or, sym, subst, arith}
use Rattle.node_arcs.proofs.DriveEnds.{drives_tail}
use Rattle.node_arcs.proofs.StarPlaces.{earlier_or_next}
use Rattle.route_base.specs.Itinerary.{Drives}
use Rattle.route_base.specs.Net.{setting_of}
use Rattle.propagation.proofs.Fitting.{part_kept}
use Rattle.propagation.proofs.Gathering.{item_within}
use Rattle.propagation.proofs.Keeping.{relaxed_kept, improves-append}
use Rattle.propagation.proofs.Parting.{settle}
use Rattle.propagation.proofs.turns.drive_each.Goals as goal
use Rattle.cost_functions.specs.Pieces.{value_at}
use Rattle.propagation.specs.Inside.Invariants.{point}
use Rattle.propagation.specs.Inside.States.{HasArc, IsArcRelaxed, progress_of, task_of}
use Rattle.propagation.specs.declared.ways.OutgoingArc.{OutgoingArc}

abbrev no_way : OutgoingArc
no_way = record {
  id = record { 0 = 0 };
  arc = record { tail = record { 0 = 0 }; head = record { 0 = 0 }; minutes = 0; cost = 0; closed = 0 };
  bound = record { minutes = 0; cost = 0 };
  park = None;
  ahead = 0;
}

pub drive_one-requires-clause-part : goal.drive_one-requires-clause-part
drive_one-requires-clause-part c = part_kept (task_of c.args.task) (progress_of c.args.progress.now) (progress_of c.loop-way.progress) c.args.v.0
    (value_at c.args.part.now) c.loop-way.invariant.better c.requires.part

pub loop-way-preserved : goal.loop-way-preserved
loop-way-preserved c =
    let k = task_of c.args.task in
    let ways = c.args.ways.now in
    record {
      entries = c.in_ok-drive_one.ensures.entries;
      shape = c.in_ok-drive_one.ensures.shape;
      facts = c.in_ok-drive_one.ensures.facts;
      better = improves-append k (progress_of c.args.progress.now) (progress_of c.loop-way.progress)
          (progress_of c.drive_one.new.progress) c.loop-way.invariant.better c.in_ok-drive_one.ensures.better;
      relaxed = λ i way below is t x q there step. ⊎_elim
          (λ (before : i < c.loop-way.way-index). relaxed_kept k (progress_of c.loop-way.progress)
          (progress_of c.drive_one.new.progress) q c.in_ok-drive_one.ensures.better (c.loop-way.invariant.relaxed i way before is t x q there step))
          (λ (here : get_or ways c.loop-way.way-index no_way ≡ way). c.in_ok-drive_one.ensures.relaxed t x q there
          (subst (λ (w : OutgoingArc). Drives (setting_of c.args.task.net.now) c.args.task.request.until w.id.0 (point c.args.v.0 t x) q) (sym here) step))
          (earlier_or_next ways c.loop-way.way-index i way no_way below is);
    }

pub returns-clause-facts : goal.returns-clause-facts
returns-clause-facts c =
    let k = task_of c.args.task in
    settle k (progress_of c.loop-way.progress) c.args.v.0 (value_at c.args.part.now) c.loop-way.invariant.facts
    (λ t x there a q step. ⊎_elim
    (λ (has : HasArc c.args.ways.now a). c.loop-way.invariant.relaxed has.0 has.1
    (omega (arith, item_within c.args.ways.now has.0 has.1 has.2, c.loop-way-test.false)) has.2 t x q there
    (subst (λ n. Drives (setting_of c.args.task.net.now) c.args.task.request.until n (point c.args.v.0 t x) q) (sym has.3) step))
    (λ (done : IsArcRelaxed c.args.task c.args.progress.now c.args.v.0 c.args.part.now a).
    relaxed_kept k (progress_of c.args.progress.now) (progress_of c.loop-way.progress) q c.loop-way.invariant.better (done t x q there step))
    (c.requires.each a (drives_tail c.args.task.net.now c.args.task.request.until a (point c.args.v.0 t x) q step)))
