use Rattle.cost_functions.specs.Pieces.{value_at}
use Rattle.propagation.specs.Inside.States.{progress_of, task_of}
use Rattle.propagation.proofs.Offering.{source_of, covers_drives}
use Rattle.propagation.proofs.drives.offered.Goals as goal

pub driven-requires-clause-reached : goal.driven-requires-clause-reached
driven-requires-clause-reached c = c.requires.part.reached

pub with_waits-requires-clause-bound : goal.with_waits-requires-clause-bound
with_waits-requires-clause-bound c = c.requires.way.bound

pub with_waits-requires-clause-park : goal.with_waits-requires-clause-park
with_waits-requires-clause-park c = c.requires.way.park

pub with_waits-requires-clause-good : goal.with_waits-requires-clause-good
with_waits-requires-clause-good c = c.requires.way.good_park

pub with_waits-requires-clause-small : goal.with_waits-requires-clause-small
with_waits-requires-clause-small c = c.in_ok-clear.ensures.built.small

pub with_waits-requires-clause-clear : goal.with_waits-requires-clause-clear
with_waits-requires-clause-clear c =
    let drives = c.in_ok-clear.ensures.driven in
    record {
      costs = drives.ends;
      source = source_of (task_of c.args.task) (progress_of c.args.progress.now) c.args.way.id.0 c.args.v.0 c.args.way.arc.head.0
          (value_at c.args.part.now) drives.ends c.requires.part drives.driven;
      cleared = drives.cleared;
    }

pub returns-clause-covers : goal.returns-clause-covers
returns-clause-covers c =
    let drives = c.in_ok-clear.ensures.driven in
    covers_drives (task_of c.args.task) (progress_of c.args.progress.now) c.args.way.id.0 c.args.v.0 c.args.way.arc.head.0
    (value_at c.args.part.now) drives.ends (value_at c.in_ok-offer.offer) drives.driven
    (c.in_ok-offer.ensures.covers drives.ends drives.cleared)
