use Rattle.propagation.proofs.Keeping.{takes_keeps, takes_improves, covered_relaxed}
use Rattle.propagation.proofs.turns.drive_one.Goals as goal
use Rattle.cost_functions.specs.Pieces.{value_at}
use Rattle.propagation.specs.Inside.States.{progress_of, task_of}

pub returns-clause-facts : goal.returns-clause-facts
returns-clause-facts c = takes_keeps (task_of c.args.task) c.args.way.arc.head.0 (value_at c.in_ok-offer.offer) (progress_of c.args.progress.now)
    (progress_of c.take_at.new.progress)
    c.args.v.0 (value_at c.args.part.now) c.requires.facts c.in_ok-offer.ensures.offer c.in_ok-take_at.ensures.takes

pub returns-clause-better : goal.returns-clause-better
returns-clause-better c = takes_improves (task_of c.args.task) c.args.way.arc.head.0 (value_at c.in_ok-offer.offer) (progress_of c.args.progress.now)
    (progress_of c.take_at.new.progress) c.in_ok-take_at.ensures.takes

pub returns-clause-relaxed : goal.returns-clause-relaxed
returns-clause-relaxed c t x q there step =
    let covers = c.in_ok-offer.ensures.covers t x q there step in
    covered_relaxed (task_of c.args.task) c.args.way.arc.head.0 (value_at c.in_ok-offer.offer) (progress_of c.args.progress.now)
    (progress_of c.take_at.new.progress) c.in_ok-take_at.ensures.takes q
    covers.0 covers.1
