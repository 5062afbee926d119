use Rattle.std.proofs.Common.{refl, sym, ◌∙◌, subst, arith}
use Rattle.route_base.specs.Front.{RiseAndFall}
use Rattle.route_base.specs.Legs.{start_of}
use Rattle.cost_functions.specs.Pieces.{value_at}
use Rattle.propagation.specs.Inside.States.{progress_of, task_of}
use Rattle.propagation.proofs.Keeping.{covered_relaxed, takes_first}
use Rattle.propagation.proofs.Blanks.{blank_rests, start_source}
use Rattle.propagation.proofs.searching.begun.Goals as goal

pub with_waits-requires-clause-clear : goal.with_waits-requires-clause-clear
with_waits-requires-clause-clear c = record {
  costs = value_at c.in_ok-first.first;
  source = start_source (task_of c.args.task) (progress_of c.in_ok-progress.progress) (value_at c.in_ok-first.first) c.in_ok-first.ensures.here
      (λ t ne. c.in_ok-first.ensures.elsewhere t ne);
  cleared = c.cleared-clear.ensures.cleared;
}

pub take_at-requires-clause-trade : goal.take_at-requires-clause-trade
take_at-requires-clause-trade c = subst RiseAndFall (sym c.in_ok-progress.ensures.blank.pairs) (λ i j d before within. absurd (omega (arith, within)))

pub returns-in_default-clause-facts : goal.returns-in_default-clause-facts
returns-in_default-clause-facts c = blank_rests (task_of c.args.task) (progress_of c.in_ok-progress.progress) c.in_ok-progress.ensures.blank
    (sym c.get.ensures ∙ c.in_default.is)

pub returns-clause-facts : goal.returns-clause-facts
returns-clause-facts c =
    let k = task_of c.args.task in
    let origin = c.args.task.request.origin.0 in
    let blank = c.in_ok-progress.ensures.blank in
    let first = value_at c.in_ok-first.first in
    let offer = value_at c.in_ok-offer.offer in
    let old = progress_of c.in_ok-progress.progress in
    let new = progress_of c.take_at.new.progress in
    takes_first k origin offer old new blank.cost blank.pending blank.pairs
    (covered_relaxed k origin offer old new c.in_ok-take_at.ensures.takes (start_of c.args.task.request) refl
    (c.in_ok-offer.ensures.covers first c.cleared-clear.ensures.cleared c.args.task.request.depart 0 c.in_ok-first.ensures.here))
    c.in_ok-offer.ensures.offer c.in_ok-take_at.ensures.takes
