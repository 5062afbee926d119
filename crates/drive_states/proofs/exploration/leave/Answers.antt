use Rattle.std.proofs.lemmas.Result.{IfOk-weaker}
use Rattle.drive_states.proofs.Found.{left, left_over, left_last}
use Rattle.drive_states.proofs.exploration.leave.Goals as goal

pub returns-clause-facts : goal.returns-clause-facts
returns-clause-facts c = IfOk-weaker c.rest_at.result _ _ (λ _ took.
    left c.args.plan.net.now c.args.plan.outgoing.now c.args.plan.origin.0 c.args.plan.rule c.args.n c.drive_on.new.states c.rest_at.new.states
    c.drive_on.new.ways.items c.rest_at.new.ways.items _ c.requires.outgoing c.in_ok-drive_on.ensures.facts c.in_ok-drive_on.ensures.at took)
    c.rest_at.ensures.took

pub returns-clause-many : goal.returns-clause-many
returns-clause-many c = λ is.
    left_over c.args.plan.net.now c.args.plan.outgoing.now c.args.plan.origin.0 c.args.plan.rule c.args.n c.drive_on.new.states c.rest_at.new.states
    c.drive_on.new.ways.items c.rest_at.new.ways.items _ c.in_ok-drive_on.ensures.facts c.in_ok-drive_on.ensures.at (c.rest_at.ensures.many is)

pub returns-clause-last : goal.returns-clause-last
returns-clause-last c = IfOk-weaker c.rest_at.result _ _ (λ _ took.
    left_last c.args.plan.net.now c.args.plan.outgoing.now c.args.plan.origin.0 c.args.plan.rule c.args.n c.drive_on.new.states c.rest_at.new.states
    c.drive_on.new.ways.items c.rest_at.new.ways.items _ c.in_ok-drive_on.ensures.facts c.in_ok-drive_on.ensures.at took)
    c.rest_at.ensures.took
