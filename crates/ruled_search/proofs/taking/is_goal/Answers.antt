use Rattle.std.proofs.Common.{◌∙◌}
use Rattle.ruled_search.proofs.Closing.{goal_here, goal_other}
use Rattle.ruled_search.proofs.taking.is_goal.Goals as goal

pub returns-then-node-task : goal.returns-then-node-task
returns-then-node-task g c = goal_other g.R.Ruler.ruling c.args.task c.args.node.0 c.args.state c.requires.node (λ same. c.if-node-task.true same)

pub returns : goal.returns
returns g c = c.ends.ensures ∙ goal_here g.R.Ruler.ruling c.args.task c.args.node.0 c.args.state c.requires.node c.if-node-task.false
