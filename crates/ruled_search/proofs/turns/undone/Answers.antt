use Rattle.std.proofs.Common.{arith}
use Rattle.cost_functions.specs.Pieces.{value_at}
use Rattle.state_dominance.specs.Inside.Product.{code}
use Rattle.ruled_states.specs.Inside.Codes.{base}
use Rattle.ruled_search.specs.Inside.Tasks.{task_of, progress_of}
use Rattle.ruled_search.proofs.turns.undone.Goals as goal

pub narrowed-requires-clause-node : goal.narrowed-requires-clause-node
narrowed-requires-clause-node g c = omega (arith, c.requires.high, c.requires.asked.good.nodes)

pub unsurpassed-requires-clause-facts : goal.unsurpassed-requires-clause-facts
unsurpassed-requires-clause-facts g c =
    c.parts_are_kept.ensures.narrows (task_of _ g.R.Ruler.ruling c.args.task) (progress_of c.args.progress.now)
    (code base c.args.info.node.0 c.args.info.state) (value_at c.args.part) (value_at c.in_ok-clear.clear) c.requires.facts
    c.in_ok-clear.ensures.narrowed.left

pub returns-clause-kept : goal.returns-clause-kept
returns-clause-kept g c = λ t x is. c.in_ok-clear.ensures.narrowed.kept t x (c.in_ok-live.ensures.kept t x is)
