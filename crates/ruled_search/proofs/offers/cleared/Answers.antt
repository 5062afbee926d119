use Rattle.std.proofs.Common.{List, sym, ◌∙◌, subst}
use Rattle.route_base.specs.declared.types.Pair.{Pair}
use Rattle.cost_functions.specs.Pieces.{value_at}
use Rattle.function_merge.specs.Pruning.{IsPruned}
use Rattle.state_dominance.specs.Inside.Product.{code}
use Rattle.ruled_states.specs.Inside.Codes.{base}
use Rattle.ruled_search.specs.Inside.Tasks.{task_of}
use Rattle.ruled_search.proofs.Closing.{bound_by_code, latest_by_code}
use Rattle.ruled_search.proofs.Moving.{cleared_of}
use Rattle.ruled_search.proofs.offers.cleared.Goals as goal

pub returns-clause-cleared : goal.returns-clause-cleared
returns-clause-cleared g c = cleared_of (task_of _ g.R.Ruler.ruling c.args.task) c.args.progress.now.pairs.items c.args.progress.now.borders.items
    (code base c.args.node.0 c.args.state) c.latest_at.result c.args.bound (value_at c.args.costs) (value_at c.into_pruned.result)
    (bound_by_code g.R.Ruler.ruling c.args.task c.args.node.0 c.args.state c.requires.node ∙ c.requires.bound)
    (latest_by_code g.R.Ruler.ruling c.args.task c.args.node.0 c.args.state c.requires.node ∙ sym c.latest_at.ensures) c.requires.borders
    (subst (λ (w : List Pair). IsPruned c.latest_at.result w c.args.bound (value_at c.args.costs) (value_at c.into_pruned.result))
    c.deref.ensures.value c.into_pruned.ensures.values)
