-- In a search's shape each state has a function, and the number of its code.
use Rattle.std.proofs.Common.{◌≡◌, ℕ, ◌-◌, ◌≤◌, Option, Some, List, get_or, refl, ◌∙◌, ap, arith}
use Rattle.route_base.specs.declared.limits.TheConstants.{MOST_NET_NODES}
use Rattle.route_base.specs.declared.types.Bound.{Bound}
use Rattle.route_base.specs.Net.{at_number}
use Rattle.route_base.proofs.Numbered.{at_number-all, number_within}
use Rattle.cost_functions.specs.Pieces.{value_at}
use Rattle.cost_functions.specs.declared.pieces.Piece.{Piece}
use Rattle.propagation.specs.Found.{cost_at}
use Rattle.propagation.proofs.Lowering.{value_is}
use Rattle.node_arcs.specs.Stars.{Star}
use Rattle.state_dominance.specs.Inside.Product.{Ruler}
use Rattle.ruled_states.specs.Inside.Codes.{HaveSmallNodes}
use Rattle.ruled_states.specs.Inside.Tables.{code_of}
use Rattle.ruled_states.specs.declared.table.Info.{Info}
use Rattle.ruled_states.proofs.Numbers.{number_of_code}
use Rattle.ruled_search.specs.Inside.Sources.{AreNumbered, IsSolved}
use Rattle.ruled_search.specs.Inside.Tasks.{IsGoodInfo, IsShaped, progress_of}
use Rattle.ruled_search.specs.declared.progress.Progress.{Progress as ProgressHeld}
use Rattle.ruled_search.specs.declared.task.Task.{Task as TaskHeld}

pub are_numbered : (nodes : ℕ) (bound : ℕ → ℕ → Option Bound) (at_work : ℕ) (progress : ProgressHeld) → nodes ≤ MOST_NET_NODES
    → IsShaped nodes bound at_work progress → AreNumbered progress
are_numbered nodes bound at_work progress few shape = record {
  functions = shape.functions;
  small = small;
  own = λ n i at. number_of_code progress.table.infos small shape.distinct i.node.0 i.state n (small n i at)
      (record { info = i; at = at; node = refl; state = refl });
}
  where
    small : HaveSmallNodes progress.table.infos
    small n i at = let good = at_number-all (IsGoodInfo nodes bound) progress.table.infos n i shape.infos at in omega (arith, good.node.1, few)

pub solved_numbered : {R : Type 0} {ruling : R → Ruler} {task : TaskHeld R} {incoming : Star} {progress : ProgressHeld}
    → IsSolved R ruling task incoming progress → AreNumbered progress
solved_numbered {R} {ruling} {task} {incoming} {progress} solved = are_numbered _ _ 0 progress solved.asked.good.nodes solved.shape

-- the cost of a state is what is read of its function
pub spot_value : (progress : ProgressHeld) → AreNumbered progress → (number minute : ℕ) (info : Info) (own : List Piece)
    → at_number progress.table.infos number ≡ Some info → own ≡ get_or progress.functions.items (number - 1) own
    → (progress_of progress).cost (code_of info) minute ≡ value_at own minute
spot_value progress numbered number minute info own at is =
    let within = number_within progress.table.infos number info at in
    ap (λ n. cost_at progress.functions.items n minute) (numbered.own number info at)
    ∙ value_is progress.functions.items number own within.0 (omega (arith, within.1, numbered.functions)) is minute
