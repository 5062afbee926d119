use Rattle.std.proofs.Common.{◌<◌, ℕ, List, length, get_or}
use Rattle.route_base.specs.declared.types.NodeId.{NodeId}
use Rattle.cost_functions.specs.Pieces.{IsReduced}
use Rattle.cost_functions.specs.declared.pieces.Piece.{Piece}
use Rattle.certificate_check.proofs.reduction.are_reduced.Given as goal

abbrev pub invariant-loop-entry : goal.invariant-loop-entry
invariant-loop-entry l = (k : ℕ) (d : NodeId × List Piece) → k < l.entry-index → k < length l.functions → IsReduced (get_or l.functions k d).1
