use Rattle.std.proofs.Common.{◌<◌, ℕ, List, length, get_or}
use Rattle.route_base.specs.Net.{setting_of}
use Rattle.route_base.specs.declared.types.NodeId.{NodeId}
use Rattle.cost_functions.specs.declared.pieces.Piece.{Piece}
use Rattle.certificate_check.specs.Conditions.{IsInRange}
use Rattle.certificate_check.proofs.steps.are_in_range.Given as goal

abbrev pub invariant-loop-entry : goal.invariant-loop-entry
invariant-loop-entry l = (k : ℕ) (d : NodeId × List Piece) → k < l.entry-index → k < length l.functions
    → IsInRange (setting_of l.net) l.request (get_or l.functions k d)
