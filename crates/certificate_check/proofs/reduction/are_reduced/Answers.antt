use Rattle.std.proofs.Common.{List, All, sym, subst, arith}
use Rattle.route_base.specs.declared.types.NodeId.{NodeId}
use Rattle.cost_functions.specs.Pieces.{IsReduced}
use Rattle.cost_functions.specs.declared.pieces.Piece.{Piece}
use Rattle.certificate_check.proofs.CoveredGoal.{refused}
use Rattle.certificate_check.proofs.reduction.are_reduced.Goals as goal

pub returns-then-not-is_reduced : goal.returns-then-not-is_reduced
returns-then-not-is_reduced c =
    let slice = c.as_slice-entry-items in
    let each : List (NodeId × List Piece) → Type 0 = λ es. All (λ (w : NodeId × List Piece). IsReduced w.1) es in (
      (λ h. absurd (refused h)),
      (λ all. c.if-not-is_reduced.ensures.1 (subst (λ (w : NodeId × List Piece). IsReduced w.1) (sym c.entry-item.is)
          (subst each (sym slice.ensures.entries) all c.loop-entry.entry-index c.entry-item.result (omega (arith, c.loop-entry-test.true))))),
    )
