use Rattle.std.proofs.Common.{◌≡◌, ◌++◌, ◌∙◌, List, Bool, true, false, ap, subst, sym}
use Rattle.cost_functions.specs.Pieces.{value_at, AreSmallPieces}
use Rattle.cost_functions.specs.declared.pieces.Piece.{Piece}
use Rattle.certificate_check.proofs.reduction.reduced.Goals as goal

pub returns-then-are_small-clause-values : goal.returns-then-are_small-clause-values
returns-then-are_small-clause-values c = c.reduce.ensures.values

pub returns-clause-values : goal.returns-clause-values
returns-clause-values c t = ap (λ (ps : List Piece). value_at ps t) (c.from_pieces.ensures ∙ c.in_ok-extend_from_slice.ensures.items
    ∙ ap (λ (ps : List Piece). ps ++ c.pieces-2.result.now) c.new-pieces.ensures.items ∙ c.pieces-2.ensures.items)

pub returns-clause-reduced : goal.returns-clause-reduced
returns-clause-reduced c small =
    let same = c.from_pieces.ensures ∙ c.in_ok-extend_from_slice.ensures.items
    ∙ ap (λ (ps : List Piece). ps ++ c.pieces-2.result.now) c.new-pieces.ensures.items ∙ c.pieces-2.ensures.items
    ∙ sym c.pieces.ensures.items in
    let wrong : false ≡ true = c.if-are_small.ensures.1 (subst AreSmallPieces same small) in
    absurd cc
