use Rattle.std.proofs.Common.{◌≡◌, Some, length, sym, subst, arith, rules}
use Rattle.propagation.proofs.Parting.{settle}
use Rattle.propagation.proofs.PieceStarts.{piece_of}
use Rattle.propagation.proofs.turns.drive_all.Goals as goal
use Rattle.cost_functions.specs.Pieces.{value_at}
use Rattle.propagation.specs.Inside.States.{progress_of, task_of}

pub returns-then-is_empty-clause-facts : goal.returns-then-is_empty-clause-facts
returns-then-is_empty-clause-facts c =
    let none : length c.pieces.result.now ≡ 0 = search rules in
    settle (task_of c.args.task) (progress_of c.args.progress.now) c.args.v.0 (value_at c.args.part.now) c.requires.facts
    (λ t x there a q step.
    let piece = piece_of c.pieces.result.now t x (subst (λ w. value_at w t ≡ Some x) (sym c.pieces.ensures.items) there) in
    absurd (omega (arith, piece.1, none)))
