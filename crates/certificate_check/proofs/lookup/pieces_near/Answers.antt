use Rattle.std.proofs.Common.{◌≡◌, ◌∙◌, None, ap}
use Rattle.certificate.specs.ByNode.{item_at}
use Rattle.cost_functions.specs.Pieces.{value_in}
use Rattle.certificate_check.proofs.PieceValues.{no_value}
use Rattle.certificate_check.proofs.lookup.pieces_near.Goals as goal

pub returns-in-None-clause-values : goal.returns-in-None-clause-values
returns-in-None-clause-values c = λ t.
    let none : None ≡ item_at c.args.functions.now c.args.node.0 = c.in-None.ensures in
    no_value t ∙ ap (λ o. value_in o t) none
