use Rattle.std.proofs.Common.{List, sym, ◌∙◌, ap, subst}
use Rattle.std.specs.Prelude.{length, nat_eq}
use Rattle.route_base.specs.Front.{RiseAndFall}
use Rattle.cost_functions.specs.Pieces.{value_at}
use Rattle.cost_functions.specs.declared.pieces.Piece.{Piece}
use Rattle.state_dominance.specs.Inside.Product.{code}
use Rattle.ruled_states.specs.Inside.Codes.{base}
use Rattle.ruled_search.specs.Inside.Tasks.{progress_of, task_of}
use Rattle.ruled_search.proofs.Growing.{nothing_offered}
use Rattle.ruled_search.proofs.TakenOffers.{takes_alike, takes_nothing}
use Rattle.ruled_search.proofs.taking.take.Goals as goal

pub returns-then-is_empty-clause-takes : goal.returns-then-is_empty-clause-takes
returns-then-is_empty-clause-takes g c = takes_nothing (task_of _ g.R.Ruler.ruling c.args.task) (code base c.args.info.node.0 c.args.info.state)
    (value_at c.args.offer.now) (progress_of c.args.progress.now)
    (nothing_offered c.args.offer.now c.is_empty.result
    (c.is_empty.ensures ∙ ap (λ (ps : List Piece). nat_eq (length ps) 0) c.pieces.ensures.items) c.if-is_empty.true)
    c.requires.trade

pub take_at-requires-clause-trade : goal.take_at-requires-clause-trade
take_at-requires-clause-trade g c = subst RiseAndFall (sym c.in_ok-number.ensures.alike.pairs) c.requires.trade

pub returns-clause-takes : goal.returns-clause-takes
returns-clause-takes g c = takes_alike (task_of _ g.R.Ruler.ruling c.args.task) (code base c.args.info.node.0 c.args.info.state)
    (value_at c.args.offer.now) (progress_of c.args.progress.now) _ _ c.in_ok-number.ensures.alike c.in_ok-take_at.ensures.takes
