use Rattle.std.proofs.Common.{◌≡◌, ◌⊎◌, inl, inr, ⊎_elim, ◌-◌, ◌+◌, ◌≤◌, ◌<◌, Some, List, length, take, drop, sym, ◌∙◌, ap, subst, arith}
use Rattle.cost_functions.specs.Pieces.{value_at, ArePieces}
use Rattle.cost_functions.specs.declared.pieces.Piece.{Piece}
use Rattle.route_base.proofs.Lists.{first_and_rest}
use Rattle.state_dominance.specs.Inside.Product.{code}
use Rattle.ruled_states.specs.Inside.Codes.{base}
use Rattle.ruled_states.specs.Inside.Reduced.{reduced_in, sums_of}
use Rattle.ruled_search.specs.Inside.Charges.{charged}
use Rattle.ruled_search.specs.Inside.Tasks.{task_of, progress_of}
use Rattle.ruled_search.proofs.LeftBelow.{since_first}
use Rattle.ruled_search.proofs.surpassing.unsurpassed.Goals as goal

pub returns-clause-facts : goal.returns-clause-facts
returns-clause-facts g c =
    let task = c.args.task in
    let info = c.args.info in
    let reduced = c.in-Some.reduced in
    let left = c.in_ok-left.left in
    let pieces : List Piece = c.pieces.result.now in
    let rest : List Piece = take (length pieces - 1) (drop 1 pieces) in
    let split = first_and_rest pieces (record { lo = 0; hi = 0; cost = 0; slope = 0 }) (omega (arith, c.in-len1-up.len_at_least)) in
    let added = c.of-added.ensures ∙ ap (λ n. reduced_in (sums_of reduced.sums.items) info.node.0 n) c.stage.ensures in
    c.parts_are_kept.ensures.surpasses (task_of _ g.R.Ruler.ruling task) (progress_of c.args.progress.now) (code base info.node.0 info.state)
    (value_at c.args.part) (value_at left) c.requires.facts
    (λ t x is. ⊎_elim
    (λ (stays : value_at left t ≡ Some x). inl stays)
    (λ (above : (t ≤ task.request.until) × (c.in-Some-bar_of.bar < charged reduced.price task.request.until t x + c.of-added.result)).
    let since = since_first _ rest t x (subst ArePieces split c.pieces.ensures.pieces)
    (sym (ap (λ ps. value_at ps t) split) ∙ (ap (λ ps. value_at ps t) c.pieces.ensures.items ∙ is)) in
    inr (c.in-Some-bar_of.ensures t x since above.0 (omega (arith, above.1, added))))
    (c.in_ok-left.ensures.left.dropped t x is))
