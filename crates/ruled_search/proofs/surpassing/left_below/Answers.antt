use Rattle.std.proofs.Common.{◌≡◌, ◌<◌, ◌-◌, List, [], ◌∷◌, length, take, drop, sym, subst, arith}
use Rattle.cost_functions.specs.Pieces.{value_at, ArePieces}
use Rattle.cost_functions.specs.declared.pieces.Piece.{Piece}
use Rattle.route_base.proofs.Lists.{first_and_rest}
use Rattle.ruled_search.specs.Inside.Surpassing.{IsLeftBelow}
use Rattle.ruled_search.proofs.LeftBelow.{AreSorted, at_first, at_last, dropped, none_left, pushed}
use Rattle.ruled_search.proofs.surpassing.left_below.Goals as goal

pub pieces-init : goal.pieces-init
pieces-init c =
    let price = c.args.charge.price in
    let until = c.args.charge.until in
    let costs = c.args.costs.now in
    subst (λ (b : List Piece). AreSorted price until c.args.added c.args.bar costs b c.pieces-left.result.now) (sym c.new-built.ensures)
    (subst (λ (l : List Piece). AreSorted price until c.args.added c.args.bar costs [] l) (sym c.pieces-left.ensures.items)
    (at_first price until c.args.added c.args.bar costs (subst ArePieces c.pieces-left.ensures.items c.pieces-left.ensures.pieces) c.requires.small))

pub pieces-preserved-in_ok-push : goal.pieces-preserved-in_ok-push
pieces-preserved-in_ok-push c =
    let left : List Piece = c.pieces.left.now in
    let rest : List Piece = take (length left - 1) (drop 1 left) in
    let split = first_and_rest left (record { lo = 0; hi = 0; cost = 0; slope = 0 }) (omega (arith, c.in-len1-up.len_at_least)) in
    pushed c.args.charge.price c.args.charge.until c.args.added c.args.bar c.args.costs.now c.pieces.built _ rest
    (subst (λ (l : List Piece). AreSorted c.args.charge.price c.args.charge.until c.args.added c.args.bar c.args.costs.now c.pieces.built l) split c.pieces.invariant)
    c.push.new.self c.in_ok-push.ensures.values c.in_ok-push.ensures.ended

pub pieces-preserved : goal.pieces-preserved
pieces-preserved c =
    let left : List Piece = c.pieces.left.now in
    let rest : List Piece = take (length left - 1) (drop 1 left) in
    let split = first_and_rest left (record { lo = 0; hi = 0; cost = 0; slope = 0 }) (omega (arith, c.in-len1-up.len_at_least)) in
    dropped c.args.charge.price c.args.charge.until c.args.added c.args.bar c.args.costs.now c.pieces.built _ rest
    (subst (λ (l : List Piece). AreSorted c.args.charge.price c.args.charge.until c.args.added c.args.bar c.args.costs.now c.pieces.built l) split c.pieces.invariant)
    (λ t from to. c.is_above.ensures c.if-not-is_above.false t from to)

pub returns-clause-left : goal.returns-clause-left
returns-clause-left c =
    let all = subst (λ (l : List Piece). AreSorted c.args.charge.price c.args.charge.until c.args.added c.args.bar c.args.costs.now c.pieces.built l)
    (none_left c.pieces.left.now (omega (arith, c.in_default.len_below))) c.pieces.invariant in
    subst (λ (l : List Piece). IsLeftBelow c.args.charge.price c.args.charge.until c.args.added c.args.bar (value_at c.args.costs.now) (value_at l))
    (sym c.finish.ensures.same) (at_last c.args.charge.price c.args.charge.until c.args.added c.args.bar c.args.costs.now c.pieces.built all)
