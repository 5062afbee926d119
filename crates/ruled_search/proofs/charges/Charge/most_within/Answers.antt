use Rattle.std.proofs.Common.{◌≡◌, ◌<◌, ◌-◌, List, ◌∷◌, length, take, drop, refl, arith}
use Rattle.std.specs.Prelude.{slice_index_or}
use Rattle.cost_functions.specs.declared.pieces.Piece.{Piece}
use Rattle.route_base.proofs.Lists.{first_and_rest}
use Rattle.ruled_search.proofs.Charging.{found_most, is_piece, left_behind, most_behind}
use Rattle.ruled_search.proofs.charges.Charge.most_within.Goals as goal

pub pieces-init : goal.pieces-init
pieces-init c = (
  record { are = c.requires.pieces; values = λ u from. refl },
  omega arith,
  λ small u from upto within. absurd (omega (arith, from, upto)),
)

pub returns-then-hi-next : goal.returns-then-hi-next
returns-then-hi-next c = found_most c.args.self.price c.args.self.until c.args.pieces.now c.args.lo c.args.hi c.pieces.next c.pieces.most c.found.result
    c.if-hi-next.true c.pieces.invariant.2 c.found.ensures

pub most_on-requires-clause-piece : goal.most_on-requires-clause-piece
most_on-requires-clause-piece c =
    let left : List Piece = c.pieces.left.now in
    let rest : List Piece = take (length left - 1) (drop 1 left) in
    let split = first_and_rest left (record { lo = 0; hi = 0; cost = 0; slope = 0 }) (omega (arith, c.in-len1-up.len_at_least)) in
    is_piece c.args.pieces.now left _ rest c.pieces.next split c.pieces.invariant.0

pub pieces-preserved-else-next-piece-2 : goal.pieces-preserved-else-next-piece-2
pieces-preserved-else-next-piece-2 c =
    let left : List Piece = c.pieces.left.now in
    let rest : List Piece = take (length left - 1) (drop 1 left) in
    let split = first_and_rest left (record { lo = 0; hi = 0; cost = 0; slope = 0 }) (omega (arith, c.in-len1-up.len_at_least)) in (
      left_behind c.args.pieces.now left _ rest c.pieces.next split c.pieces.invariant.0 _ (omega (arith, c.if-next-piece.true)) (omega arith),
      omega (arith, c.pieces.invariant.1, c.if-next-piece.true),
      most_behind c.args.pieces.now left _ rest c.pieces.next split c.pieces.invariant.0 c.args.self.price c.args.self.until c.args.lo c.args.hi
          c.pieces.most c.max-most.result c.if-next-piece-2.false c.pieces.invariant.2 (omega (arith, c.max-most.ensures))
          (λ small u from upto within. omega (
            arith,
            c.max-most.ensures,
            c.most_on.ensures (omega (arith, c.max-most.ensures, small)) u from (omega (arith, c.min.ensures, upto, within)),
          )),
    )

pub pieces-preserved : goal.pieces-preserved
pieces-preserved c =
    let left : List Piece = c.pieces.left.now in
    let rest : List Piece = take (length left - 1) (drop 1 left) in
    let split = first_and_rest left (record { lo = 0; hi = 0; cost = 0; slope = 0 }) (omega (arith, c.in-len1-up.len_at_least)) in (
      left_behind c.args.pieces.now left _ rest c.pieces.next split c.pieces.invariant.0 c.pieces.next (omega arith) (omega (arith, c.if-next-piece.false)),
      c.pieces.invariant.1,
      c.pieces.invariant.2,
    )

pub returns-then-hi-next-2 : goal.returns-then-hi-next-2
returns-then-hi-next-2 c = found_most c.args.self.price c.args.self.until c.args.pieces.now c.args.lo c.args.hi c.pieces.next c.pieces.most c.found-then-hi-next-2.result
    c.if-hi-next-2.true c.pieces.invariant.2 c.found-then-hi-next-2.ensures
