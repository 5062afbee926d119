use Rattle.std.proofs.Common.{◌≡◌, ◌⊎◌, ℕ, ◌<◌, Some}
use Rattle.std.specs.Prelude.{Contains, slice_index_or}
use Rattle.route_base.specs.Front.{RiseAndFall}
use Rattle.route_base.specs.Relaxing.{HasPair}
use Rattle.route_base.specs.declared.types.Pair.{Pair}
use Rattle.cost_functions.specs.Pieces.{value_at}
use Rattle.cost_functions.specs.declared.pieces.Piece.{Piece}
use Rattle.propagation.specs.Inside.Pairs.{AreBorders}
use Rattle.propagation.proofs.pairs.add_pairs.Given as goal

abbrev pub invariant-loop-piece : goal.invariant-loop-piece
invariant-loop-piece l = record {
  trade : RiseAndFall l.pairs.items;
  borders : AreBorders l.pairs.items l.borders.items;
  kept : (t x : ℕ) → HasPair l.fn.pairs.items t x → HasPair l.pairs.items t x;
  each : (p : Pair) → Contains l.pairs.items p → Contains l.fn.pairs.items p ⊎ (value_at l.offer p.arrival ≡ Some p.cost);
  here : (k : ℕ) (d : Piece) → k < l.piece-index → HasPair l.pairs.items (slice_index_or l.piece-items k d).lo (slice_index_or l.piece-items k d).cost;
}
