use Rattle.std.proofs.Common.{◌≡◌, map, take, filter, nat_lt, length}
use Rattle.vehicle_classes.proofs.rows.copied_words.Given as goal

abbrev pub invariant-loop-piece : goal.invariant-loop-piece
invariant-loop-piece l = map (λ w. w.items) l.words.items ≡ filter (λ word. nat_lt 0 (length word)) (take l.piece-index (map (λ p. p.now) l.pieces))
