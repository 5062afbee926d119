use Rattle.std.proofs.Common.{◌≡◌, ◌++◌, flat_map, take, codes}
use Rattle.net_generator.specs.Generated.{parking_text}
use Rattle.net_generator.proofs.texts.parking.Given as goal

abbrev pub invariant-loop-place : goal.invariant-loop-place
invariant-loop-place l = l.out.items ≡ codes "node,rating\n" ++ flat_map parking_text (take l.place-index l.parking)
