use Rattle.std.proofs.Common.{◌≡◌, ◌++◌, flat_map, take, codes}
use Rattle.net_generator.specs.Generated.{closure_text}
use Rattle.net_generator.proofs.texts.closures.Given as goal

abbrev pub invariant-loop-closure : goal.invariant-loop-closure
invariant-loop-closure l = l.out.items ≡ codes "arc,from,to\n" ++ flat_map closure_text (take l.closure-index l.closures)
