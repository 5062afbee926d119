use Rattle.std.proofs.Common.{◌≡◌, ◌++◌, flat_map, take}
use Rattle.certificate.specs.Inside.Spelling.{leg_text}
use Rattle.certificate.proofs.writer.push_legs.Given as goal

abbrev pub invariant-loop-leg : goal.invariant-loop-leg
invariant-loop-leg l = l.out.items ≡ l.initial.out.items ++ flat_map leg_text (take l.leg-index l.legs)
