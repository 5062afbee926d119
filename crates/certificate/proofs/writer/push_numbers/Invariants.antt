use Rattle.std.proofs.Common.{◌≡◌, ◌++◌, flat_map, take}
use Rattle.certificate.specs.Inside.Spelling.{spaced}
use Rattle.certificate.proofs.writer.push_numbers.Given as goal

abbrev pub invariant-loop-number : goal.invariant-loop-number
invariant-loop-number l = l.out.items ≡ l.initial.out.items ++ flat_map spaced (take l.number-index l.numbers)
