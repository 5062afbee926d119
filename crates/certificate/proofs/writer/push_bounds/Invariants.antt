use Rattle.std.proofs.Common.{◌≡◌, ◌++◌, flat_map, take}
use Rattle.certificate.specs.Inside.Spelling.{bound_text}
use Rattle.certificate.proofs.writer.push_bounds.Given as goal

abbrev pub invariant-loop-entry : goal.invariant-loop-entry
invariant-loop-entry l = l.out.items ≡ l.initial.out.items ++ flat_map bound_text (take l.entry-index l.bounds)
