use Rattle.std.proofs.Common.{◌≡◌, ◌++◌, take}
use Rattle.opening_hours.proofs.printer.tokens.push_all.Given as goal

abbrev pub invariant-loop-t : goal.invariant-loop-t
invariant-loop-t l = l.out ≡ l.fn.out ++ take l.t-index l.tokens
