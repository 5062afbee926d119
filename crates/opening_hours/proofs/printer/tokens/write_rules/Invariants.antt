use Rattle.std.proofs.Common.{◌≡◌, ◌++◌, length}
use Rattle.opening_hours.specs.CanonicalTokens.{hours_tokens}
use Rattle.opening_hours.proofs.printer.tokens.write_rules.Given as goal

abbrev pub invariant-loop-rest : goal.invariant-loop-rest
invariant-loop-rest l = l.out ++ hours_tokens l.rest ≡ l.fn.out ++ hours_tokens l.rules

abbrev pub decreases-loop-rest : goal.decreases-loop-rest
decreases-loop-rest l = length l.rest
