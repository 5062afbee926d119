use Rattle.std.proofs.Common.{◌≡◌, ◌++◌, length}
use Rattle.opening_hours.specs.declared.tokens.Token.TheVariants.{Comma}
use Rattle.opening_hours.specs.CanonicalTokens.{listed}
use Rattle.opening_hours.proofs.printer.tokens.write_list.Given as goal

abbrev pub invariant-loop-rest : goal.invariant-loop-rest
invariant-loop-rest g l = l.out ++ listed Comma g.T.Written.written l.rest ≡ l.fn.out ++ listed Comma g.T.Written.written l.items

abbrev pub decreases-loop-rest : goal.decreases-loop-rest
decreases-loop-rest g l = length l.rest
