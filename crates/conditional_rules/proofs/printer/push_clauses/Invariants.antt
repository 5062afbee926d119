use Rattle.std.proofs.Common.{◌≡◌, ◌++◌, length}
use Rattle.conditional_rules.specs.CanonicalText.{conditional_text}
use Rattle.conditional_rules.proofs.printer.push_clauses.Given as goal

abbrev pub invariant-loop-rest : goal.invariant-loop-rest
invariant-loop-rest l = l.out.items ++ conditional_text l.rest ≡ l.fn.out.items ++ conditional_text l.clauses

abbrev pub decreases-loop-rest : goal.decreases-loop-rest
decreases-loop-rest l = length l.rest
