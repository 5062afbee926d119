use Rattle.std.proofs.Common.{◌≡◌, length, reverse}
use Rattle.opening_hours.specs.Tokens.{without_blanks}
use Rattle.conditional_rules.proofs.cutting.before_blanks.Given as goal

abbrev pub invariant-loop-rest : goal.invariant-loop-rest
invariant-loop-rest l = without_blanks (reverse l.rest) ≡ without_blanks (reverse l.text)

abbrev pub decreases-loop-rest : goal.decreases-loop-rest
decreases-loop-rest l = length l.rest
