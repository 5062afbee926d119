use Rattle.std.proofs.Common.{◌≡◌, length}
use Rattle.std.specs.Prelude.{option_map}
use Rattle.std.specs.Option.{option_or}
use Rattle.opening_hours.specs.Matching.{governing}
use Rattle.opening_hours.proofs.matching.last_match.Given as goal

abbrev pub invariant-loop-rest : goal.invariant-loop-rest
invariant-loop-rest l = option_or (governing l.facts l.rest) (option_map (λ r. r.now) l.found) ≡ governing l.facts l.rules

abbrev pub decreases-loop-rest : goal.decreases-loop-rest
decreases-loop-rest l = length l.rest
