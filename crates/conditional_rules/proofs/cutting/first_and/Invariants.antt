use Rattle.std.proofs.Common.{◌≡◌, ◌+◌, length}
use Rattle.std.specs.Prelude.{option_map}
use Rattle.conditional_rules.specs.Cutting.{first_and}
use Rattle.conditional_rules.proofs.cutting.first_and.Given as goal

abbrev pub invariant-loop-rest : goal.invariant-loop-rest
invariant-loop-rest l = (first_and l.text ≡ option_map (λ i. l.place + i) (first_and l.rest))
    × (l.place + length l.rest ≡ length l.text)

abbrev pub decreases-loop-rest : goal.decreases-loop-rest
decreases-loop-rest l = length l.rest
