use Rattle.std.proofs.Common.{◌≡◌, ◌++◌, length, map}
use Rattle.std.specs.Prelude.{codes}
use Rattle.conditional_rules.specs.CanonicalText.{part_text, joined}
use Rattle.conditional_rules.proofs.printer.push_parts.Given as goal

abbrev pub invariant-loop-rest : goal.invariant-loop-rest
invariant-loop-rest l =
    l.out.items ++ joined (codes " AND ") (map part_text l.rest) ≡ l.fn.out.items ++ joined (codes " AND ") (map part_text l.parts)

abbrev pub decreases-loop-rest : goal.decreases-loop-rest
decreases-loop-rest l = length l.rest
