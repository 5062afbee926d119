-- The break rule as the search keeps it: since the start, or since some break (source: own; no law).
use Rattle.std.specs.Prelude.{◌⊎◌, ℕ, ◌+◌, ◌≤◌, ⊤, Option, List, [], ◌∷◌}
use Rattle.route_base.specs.Setting.{Road}
use Rattle.route_base.specs.Itinerary.{Step, drive, wait}
use Rattle.drive_breaks.specs.Rested.{driven, minutes_of, IsSinceBreak}
use Rattle.drive_states.specs.declared.rule.BreakRule.{BreakRule}

-- a drive of these minutes behind steps, the last first, is within the rule since the start, or since some break
abbrev pub IsWithinRule : (ℕ → Option Road) → BreakRule → List Step → ℕ → Type 0
IsWithinRule roads rule back minutes = (driven roads back + minutes ≤ rule.drive)
    ⊎ ((late : List Step) × IsSinceBreak rule.rest back late × (driven roads late + minutes ≤ rule.drive))

-- behind steps, the last first, each drive of these is within the rule
abbrev pub IsWithinRuleFrom : (ℕ → Option Road) → BreakRule → List Step → List Step → Type 0
IsWithinRuleFrom roads rule back [] = ⊤
IsWithinRuleFrom roads rule back (drive a ∷ xs) = IsWithinRule roads rule back (minutes_of (roads a)) × IsWithinRuleFrom roads rule (drive a ∷ back) xs
IsWithinRuleFrom roads rule back (wait ∷ xs) = IsWithinRuleFrom roads rule (wait ∷ back) xs
