-- The first itinerary of a pair that keeps a break rule: compared from the end, by the minutes driven since the last break, and by steps (source: own).
use Rattle.std.specs.Prelude.{◌≡◌, ◌⊎◌, ℕ, ◌<◌, Option, List, [], ◌∷◌, reverse}
use Rattle.route_base.specs.FirstItinerary.{IsStepBefore}
use Rattle.route_base.specs.Itinerary.{Step, Walks}
use Rattle.route_base.specs.Legs.{start_of, end_of, steps_of}
use Rattle.route_base.specs.Setting.{Road, Setting}
use Rattle.route_base.specs.declared.types.Request.{Request}
use Rattle.route_base.specs.declared.types.Route.{Route}
use Rattle.drive_breaks.specs.Rested.{IsRestedFrom, IsStretch}
use Rattle.drive_states.specs.declared.rule.BreakRule.{BreakRule}

-- behind the first steps, the last first, fewer minutes were driven since the last break than behind the others
abbrev pub IsLessDriven : (ℕ → Option Road) → ℕ → List Step → List Step → Type 0
IsLessDriven roads rest xs ys = (j : ℕ) × (k : ℕ) × IsStretch roads rest xs j × IsStretch roads rest ys k × (j < k)

-- as many
abbrev pub IsAsDriven : (ℕ → Option Road) → ℕ → List Step → List Step → Type 0
IsAsDriven roads rest xs ys = (j : ℕ) × IsStretch roads rest xs j × IsStretch roads rest ys j

-- of two itineraries, the last step first, the first comes before the second: fewer minutes were driven since its last break; or as many,
-- and its last step comes first, or is the same and what leads there comes before
abbrev pub ComesRestedBefore : (ℕ → Option Road) → ℕ → List Step → List Step → Type 0
ComesRestedBefore roads rest [] ys = ⊥
ComesRestedBefore roads rest (x ∷ xs) [] = ⊥
ComesRestedBefore roads rest (x ∷ xs) (y ∷ ys) = IsLessDriven roads rest (x ∷ xs) (y ∷ ys)
    ⊎ (IsAsDriven roads rest (x ∷ xs) (y ∷ ys) × (IsStepBefore x y ⊎ ((x ≡ y) × ComesRestedBefore roads rest xs ys)))

-- of all lawful itineraries of the pair that keep the rule, these legs are the first
abbrev pub IsFirstRested : Setting → Request → BreakRule → Route → Type 0
IsFirstRested s r rule route = (steps : List Step) → Walks s r.until steps (start_of r) (end_of r route.pair) → IsRestedFrom s.road rule [] steps
    → (steps ≡ steps_of route.legs) ⊎ ComesRestedBefore s.road rule.rest (reverse (steps_of route.legs)) (reverse steps)
