-- The first itinerary of a pair: of two itineraries, the steps are compared from the end (source: own).
use Rattle.std.specs.Prelude.{◌≡◌, ◌⊎◌, ◌<◌, ⊤, List, [], ◌∷◌, reverse, All}
use Rattle.route_base.specs.Setting.{Setting}
use Rattle.route_base.specs.Itinerary.{Step, drive, wait, Walks}
use Rattle.route_base.specs.Legs.{steps_of, start_of, end_of}
use Rattle.route_base.specs.declared.types.Leg.{Leg}
use Rattle.route_base.specs.declared.types.Pair.{Pair}
use Rattle.route_base.specs.declared.types.Request.{Request}
use Rattle.route_base.specs.declared.types.Route.{Route}

-- a wait comes before a drive, and of two drives the one over the arc of the smaller number
abbrev pub IsStepBefore : Step → Step → Type 0
IsStepBefore wait wait = ⊥
IsStepBefore wait (drive b) = ⊤
IsStepBefore (drive a) wait = ⊥
IsStepBefore (drive a) (drive b) = a < b

-- of two lists of steps, the last step first, the first list comes before the second: at the first difference its step does
abbrev pub ComesBefore : List Step → List Step → Type 0
ComesBefore [] ys = ⊥
ComesBefore (x ∷ xs) [] = ⊥
ComesBefore (x ∷ xs) (y ∷ ys) = IsStepBefore x y ⊎ ((x ≡ y) × ComesBefore xs ys)

-- of all lawful itineraries of the pair, these legs are the first, compared from the end
abbrev pub IsFirst : Setting → Request → List Leg → Pair → Type 0
IsFirst s r legs pair = (steps : List Step) → Walks s r.until steps (start_of r) (end_of r pair)
    → (steps ≡ steps_of legs) ⊎ ComesBefore (reverse (steps_of legs)) (reverse steps)

-- each route has the first itinerary of its pair
abbrev pub AreFirst : Setting → Request → List Route → Type 0
AreFirst s r routes = All (λ x. IsFirst s r x.legs x.pair) routes
