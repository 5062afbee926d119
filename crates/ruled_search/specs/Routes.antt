-- The routes of a trip under rules: legs that tell a walk over the states of a ruler (source: own).
use Rattle.std.specs.Prelude.{◌≡◌, ◌⊎◌, ℕ, ◌≤◌, ◌<◌, ◌/◌, ◌%◌, ⊤, true, Option, List, [], ◌∷◌, ◌++◌, replicate, reverse, map, All}
use Rattle.front_transport.specs.ParetoFronts.{IsParetoFront, ArrivesBefore}
use Rattle.route_base.specs.Front.{IsNoWorse}
use Rattle.route_base.specs.Setting.{Setting}
use Rattle.route_base.specs.declared.types.Bound.{Bound}
use Rattle.route_base.specs.declared.types.Request.{Request}
use Rattle.route_base.specs.Itinerary.{Position, Step, drive, wait, Walks}
use Rattle.route_base.specs.declared.limits.TheConstants.{HIGHEST_COST}
use Rattle.route_base.specs.declared.types.Pair.{Pair}
use Rattle.propagation.specs.Inside.Invariants.{point}
use Rattle.state_dominance.specs.Inside.Dominance.{Task, IsAchievedIn}
use Rattle.state_dominance.specs.Inside.Product.{Ruler, code, product, road_code, task_over}
use Rattle.ruled_search.specs.declared.routes.RuledLeg.{RuledLeg}
use Rattle.ruled_search.specs.declared.routes.RuledLeg.TheVariants.{Drive, Rest, Wait, Serve}
use Rattle.ruled_search.specs.declared.routes.RuledRoute.{RuledRoute}

-- the steps over states are one road of this kind, over this arc, rest or service
pub record IsOneRoad (base kind a : ℕ) (steps : List Step) : Type 0 where
  pub node : ℕ
  pub state : ℕ
  pub is : steps ≡ drive (road_code base kind a node state) ∷ []

-- a leg tells these steps over states
abbrev pub TellsLeg : ℕ → RuledLeg → List Step → Type 0
TellsLeg base (Drive a) steps = IsOneRoad base 0 a.0 steps
TellsLeg base (Rest place) steps = IsOneRoad base 1 place steps
TellsLeg base (Serve place) steps = IsOneRoad base 2 place steps
TellsLeg base (Wait minutes) steps = steps ≡ replicate minutes wait

-- the legs tell these steps, one leg after the other
abbrev pub TellsSteps : ℕ → List RuledLeg → List Step → Type 0
TellsSteps base [] steps = steps ≡ []
TellsSteps base (leg ∷ legs) steps = (first : List Step) × (rest : List Step) × (steps ≡ first ++ rest) × TellsLeg base leg first × TellsSteps base legs rest

-- the legs tell lawful steps from the start to the goal, with the pair
pub record AchievesRuled (k : Task) (base : ℕ) (route : RuledRoute) : Type 0 where
  pub node : ℕ
  pub goal : k.goal node ≡ true
  pub steps : List Step
  pub walk : Walks k.setting k.until steps k.start (point node route.pair.arrival route.pair.cost)
  pub tells : TellsSteps base route.legs.items steps

-- of two kinds of roads the first comes before the second: a rest before a drive and a service, and a drive before a service
abbrev pub IsKindBefore : ℕ → ℕ → Type 0
IsKindBefore m n = ((m ≡ 1) × ((n ≡ 0) ⊎ (n ≡ 2))) ⊎ ((m ≡ 0) × (n ≡ 2))

-- of two steps over states the first comes before the second: a wait before each road; and of two roads that of the earlier kind, or of the
-- same kind over the arc, the rest or the service of the smaller number
abbrev pub IsRuledStepBefore : ℕ → Step → Step → Type 0
IsRuledStepBefore base wait wait = ⊥
IsRuledStepBefore base wait (drive y) = ⊤
IsRuledStepBefore base (drive x) wait = ⊥
IsRuledStepBefore base (drive x) (drive y) = IsKindBefore (x % 3) (y % 3) ⊎ ((x % 3 ≡ y % 3) × (x / 3 % base < y / 3 % base))

-- both steps over states are waits, or roads of one kind over the same arc, rest or service, maybe in two states
abbrev pub IsAlikeStep : ℕ → Step → Step → Type 0
IsAlikeStep base wait wait = ⊤
IsAlikeStep base wait (drive y) = ⊥
IsAlikeStep base (drive x) wait = ⊥
IsAlikeStep base (drive x) (drive y) = (x % 3 ≡ y % 3) × (x / 3 % base ≡ y / 3 % base)

-- the steps of two walks over states are alike, one after the other
abbrev pub AreAlikeSteps : ℕ → List Step → List Step → Type 0
AreAlikeSteps base [] [] = ⊤
AreAlikeSteps base [] (y ∷ ys) = ⊥
AreAlikeSteps base (x ∷ xs) [] = ⊥
AreAlikeSteps base (x ∷ xs) (y ∷ ys) = IsAlikeStep base x y × AreAlikeSteps base xs ys

-- the state in which a step is made, by the one behind it
abbrev pub state_before : ℕ → Step → ℕ → ℕ
state_before base wait j = j
state_before base (drive x) j = x / 3 / base / base

-- of two walks over states to the states j and k, the last step first, the first walk comes before the second: its last state is smaller; or it
-- is the same, and its last step comes before, or is alike and what leads there comes before
abbrev pub ComesRuledBefore : ℕ → ℕ → List Step → ℕ → List Step → Type 0
ComesRuledBefore base j [] k ys = j < k
ComesRuledBefore base j (x ∷ xs) k [] = j < k
ComesRuledBefore base j (x ∷ xs) k (y ∷ ys) = (j < k) ⊎ ((j ≡ k) × (IsRuledStepBefore base x y
    ⊎ (IsAlikeStep base x y × ComesRuledBefore base (state_before base x j) xs (state_before base y k) ys)))

-- the legs tell the first of all walks over states with the pair, but for those whose steps are alike
pub record IsFirstRuled (k : Task) (base : ℕ) (route : RuledRoute) : Type 0 where
  pub achieves : AchievesRuled k base route
  pub first : (g : ℕ) (steps : List Step) → k.goal g ≡ true → Walks k.setting k.until steps k.start (point g route.pair.arrival route.pair.cost)
      → AreAlikeSteps base achieves.steps steps
      ⊎ ComesRuledBefore base (achieves.node / base) (reverse achieves.steps) (g / base) (reverse steps)

-- the pairs, each with legs that achieve it, by the first of its walks
pub record AreRoutesOf (k : Task) (base : ℕ) (pairs : List Pair) (routes : List RuledRoute) : Type 0 where
  pub same : map (λ x. x.pair) routes ≡ pairs
  pub legs : All (IsFirstRuled k base) routes

-- every walk over the states of the ruler costs at most the highest cost
abbrev pub RuledCostsFit : Setting → Ruler → ℕ → Request → Type 0
RuledCostsFit s r base request = (steps : List Step) (p : Position)
    → Walks (product s r base) request.until steps (record { node = code base request.origin.0 r.first; minute = request.depart; cost = 0 }) p
    → p.cost ≤ HIGHEST_COST

-- over the states of the ruler the pairs are the front, whatever the bounds say, and each has legs that achieve it, by the first of its walks
pub record IsPlanned (s : Setting) (r : Ruler) (base : ℕ) (request : Request) (routes : List RuledRoute) : Type 0 where
  pub bound : ℕ → ℕ → Option Bound
  pub front : IsParetoFront IsNoWorse ArrivesBefore
      (IsAchievedIn (task_over s r base request.origin.0 request.goal.0 request.depart request.until bound)) (map (λ x. x.pair) routes)
  pub legs : All (AchievesRuled (task_over s r base request.origin.0 request.goal.0 request.depart request.until bound) base) routes
  pub first : All (IsFirstRuled (task_over s r base request.origin.0 request.goal.0 request.depart request.until bound) base) routes
