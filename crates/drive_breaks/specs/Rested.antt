-- Itineraries that keep a break rule, and their Pareto front (source: Regulation (EC) 561/2006, Article 7, one rule of it; the form is
-- own).
use Rattle.std.specs.Prelude.{◌≡◌, ◌⊎◌, ℕ, ◌+◌, ◌≤◌, ⊤, Option, Some, None, List, [], ◌∷◌, ◌++◌, length, replicate, All}
use Rattle.route_base.specs.Setting.{Setting, Road}
use Rattle.route_base.specs.Itinerary.{Step, drive, wait, Walks}
use Rattle.route_base.specs.Legs.{start_of, end_of, steps_of, Achieves, HasNoNeighbouringWaits}
use Rattle.route_base.specs.Front.{IsNoWorse, pairs_of}
use Rattle.route_base.specs.declared.limits.TheConstants.{DAY_MINUTES}
use Rattle.route_base.specs.declared.types.Route.{Route}
use Rattle.route_base.specs.declared.types.Pair.{Pair}
use Rattle.route_base.specs.declared.types.Request.{Request}
use Rattle.front_transport.specs.ParetoFronts.{IsParetoFront, ArrivesBefore}
use Rattle.drive_states.specs.declared.rule.BreakRule.{BreakRule}

-- no number of the rule is above the minutes of a day, and a break has some
pub record IsGoodRule (rule : BreakRule) : Type 0 where
  pub drive : rule.drive ≤ DAY_MINUTES
  pub rest : (1 ≤ rule.rest) × (rule.rest ≤ DAY_MINUTES)

-- the minutes of a road, or none
abbrev pub minutes_of : Option Road → ℕ
minutes_of None = 0
minutes_of (Some road) = road.minutes

-- the minutes of the drives among steps, in either order
abbrev pub driven : (ℕ → Option Road) → List Step → ℕ
driven roads [] = 0
driven roads (drive a ∷ xs) = minutes_of (roads a) + driven roads xs
driven roads (wait ∷ xs) = driven roads xs

-- steps, the last first, begin with these, and then comes a break: as many neighbouring waits as the rule asks for
abbrev pub IsSinceBreak : ℕ → List Step → List Step → Type 0
IsSinceBreak rest back late = (early : List Step) × (back ≡ late ++ (replicate rest wait ++ early))

-- these steps, the last first, come after the last break: behind no other break are fewer
pub record IsSinceLastBreak (rest : ℕ) (back late : List Step) : Type 0 where
  pub since : IsSinceBreak rest back late
  pub last : (other : List Step) → IsSinceBreak rest back other → length late ≤ length other

-- the stretch so far: the minutes of the drives that come after the last break, or of all drives where there is none
abbrev pub IsStretch : (ℕ → Option Road) → ℕ → List Step → ℕ → Type 0
IsStretch roads rest back x = ((late : List Step) × IsSinceLastBreak rest back late × (driven roads late ≡ x))
    ⊎ (((late : List Step) → IsSinceBreak rest back late → ⊥) × (driven roads back ≡ x))

-- a drive of these minutes behind steps, the last first, keeps the rule: with its own minutes its stretch is within the limit
abbrev pub KeepsRule : (ℕ → Option Road) → BreakRule → List Step → ℕ → Type 0
KeepsRule roads rule back minutes = (x : ℕ) → IsStretch roads rule.rest back x → x + minutes ≤ rule.drive

-- behind steps, the last first, each drive of these keeps the rule
abbrev pub IsRestedFrom : (ℕ → Option Road) → BreakRule → List Step → List Step → Type 0
IsRestedFrom roads rule back [] = ⊤
IsRestedFrom roads rule back (drive a ∷ xs) = KeepsRule roads rule back (minutes_of (roads a)) × IsRestedFrom roads rule (drive a ∷ back) xs
IsRestedFrom roads rule back (wait ∷ xs) = IsRestedFrom roads rule (wait ∷ back) xs

-- some lawful itinerary that keeps the rule arrives and costs as the pair says
pub record IsRestedAchieved (s : Setting) (r : Request) (rule : BreakRule) (pair : Pair) : Type 0 where
  pub in_time : r.depart ≤ r.until
  pub steps : List Step
  pub walk : Walks s r.until steps (start_of r) (end_of r pair)
  pub rested : IsRestedFrom s.road rule [] steps

-- the Pareto front of these pairs, by rising arrival
abbrev pub IsRestedFront : Setting → Request → BreakRule → List Pair → Type 0
IsRestedFront s r rule pairs = IsParetoFront IsNoWorse ArrivesBefore (IsRestedAchieved s r rule) pairs

-- the legs are lawful, keep the rule and achieve the pair, and no two neighbouring legs are waits
pub record AchievesRested (s : Setting) (r : Request) (rule : BreakRule) (route : Route) : Type 0 where
  pub achieves : Achieves s r route.legs route.pair
  pub rested : IsRestedFrom s.road rule [] (steps_of route.legs)
  pub apart : HasNoNeighbouringWaits route.legs

-- the pairs are this front, each with legs of its own
pub record AreRightRested (s : Setting) (r : Request) (rule : BreakRule) (routes : List Route) : Type 0 where
  pub front : IsRestedFront s r rule (pairs_of routes)
  pub legs : All (AchievesRested s r rule) routes
