-- What only the code and its proofs need: minutes of a day throughout which hours, values and the places of keys say the same (source: own).
use Rattle.std.specs.Prelude.{◌≡◌, ℕ, ◌+◌, ◌*◌, ◌<◌, ◌≤◌, Some, List, slice_get}
use Rattle.std.specs.List.{list_all, list_any}
use Rattle.opening_hours.specs.Coverage.{holds, is_covered, spans_of, spans_of_times}
use Rattle.opening_hours.specs.Holidays.{HolidayLists}
use Rattle.opening_hours.specs.Matching.{governing}
use Rattle.opening_hours.specs.declared.matching.DayFacts.{DayFacts}
use Rattle.opening_hours.specs.declared.types.HoursRule.{HoursRule}
use Rattle.opening_hours.specs.declared.types.TimeSpan.{TimeSpan}
use Rattle.vehicle_classes.specs.VehicleModel.{VehicleModel}
use Rattle.conditional_rules.specs.Decisions.{deciding_place, last_given, part_holds}
use Rattle.conditional_rules.specs.declared.conditional.Clause.{Clause}
use Rattle.conditional_rules.specs.declared.conditional.Part.{Part}
use Rattle.network_tables.specs.NetworkModel.{Area, NetworkModel}
use Rattle.network_tables.specs.declared.rules.place.RulePlace.{RulePlace}
use Rattle.road_access.specs.Rulings.{ruling_at}
use Rattle.road_access.specs.Steadiness.{IsSoonAfter}

-- one of the spans holds each of the `count` minutes from this one on, or none holds any
abbrev pub AreSteady : ℕ → ℕ → List TimeSpan → Type 0
AreSteady at count spans = (k : ℕ) → k < count → list_any (holds (at + k)) spans ≡ list_any (holds at) spans

-- the same of the spans of the governing rule, on whatever day
abbrev pub GovernSteadily : ℕ → ℕ → List HoursRule → Type 0
GovernSteadily at count rules = (facts : DayFacts) → AreSteady at count (spans_of (governing facts rules))

-- on each day the hours cover all of the `count` minutes from this one on, or none
abbrev pub CoverSteadily : List HoursRule → ℕ → ℕ → Type 0
CoverSteadily rules minute count =
    (holidays : HolidayLists) (day k : ℕ) → k < count → is_covered rules holidays day (minute + k) ≡ is_covered rules holidays day minute

-- a part holds at all of the `count` minutes from this one on, or at none
abbrev pub HoldsSteadily : Part → ℕ → ℕ → Type 0
HoldsSteadily part minute count =
    (vehicle : VehicleModel) (holidays : HolidayLists) (day k : ℕ) → k < count
    → part_holds vehicle holidays day (minute + k) part ≡ part_holds vehicle holidays day minute part

-- so do all parts together
abbrev pub HoldSteadily : List Part → ℕ → ℕ → Type 0
HoldSteadily parts minute count =
    (vehicle : VehicleModel) (holidays : HolidayLists) (day k : ℕ) → k < count
    → list_all (part_holds vehicle holidays day (minute + k)) parts ≡ list_all (part_holds vehicle holidays day minute) parts

-- the same clause decides at all of these minutes, or none does
abbrev pub DecidesSteadily : List Clause → ℕ → ℕ → Type 0
DecidesSteadily clauses minute count =
    (vehicle : VehicleModel) (holidays : HolidayLists) (day k : ℕ) → k < count
    → deciding_place vehicle holidays day (minute + k) clauses ≡ deciding_place vehicle holidays day minute clauses

-- a count from one to the most; where the spans that are left are steady so many minutes, all are
pub record SpansLeft (at most : ℕ) (all left : List TimeSpan) (count : ℕ) : Type 0 where
  pub some : 1 ≤ count
  pub within : count ≤ most
  pub all_are : (n : ℕ) → n ≤ count → AreSteady at n left → AreSteady at n all

-- the same of parts
pub record PartsLeft (minute most : ℕ) (all left : List Part) (count : ℕ) : Type 0 where
  pub some : 1 ≤ count
  pub within : count ≤ most
  pub all_do : (n : ℕ) → n ≤ count → HoldSteadily left minute n → HoldSteadily all minute n

-- the same of clauses
pub record ClausesLeft (minute most : ℕ) (all left : List Clause) (count : ℕ) : Type 0 where
  pub some : 1 ≤ count
  pub within : count ≤ most
  pub all_do : (n : ℕ) → n ≤ count → DecidesSteadily left minute n → DecidesSteadily all minute n

-- a count from one to the most, for which the spans of the rules before the i-th are steady
pub record RulesSeen (at most : ℕ) (rules : List HoursRule) (i count : ℕ) : Type 0 where
  pub some : 1 ≤ count
  pub within : count ≤ most
  pub seen : (j : ℕ) → j < i → (rule : HoursRule) → slice_get rules j ≡ Some rule → AreSteady at count (spans_of_times rule.times)

-- the same of the governing rules of the days before the k-th back
pub record DaysSeen (minute most : ℕ) (rules : List HoursRule) (k count : ℕ) : Type 0 where
  pub some : 1 ≤ count
  pub within : count ≤ most
  pub seen : (j : ℕ) → j < k → GovernSteadily (minute + 1440 * j) count rules

-- at instants soon after t the last of the places gives the same ruling as at t
abbrev pub PlacesSteadily : NetworkModel → Area → VehicleModel → ℕ → List RulePlace → ℕ → Type 0
PlacesSteadily network area vehicle t places count =
    (u : ℕ) → IsSoonAfter area.zone t count u
    → last_given (ruling_at network area vehicle u) places ≡ last_given (ruling_at network area vehicle t) places
