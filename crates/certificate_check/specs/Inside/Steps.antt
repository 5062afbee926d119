-- The third and the fifth condition, arc by arc and node by node (source: own; no law).
use Rattle.std.specs.Prelude.{◌≡◌, ◌⊎◌, ℕ, Option, Some, List}
use Rattle.route_base.specs.Setting.{Setting, Road}
use Rattle.route_base.specs.Itinerary.{Position, Drives, Waits}
use Rattle.route_base.specs.Front.{RiseAndFall}
use Rattle.route_base.specs.Net.{setting_of}
use Rattle.route_base.specs.Relaxing.{IsDominatedOrLate, IsRelaxed, IsBoundThrough}
use Rattle.route_base.specs.declared.types.Bound.{Bound}
use Rattle.route_base.specs.declared.types.Pair.{Pair}
use Rattle.certificate.specs.ByNode.{item_at}
use Rattle.certificate_check.specs.Conditions.{AreBoundsInRange, value_of}
use Rattle.certificate_check.specs.Inside.Reduction.{AreReducedWhereSmall}
use Rattle.certificate_check.specs.declared.steps.Trial.{Trial}

-- where the head of the arc has bounds, so has its tail, and those are no larger than the way over the arc
abbrev pub IsBoundedArc : Setting → (ℕ → Option Bound) → ℕ → Type 0
IsBoundedArc s bounds a = (road : Road) (h : Bound) → s.road a ≡ Some road → bounds road.head ≡ Some h
    → (b : Bound) × (bounds road.tail ≡ Some b) × IsBoundThrough road h b

-- each value is dominated or late, or each lawful drive over the arc is relaxed
abbrev pub AreDrivesRelaxed : Setting → ℕ → List Pair → (ℕ → Option Bound) → (ℕ → ℕ → Option ℕ) → ℕ → Type 0
AreDrivesRelaxed s until pairs bounds value a = (p q : Position) → value p.node p.minute ≡ Some p.cost → Drives s until a p q
    → IsDominatedOrLate until pairs (bounds p.node) p ⊎ IsRelaxed until pairs bounds value q

-- each value of the node is dominated or late, or the wait of a minute is relaxed
abbrev pub AreWaitsRelaxed : Setting → ℕ → List Pair → (ℕ → Option Bound) → (ℕ → ℕ → Option ℕ) → ℕ → Type 0
AreWaitsRelaxed s until pairs bounds value v = (p q : Position) → p.node ≡ v → value p.node p.minute ≡ Some p.cost → Waits s until p q
    → IsDominatedOrLate until pairs (bounds p.node) p ⊎ IsRelaxed until pairs bounds value q

-- the pairs trade time for cost, the bounds are in their range, and the functions are reduced
pub record IsGoodTrial (trial : Trial) : Type 0 where
  pub pairs : RiseAndFall trial.pairs.now
  pub bounds : AreBoundsInRange trial.bounds.now
  pub reduced : AreReducedWhereSmall trial.functions.now

-- the setting, the bounds and the values of a trial
abbrev pub setting_in : Trial → Setting
setting_in trial = setting_of trial.net.now

abbrev pub bounds_in : Trial → ℕ → Option Bound
bounds_in trial = item_at trial.bounds.now

abbrev pub values_in : Trial → ℕ → ℕ → Option ℕ
values_in trial = value_of trial.functions.now

abbrev pub AreDrivesRelaxedIn : Trial → ℕ → Type 0
AreDrivesRelaxedIn trial a = AreDrivesRelaxed (setting_in trial) trial.until trial.pairs.now (bounds_in trial) (values_in trial) a

abbrev pub AreWaitsRelaxedIn : Trial → ℕ → Type 0
AreWaitsRelaxedIn trial v = AreWaitsRelaxed (setting_in trial) trial.until trial.pairs.now (bounds_in trial) (values_in trial) v
