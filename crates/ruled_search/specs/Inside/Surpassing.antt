-- What of a state's part is surpassed: the rest is left (source: own; no law).
use Rattle.std.specs.Prelude.{◌≡◌, ◌⊎◌, ℕ, ◌+◌, ◌≤◌, ◌<◌, Option, Some}
use Rattle.propagation.specs.Inside.Invariants.{point}
use Rattle.state_dominance.specs.Inside.Dominance.{IsSurpassed}
use Rattle.state_dominance.specs.Inside.Product.{Ruler, code}
use Rattle.ruled_states.specs.Inside.Codes.{base}
use Rattle.ruled_states.specs.declared.table.Info.{Info}
use Rattle.ruled_search.specs.Inside.Charges.{charged}
use Rattle.ruled_search.specs.Inside.Tasks.{progress_of, task_of}
use Rattle.ruled_search.specs.declared.task.Task.{Task as TaskHeld}
use Rattle.ruled_search.specs.declared.progress.Progress.{Progress as ProgressHeld}

-- from a first minute on all costs of the state are surpassed that are above the bar, when charged, with the state's reduced sum
abbrev pub IsBar : (R : Type 0) → (R → Ruler) → TaskHeld R → ProgressHeld → Info → ℕ → ℕ → ℕ → ℕ → Type 0
IsBar R ruling task progress info price added first bar = (t x : ℕ) → first ≤ t → t ≤ task.request.until
    → bar < charged price task.request.until t x + added
    → IsSurpassed (task_of R ruling task) (progress_of progress) (point (code base info.node.0 info.state) t x)

-- what is left of costs, and that what isn't is above the bar
pub record IsLeftBelow (price until added bar : ℕ) (costs left : ℕ → Option ℕ) : Type 0 where
  pub kept : (t x : ℕ) → left t ≡ Some x → costs t ≡ Some x
  pub dropped : (t x : ℕ) → costs t ≡ Some x → (left t ≡ Some x) ⊎ ((t ≤ until) × (bar < charged price until t x + added))
