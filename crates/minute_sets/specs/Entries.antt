-- Minutes at which a stay that avoids runs can begin (source: own).
use Rattle.std.specs.Prelude.{ℕ, ◌+◌, ◌≤◌, List}
use Rattle.route_base.specs.Runs.{IsFree}
use Rattle.route_base.specs.declared.types.Run.{Run}

-- a stay of that many minutes from this one on is within the window and avoids the runs
pub record IsEntry (runs : List Run) (window : Run) (minutes t : ℕ) : Type 0 where
  pub begins : window.lo ≤ t
  pub ends : t + minutes ≤ window.hi
  pub free : IsFree runs t minutes
