-- The first of an arc's closures that has a minute (source: own).
use Rattle.std.specs.Prelude.{◌≡◌, ℕ, true, false, Some, List, take, slice_get}
use Rattle.route_base.specs.Runs.{any_has, has_minute}
use Rattle.route_base.specs.declared.types.Run.{Run}

-- the run at this place is the first that has the minute
pub record IsFirstRun (runs : List Run) (t k : ℕ) : Type 0 where
  pub run : Run
  pub there : slice_get runs k ≡ Some run
  pub here : has_minute t run ≡ true
  pub before : any_has (take k runs) t ≡ false
