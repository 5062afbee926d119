-- The first of some runs that has a minute.
use Rattle.std.proofs.Common.{◌≡◌, ℕ, false, Option, Some, None, List, refl, sym}
use Rattle.std.specs.Prelude.{IfSome, is_some}
use Rattle.route_base.specs.Runs.{any_has, has_minute}
use Rattle.route_base.specs.declared.types.Run.{Run}
use Rattle.network_tables.proofs.ArcPlaces.{any_found}
use Rattle.road_access.specs.Closures.{IsFirstRun}

-- it is there exactly if one has it
pub found_exactly : (runs : List Run) (t : ℕ) (o : Option ℕ) → IfSome o (IsFirstRun runs t) → (o ≡ None → any_has runs t ≡ false)
    → is_some o ≡ any_has runs t
found_exactly runs t None some none = sym (none refl)
found_exactly runs t (Some k) some none = sym (any_found (has_minute t) runs k some.run some.there some.here)
