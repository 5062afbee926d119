-- What holds and what is given in the circumstances of a vehicle, when clocks in the zone are read at an instant (source: own).
use Rattle.std.specs.Prelude.{ℕ, Bool, Option, Some, None, List, if◌then◌else◌}
use Rattle.zone_rules.specs.Zones.{wall_at}
use Rattle.conditional_rules.specs.Decisions.{part_holds, clause_holds}
use Rattle.conditional_rules.specs.declared.access.Access.{Access}
use Rattle.conditional_rules.specs.declared.conditional.Clause.{Clause}
use Rattle.conditional_rules.specs.declared.conditional.Part.{Part}
use Rattle.network_tables.specs.Access.{decision_at}
use Rattle.ban_expansion.specs.declared.circumstances.Circumstances.{Circumstances}

-- whether a part, and a clause, hold
abbrev pub part_holds_at : Circumstances → Part → ℕ → Bool
part_holds_at here part t =
    part_holds here.vehicle.now here.holidays.now (wall_at here.zone.now t).day (wall_at here.zone.now t).minute part

abbrev pub clause_holds_at : Circumstances → Clause → ℕ → Bool
clause_holds_at here clause t =
    clause_holds here.vehicle.now here.holidays.now (wall_at here.zone.now t).day (wall_at here.zone.now t).minute clause

-- the access that a clause gives, where it holds
abbrev pub clause_gives : Circumstances → ℕ → Clause → Option Access
clause_gives here t clause = if clause_holds_at here clause t then Some clause.access else None

-- the access that the last clause gives, of those that hold
abbrev pub decided_at : Circumstances → ℕ → List Clause → Option Access
decided_at here t clauses = decision_at here.vehicle.now here.zone.now here.holidays.now t clauses
