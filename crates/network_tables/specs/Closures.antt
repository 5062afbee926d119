-- closures.csv: the minutes in which arcs are closed (source: own).
use Rattle.std.specs.Prelude.{ℕ, ◌==◌, nat_lt, Option, Some, None, List, [], ◌∷◌, map, codes, if◌then◌else◌}
use Rattle.std.specs.List.{filter, filter_map, range_with_len}
use Rattle.route_base.specs.Forms.{is_from_to, table_number_of}
use Rattle.route_base.specs.declared.faults.Cause.{Cause}
use Rattle.route_base.specs.declared.faults.Cause.TheVariants.{BadField, Unknown, NotRising}
use Rattle.route_base.specs.declared.types.Run.{Run}
use Rattle.calendar_days.specs.Texts.{instant_of}
use Rattle.network_tables.specs.declared.closures.Closure.{Closure}
use Rattle.route_base.specs.declared.limits.TheConstants.{MOST_CLOSURES}
use Rattle.table_reader.specs.Schema.{Schema}
use Rattle.table_reader.specs.Records.{Record}

-- a closure, where its arc and its two instants are read
abbrev pub closure_from : Option ℕ → Option ℕ → Option ℕ → Option Closure
closure_from (Some a) (Some lo) (Some hi) = Some (record { arc = record { 0 = a }; run = record { lo = lo; hi = hi } })
closure_from (Some a) (Some lo) None = None
closure_from (Some a) None hi = None
closure_from None lo hi = None

-- a number and two instants
abbrev pub closure_of : Record → Option Closure
closure_of (arc ∷ from ∷ to ∷ []) = closure_from (table_number_of arc) (instant_of from) (instant_of to)
closure_of others = None

-- the arc is from 1 to `arcs`, and the end is above the start
abbrev pub cause_of_closure : ℕ → Option Closure → Option Cause
cause_of_closure arcs None = Some BadField
cause_of_closure arcs (Some c) =
    if is_from_to 1 arcs c.arc.0 then (if nat_lt c.run.lo c.run.hi then None else Some NotRising) else Some Unknown

-- an arc and two instants
abbrev pub closures_schema : ℕ → Schema
closures_schema arcs = record {
  headers = (codes "arc" ∷ codes "from" ∷ codes "to" ∷ []) ∷ [];
  limit = MOST_CLOSURES;
  cause = λ header before row. cause_of_closure arcs (closure_of row);
}

-- the closures of these rows in their order
abbrev pub closures_in : List Record → List Closure
closures_in rows = filter_map closure_of rows

-- the closed minutes of an arc, in the order of the rows
abbrev pub closed_runs : List Closure → ℕ → List Run
closed_runs closures a = map (λ c. c.run) (filter (λ c. c.arc.0 == a) closures)

-- the closed minutes of the arcs 1, 2 and so on
unfoldable pub runs_by_arc : ℕ → List Closure → List (List Run)
runs_by_arc arcs closures = map (closed_runs closures) (range_with_len 1 arcs)

-- closures so far, with the number of arcs for which they stand
pub record ClosuresSoFar : Type 0 where
  pub arcs : ℕ
  pub closures : List Closure
