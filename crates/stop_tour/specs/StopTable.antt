-- The table of stops, which are served in the order of its rows (source: own).
use Rattle.std.specs.Prelude.{ℕ, nat_lt, Option, Some, None, List, [], ◌∷◌, codes, if◌then◌else◌}
use Rattle.std.specs.List.{filter_map}
use Rattle.std.specs.Option.{option_map, option_and_then}
use Rattle.route_base.specs.Forms.{is_from_to, table_number_of}
use Rattle.route_base.specs.declared.faults.Cause.{Cause}
use Rattle.route_base.specs.declared.faults.Cause.TheVariants.{BadField, Unknown, NotRising}
use Rattle.route_base.specs.declared.limits.TheConstants.{DAY_MINUTES}
use Rattle.calendar_days.specs.Texts.{instant_of}
use Rattle.stop_tour.specs.declared.limits.TheConstants.{MOST_STOPS}
use Rattle.stop_tour.specs.declared.stops.Stop.{Stop}
use Rattle.table_reader.specs.Schema.{Schema}
use Rattle.table_reader.specs.Records.{Record}

-- the minutes of a service: a number from 1 to 1,440
abbrev pub service_of : List ℕ → Option ℕ
service_of field = option_and_then (λ minutes. if is_from_to 1 DAY_MINUTES minutes then Some minutes else None) (table_number_of field)

-- the stop at a node, with a service and a window
abbrev pub stop_from : ℕ → ℕ → ℕ → ℕ → Stop
stop_from node service from to = record { node = record { 0 = node }; service = service; from = from; to = to }

-- a number, a service and two instants
abbrev pub stop_of : Record → Option Stop
stop_of (node ∷ service ∷ from ∷ to ∷ []) =
    option_and_then (λ n. option_and_then (λ minutes. option_and_then (λ lo. option_map (λ hi.
    stop_from n minutes lo hi)
    (instant_of to)) (instant_of from)) (service_of service)) (table_number_of node)
stop_of others = None

-- the node is from 1 to `nodes`, and the end of the window is above its start
abbrev pub cause_of_stop : ℕ → Option Stop → Option Cause
cause_of_stop nodes None = Some BadField
cause_of_stop nodes (Some stop) =
    if is_from_to 1 nodes stop.node.0 then (if nat_lt stop.from stop.to then None else Some NotRising) else Some Unknown

-- a node, the minutes of the service, and the window, in at most `MOST_STOPS` rows; a node may have several
abbrev pub stops_schema : ℕ → Schema
stops_schema nodes = record {
  headers = (codes "node" ∷ codes "service" ∷ codes "from" ∷ codes "to" ∷ []) ∷ [];
  limit = MOST_STOPS;
  cause = λ header before row. cause_of_stop nodes (stop_of row);
}

-- the stops of these rows in their order
abbrev pub stops_in : List Record → List Stop
stops_in rows = filter_map stop_of rows

-- the stops of the rows that were read, for the nodes from 1 to `nodes`
pub record StopRows : Type 0 where
  pub nodes : ℕ
  pub stops : List Stop
