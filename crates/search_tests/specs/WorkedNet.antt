-- The net of several tests (source: own; no law).
use Rattle.std.specs.Prelude.{ℕ, ◌*◌, Some, None, [], ◌∷◌}
use Rattle.route_base.specs.Net.{Net}
use Rattle.route_base.specs.declared.types.Run.{Run}
use Rattle.route_base.specs.declared.types.TimedArc.{TimedArc}

-- a run of two hours
abbrev pub two_hours : Run
two_hours = record { lo = 26563740; hi = 26563860 }

-- an arc at 1000 a minute
abbrev pub worked_arc : ℕ → ℕ → ℕ → ℕ → TimedArc
worked_arc tail head minutes closed = record {
  tail = record { 0 = tail };
  head = record { 0 = head };
  minutes = minutes;
  cost = 1000 * minutes;
  closed = closed;
}

-- the last minute of these
abbrev pub last_minute : Run
last_minute = record { lo = 26563859; hi = 26563860 }

-- three nodes; the arc from 2 to 3 is closed for two hours, and waiting is allowed at 2, but for the runs of a list
abbrev pub worked_with : ℕ → Net
worked_with shut = record {
  nodes = 3;
  arcs = worked_arc 1 2 60 0 ∷ worked_arc 2 3 60 1 ∷ worked_arc 1 3 300 0 ∷ [];
  closed = [] ∷ (two_hours ∷ []) ∷ (last_minute ∷ []) ∷ [];
  parks = None ∷ Some (record { weight = 2000; shut = shut }) ∷ None ∷ [];
}

-- the same, where waiting is allowed at every minute
abbrev pub worked : Net
worked = worked_with 0
