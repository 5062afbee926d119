use Rattle.std.proofs.Common.{◌≡◌, ◌≤◌, ◌<◌, ℕ, true}
use Rattle.network_tables.specs.Access.{is_let_in}
use Rattle.trip_explain.specs.Inside.{LetsInAmid}
use Rattle.trip_explain.proofs.closed_minutes.first_barring.Given as goal

abbrev pub invariant-loop-t : goal.invariant-loop-t
invariant-loop-t l = record {
  before : (u : ℕ) → l.from ≤ u → u < l.t → is_let_in l.network l.vehicle l.a.0 u ≡ true;
  quiet : LetsInAmid l.network l.vehicle l.a.0 l.quiet;
}
