use Rattle.std.proofs.Common.{◌≡◌, ◌+◌, ◌≤◌, Some, length, take}
use Rattle.route_base.specs.Net.{at_number, setting_of}
use Rattle.front_transport.specs.declared.limits.TheConstants.{MOST_STATES}
use Rattle.drive_states.specs.Inside.StateSearch.{IsExploring, drives_over}
use Rattle.drive_states.proofs.exploration.drive_on.Given as goal

abbrev pub invariant-loop-a : goal.invariant-loop-a
invariant-loop-a l = record {
  at : at_number l.states l.n ≡ Some l.from;
  facts : IsExploring (setting_of l.plan.net.now) l.plan.origin.0 l.plan.rule l.n (drives_over (take l.a-index l.a-items)) l.states l.ways.items;
  small : length l.states + length l.ways.items ≤ MOST_STATES;
}
