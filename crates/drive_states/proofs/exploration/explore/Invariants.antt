use Rattle.std.proofs.Common.{◌+◌, ◌-◌, ◌≤◌, [], length}
use Rattle.route_base.specs.Net.{setting_of}
use Rattle.front_transport.specs.declared.limits.TheConstants.{MOST_STATES}
use Rattle.drive_states.specs.Inside.StateSearch.{IsExploring}
use Rattle.drive_states.proofs.exploration.explore.Given as goal

abbrev pub invariant-states : goal.invariant-states
invariant-states l = record {
  first : 1 ≤ l.n;
  last : l.n ≤ length l.states + 1;
  facts : IsExploring (setting_of l.plan.net.now) l.plan.origin.0 l.plan.rule l.n [] l.states l.ways.items;
  small : length l.states + length l.ways.items ≤ MOST_STATES;
}

abbrev pub decreases-states : goal.decreases-states
decreases-states l = 40000002 - l.n
