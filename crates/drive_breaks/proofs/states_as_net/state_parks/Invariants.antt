use Rattle.std.proofs.Common.{◌≡◌, map, take}
use Rattle.route_base.specs.Net.{park_at}
use Rattle.drive_breaks.proofs.states_as_net.state_parks.Given as goal

abbrev pub invariant-loop-state : goal.invariant-loop-state
invariant-loop-state l = l.out.items ≡ map (λ st. park_at l.net st.node.0) (take l.state-index l.states)
