use Rattle.std.proofs.Common.{take}
use Rattle.drive_breaks.specs.Inside.StateNet.{AreBuilt}
use Rattle.drive_breaks.proofs.states_as_net.way_arcs.Given as goal

abbrev pub invariant-loop-way : goal.invariant-loop-way
invariant-loop-way l = AreBuilt l.ground.net.now l.ground.states.now l.ground.goal.0 (take l.way-index l.ways) l.built.arcs.items l.built.sources.items
