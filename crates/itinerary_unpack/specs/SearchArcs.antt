-- What the searches over one net share (source: own).
use Rattle.std.specs.Prelude.{IsTrue, ◌↔◌}
use Rattle.route_base.specs.Net.{Net, setting_of}
use Rattle.node_arcs.specs.Stars.{AreIncoming, AreOutgoing}
use Rattle.potentials.specs.Proportion.{AreProportional}
use Rattle.itinerary_unpack.specs.declared.shared_arcs.SearchArcs.{SearchArcs}

-- the arcs of the net by node; the flag `proportional` is set exactly where every cost is in proportion to minutes
pub record AreSearchArcs (net : Net) (arcs : SearchArcs) : Type 0 where
  pub incoming : AreIncoming net arcs.incoming
  pub outgoing : AreOutgoing net arcs.outgoing
  pub proportional : IsTrue arcs.proportional ↔ AreProportional (setting_of net).road
