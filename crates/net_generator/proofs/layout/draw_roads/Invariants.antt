use Rattle.std.proofs.Common.{[]}
use Rattle.net_generator.specs.Draws.{Continues, drawn_to}
use Rattle.net_generator.specs.Layout.{roads_at}
use Rattle.net_generator.proofs.layout.draw_roads.Given as goal

abbrev pub invariant-loop-done : goal.invariant-loop-done
invariant-loop-done l = Continues (drawn_to (roads_at l.fn.grid.rows l.fn.grid.columns) l.done) [] l.fn.draws l.out.items l.draws
