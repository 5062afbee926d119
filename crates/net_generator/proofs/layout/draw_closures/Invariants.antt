use Rattle.std.proofs.Common.{[]}
use Rattle.net_generator.specs.Draws.{Continues, drawn_to}
use Rattle.net_generator.specs.Layout.{closures_at}
use Rattle.net_generator.proofs.layout.draw_closures.Given as goal

abbrev pub invariant-loop-done : goal.invariant-loop-done
invariant-loop-done l = Continues (drawn_to closures_at l.done) [] l.fn.draws l.out.items l.draws
