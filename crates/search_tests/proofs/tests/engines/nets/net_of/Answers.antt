use Rattle.std.proofs.Common.{◌≡◌, ℕ, length, sym, subst, arith}
use Rattle.std.specs.Prelude.{All}
use Rattle.search_tests.specs.SmallNets.{IsSmallArc, IsLight}
use Rattle.search_tests.proofs.CheapNets.{well_formed}
use Rattle.search_tests.proofs.tests.engines.nets.net_of.Goals as goal

pub new-requires : goal.new-requires
new-requires c =
    let arcs = c.in_ok-arcs.arcs.items in
    let closed = c.in_ok-closed.closed.items in
    let parks = c.in_ok-parks.parks.items in
    let count : c.min-lists.result ≡ length closed = sym c.in_ok-closed.ensures.all in
    well_formed c.min-nodes.result arcs closed parks (omega (arith, c.min-nodes.ensures)) c.in_ok-arcs.ensures.few
    (omega (arith, count, c.min-lists.ensures)) c.in_ok-parks.ensures.all
    (subst (λ (n : ℕ). All (IsSmallArc c.min-nodes.result n) arcs) count c.in_ok-arcs.ensures.small)
    c.in_ok-closed.ensures.runs (subst (λ (n : ℕ). All (IsLight n) parks) count c.in_ok-parks.ensures.light)
