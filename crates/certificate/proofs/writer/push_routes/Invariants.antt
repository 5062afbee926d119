use Rattle.std.proofs.Common.{◌≡◌, ◌++◌, flat_map, take}
use Rattle.certificate.specs.Inside.Spelling.{route_text}
use Rattle.certificate.proofs.writer.push_routes.Given as goal

abbrev pub invariant-loop-route : goal.invariant-loop-route
invariant-loop-route l = l.out.items ≡ l.initial.out.items ++ flat_map route_text (take l.route-index l.routes)
