use Rattle.std.proofs.Common.{sym, subst}
use Rattle.certificate.specs.Inside.Reading.{route_in, AreTaken}
use Rattle.certificate.proofs.Blocks.{route_found}
use Rattle.certificate.proofs.Items.{taken_more, taken_some, taken_end}
use Rattle.certificate.proofs.line_reader.LineReader.take_routes.Goals as goal

pub routes-smaller : goal.routes-smaller
routes-smaller c =
    (route_found c.routes.self c.in-Some.route c.take_route.new.self
    (taken_some route_in c.routes.self c.in_ok-route.field-0 c.take_route.new.self c.in-Some.route c.in_ok-route.ensures.route c.in-Some.is)).fewer

pub routes-preserved : goal.routes-preserved
routes-preserved c =
    let some = taken_some route_in c.routes.self c.in_ok-route.field-0 c.take_route.new.self c.in-Some.route c.in_ok-route.ensures.route c.in-Some.is in
    let fewer = (route_found c.routes.self c.in-Some.route c.take_route.new.self some).fewer in
    subst (λ items. AreTaken route_in c.args.self.now items c.take_route.new.self) (sym c.in_ok-push.ensures.items)
    (taken_more route_in c.args.self.now c.routes.routes.items c.routes.self c.in-Some.route c.take_route.new.self c.routes.invariant some fewer)

pub returns : goal.returns
returns c = taken_end route_in c.args.self.now c.routes.routes.items c.routes.self c.take_route.new.self c.in_ok-route.field-0 c.routes.invariant
    c.in_ok-route.ensures.route c.in_default.is (rw c.in_default.is at c.in_ok-route.ensures.kept)
