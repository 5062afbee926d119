use Rattle.std.proofs.Common.{◌≡◌, ◌++◌, ◌∷◌, [], List, get_or, take, sym, subst, rules}
use Rattle.std.proofs.lemmas.List.{take_more}
use Rattle.route_base.specs.declared.types.Route.{Route}
use Rattle.drive_breaks.specs.Inside.Unpacking.{AreUnpacked, IsUnpackedRoute}
use Rattle.drive_breaks.proofs.Unpacked.{unpacked_push}
use Rattle.drive_breaks.proofs.sources.unpacked_routes.Goals as goal

pub loop-route-preserved : goal.loop-route-preserved
loop-route-preserved c =
    let grown : c.push.new.self.items ≡ c.loop-route.out.items ++ c.in_ok-own.own ∷ [] = search rules in
    subst (λ (w : List Route). AreUnpacked c.args.sources.now w c.push.new.self.items)
    (sym (take_more c.args.routes.now c.loop-route.route-index c.route-item.result c.loop-route-test.true))
    (subst (AreUnpacked c.args.sources.now (take c.loop-route.route-index c.args.routes.now
    ++ get_or c.args.routes.now c.loop-route.route-index c.route-item.result ∷ [])) (sym grown)
    (unpacked_push c.args.sources.now (take c.loop-route.route-index c.args.routes.now) c.loop-route.out.items
    (get_or c.args.routes.now c.loop-route.route-index c.route-item.result) c.in_ok-own.own c.loop-route.invariant
    (subst (λ (w : Route). IsUnpackedRoute c.args.sources.now w c.in_ok-own.own) c.route-item.is c.in_ok-own.ensures)))
