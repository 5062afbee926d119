use Rattle.std.proofs.Common.{arith}
use Rattle.route_base.specs.Legs.{start_of, end_of}
use Rattle.route_base.specs.Net.{setting_of}
use Rattle.plan_report.proofs.FewLegs.{few_legs}
use Rattle.plan_report.proofs.Going.{arrives}
use Rattle.plan_report.proofs.routes.push_route.Goals as goal

pub push_head-requires : goal.push_head-requires
push_head-requires g c =
    arrives (setting_of c.args.net.now) c.args.request c.args.route.now.legs c.args.route.now.pair c.requires.lawful
    c.requires.timed.0 c.requires.timed.1

pub push_end-requires-clause-arrival : goal.push_end-requires-clause-arrival
push_end-requires-clause-arrival g c =
    arrives (setting_of c.args.net.now) c.args.request c.args.route.now.legs c.args.route.now.pair c.requires.lawful
    c.requires.timed.0 c.requires.timed.1

pub push_end-requires-clause-few : goal.push_end-requires-clause-few
push_end-requires-clause-few g c =
    let few = few_legs c.args.net.now c.args.request.until c.args.route.now.legs (start_of c.args.request)
    (end_of c.args.request c.args.route.now.pair) c.net_is_good.ensures c.requires.lawful.no_empty_wait c.requires.lawful.walk in
    omega (arith, few, (push_end-requires-clause-arrival g c).1)
