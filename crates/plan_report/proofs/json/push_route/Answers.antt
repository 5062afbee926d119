use Rattle.std.proofs.Common.{rules}
use Rattle.plan_report.proofs.Items.{route_pushed}
use Rattle.plan_report.proofs.json.push_route.Goals as goal

pub returns : goal.returns
returns c =
    route_pushed c.args.out.now.items c.push_head.new.out.items c.push_legs.new.out.items c.push_text.new.out.items c.args.route.now
    (search rules) (search rules) (search rules)
