use Rattle.std.proofs.Common.{rules}
use Rattle.certificate.proofs.Written.{route_pushed}
use Rattle.certificate.proofs.writer.push_route.Goals as goal

pub returns : goal.returns
returns c = route_pushed c.args.out.now.items c.push_line.new.out.items c.push_legs.new.out.items c.args.route.now (search rules) (search rules)
