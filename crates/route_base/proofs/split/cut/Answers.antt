use Rattle.std.proofs.Common.{◌==◌, rules}
use Rattle.route_base.proofs.Cuts.{cut_none, cut_some}
use Rattle.route_base.proofs.split.cut.Goals as goal

pub returns-in_err-place-clause-none : goal.returns-in_err-place-clause-none
returns-in_err-place-clause-none c = let e = cut_none (λ b. b == c.args.mark) c.args.bytes.now c.in_err-place.ensures in search rules

pub returns-clause-parts : goal.returns-clause-parts
returns-clause-parts c = cut_some (λ b. b == c.args.mark) c.args.bytes.now c.in_ok-place.place c.in_ok-place.ensures
