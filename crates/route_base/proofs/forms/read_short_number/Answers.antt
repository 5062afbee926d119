use Rattle.std.proofs.Common.{◌≤◌, IfSome, subst, sym, arith}
use Rattle.route_base.proofs.ShortNumbers.{number_of_three}
use Rattle.route_base.proofs.forms.read_short_number.Goals as goal

pub returns-clause-short : goal.returns-clause-short
returns-clause-short c =
    subst (λ o. IfSome o (λ n. n ≤ 999)) (sym c.read_number.ensures) (number_of_three c.args.digits.now (omega arith))
