use Rattle.ruled_bounds.proofs.Goods.{as_good_left, as_good_right}
use Rattle.ruled_bounds.proofs.label_check.either_has_as_good.Goals as goal

pub returns-then-has_as_good : goal.returns-then-has_as_good
returns-then-has_as_good g c = λ yes.
    as_good_left (g.R.Ruler.ruling c.args.ruler.now) c.args.own.now c.args.far.now c.args.value c.args.need
    (c.has_as_good.ensures c.if-has_as_good.true)

pub returns : goal.returns
returns g c = λ yes.
    as_good_right (g.R.Ruler.ruling c.args.ruler.now) c.args.own.now c.args.far.now c.args.value c.args.need (c.has_as_good-2.ensures yes)
