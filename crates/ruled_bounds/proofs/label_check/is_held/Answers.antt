use Rattle.std.proofs.Common.{◌≡◌, ◌+◌, ◌++◌, sym, ◌∙◌, subst, arith}
use Rattle.std.proofs.lemmas.Option.{same_Some}
use Rattle.route_base.specs.Net.{road_of}
use Rattle.ruled_bounds.specs.Inside.GoodLabels.{HasAsGood, counting_of}
use Rattle.ruled_bounds.proofs.Goods.{as_good_more}
use Rattle.ruled_bounds.proofs.label_check.is_held.Goals as goal

pub returns : goal.returns
returns g c = λ yes m is.
    let r = g.R.Ruler.ruling c.args.ruler.now in
    let same : c.in-Some.need ≡ m = same_Some c.in-Some.need m (sym c.in-Some.is ∙ (c.drive.ensures ∙ is)) in
    let known = c.args.tails.now ++ c.args.far.now in
    as_good_more r known c.saturating_add-value.result (c.args.label.value + (counting_of c.args.counted).of_drive (road_of c.args.arc)) m
    (omega (arith, c.saturating_add-value.ensures, c.of_drive.ensures))
    (subst (λ n. HasAsGood r known c.saturating_add-value.result n) same (c.either_has_as_good.ensures yes))
