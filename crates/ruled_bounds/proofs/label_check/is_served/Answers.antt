use Rattle.std.proofs.Common.{◌≡◌, ◌+◌, ◌++◌, sym, ◌∙◌, subst, arith}
use Rattle.std.proofs.lemmas.Option.{same_Some}
use Rattle.ruled_bounds.specs.Inside.GoodLabels.{HasAsGood, counting_of}
use Rattle.ruled_states.specs.Inside.Services.{service_at}
use Rattle.ruled_bounds.proofs.Goods.{as_good_more}
use Rattle.ruled_bounds.proofs.label_check.is_served.Goals as goal

pub returns : goal.returns
returns g c = λ yes m is.
    let r = g.R.Ruler.ruling c.args.ruler.now in
    let same : c.in-Some.need ≡ m = same_Some c.in-Some.need m (sym c.in-Some.is ∙ (c.unserve.ensures ∙ is)) in
    let known = c.args.own.now ++ c.args.far.now in
    as_good_more r known c.saturating_add-value.result (c.args.label.value + (counting_of c.args.counted).of_service (service_at c.args.service)) m
    (omega (arith, c.saturating_add-value.ensures, c.of_service.ensures))
    (subst (λ n. HasAsGood r known c.saturating_add-value.result n) same (c.either_has_as_good.ensures yes))
