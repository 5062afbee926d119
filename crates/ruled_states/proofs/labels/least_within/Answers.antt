use Rattle.std.proofs.Common.{◌-◌, List, length, take, drop, sym, ◌∙◌, ap, arith}
use Rattle.route_base.proofs.Lists.{first_and_rest}
use Rattle.function_merge.specs.Least.{least_of}
use Rattle.ruled_states.specs.Inside.Labels.{fit_value, least_fit}
use Rattle.ruled_states.specs.declared.labels.Label.{Label}
use Rattle.ruled_states.proofs.Least.{least_of-assoc}
use Rattle.ruled_states.proofs.labels.least_within.Goals as goal

pub fits-preserved : goal.fits-preserved
fits-preserved g c =
    let r = g.R.Ruler.ruling c.args.ruler.now in
    let left : List Label = c.fits.left.now in
    let rest : List Label = take (length left - 1) (drop 1 left) in
    let split = first_and_rest left (record { value = 0; need = 0 }) (omega (arith, c.in-len1-up.len_at_least)) in
    ap (λ o. least_of o (least_fit r rest c.args.state)) c.better_fit-least.ensures
    ∙ least_of-assoc c.fits.least (fit_value r c.args.state _) (least_fit r rest c.args.state)
    ∙ ap (λ xs. least_of c.fits.least (least_fit r xs c.args.state)) (sym split) ∙ c.fits.invariant
