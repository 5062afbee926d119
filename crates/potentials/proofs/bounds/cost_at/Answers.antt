use Rattle.std.proofs.Common.{◌≡◌, ◌+◌, ◌*◌, ◌^◌, ◌<◌, ℕ, Option, Some, None, IfSome, length, refl, sym, ◌∙◌, ap, arith}
use Rattle.std.specs.Option.{option_map}
use Rattle.route_base.specs.declared.limits.TheConstants.{COST_OF_MINUTE}
use Rattle.label_queue.specs.Keys.{key_at}
use Rattle.label_queue.proofs.Viewing.{key_at-map}
use Rattle.potentials.specs.Inside.Caps.{costs_in}
use Rattle.potentials.proofs.Lists.{read_at}
use Rattle.potentials.proofs.bounds.cost_at.Goals as goal

fits : (o : Option ℕ) → ((x : ℕ) → o ≡ Some x → COST_OF_MINUTE * x < 2 ^ 64) → IfSome o (λ x. COST_OF_MINUTE * x < 2 ^ 64)
fits None all = tt
fits (Some x) all = all x refl

pub cost_of_sum-requires : goal.cost_of_sum-requires
cost_of_sum-requires c =
    let minutes = c.args.sums.now.minutes.items in
    let at = read_at minutes c.args.place c.index.result.now c.requires.place c.index.ensures in
    record { fits = fits c.index.result.now (λ x is. c.requires.fit (c.args.place + 1) x (at ∙ is)) }

pub returns-in-None : goal.returns-in-None
returns-in-None c =
    let minutes = c.args.sums.now.minutes.items in
    let at = read_at minutes c.args.place c.index.result.now c.requires.place c.index.ensures in
    c.cost_of_sum.ensures ∙ (ap (option_map (λ x. COST_OF_MINUTE * x)) (sym at) ∙ (sym (key_at-map (λ x. COST_OF_MINUTE * x) minutes (c.args.place + 1))
    ∙ ap (λ o. key_at (costs_in minutes o) (c.args.place + 1)) (sym c.in-None.is)))

pub returns-in-Some : goal.returns-in-Some
returns-in-Some c =
    let minutes = c.args.sums.now.minutes.items in
    let same = ap (λ o. length (costs_in minutes o)) c.in-Some.is in
    sym (read_at c.in-Some.costs.items c.args.place c.index-in-Some.result.now (omega (arith, same, c.requires)) c.index-in-Some.ensures)
    ∙ ap (λ o. key_at (costs_in minutes o) (c.args.place + 1)) (sym c.in-Some.is)
