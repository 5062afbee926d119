use Rattle.std.proofs.Common.{◌≡◌, ⊎_elim, ℕ, ◌≤◌, ap, arith}
use Rattle.cost_functions.specs.Lines.{line_at}
use Rattle.ruled_search.specs.Inside.Charges.{charged as charge}
use Rattle.ruled_search.proofs.Charging.{an_end_is_most}
use Rattle.ruled_search.proofs.charges.Charge.most_on.Goals as goal

pub returns : goal.returns
returns c =
    let of_self : ℕ → ℕ → ℕ = charge c.args.self.price c.args.self.until in
    let first = ap (of_self c.args.lo) c.value.ensures in
    let last = ap (of_self c.args.hi) c.value-2.ensures in
    λ less u from to. ⊎_elim
    (λ (le : of_self u (line_at c.args.piece u) ≤ of_self c.args.lo (line_at c.args.piece c.args.lo)).
    omega (arith, le, first, less, c.max.ensures, c.of-first.ensures))
    (λ (le : of_self u (line_at c.args.piece u) ≤ of_self c.args.hi (line_at c.args.piece c.args.hi)).
    omega (arith, le, last, less, c.max.ensures, c.of-last.ensures))
    (an_end_is_most c.args.self.price c.args.self.until c.args.piece c.args.lo c.args.hi u c.requires.low from to c.requires.until)
