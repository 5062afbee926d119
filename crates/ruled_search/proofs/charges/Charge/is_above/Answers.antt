use Rattle.std.proofs.Common.{◌≡◌, ⊎_elim, ℕ, ◌≤◌, ap, arith}
use Rattle.std.proofs.lemmas.Bool.{ltb-true}
use Rattle.cost_functions.specs.Lines.{line_at}
use Rattle.ruled_search.specs.Inside.Charges.{charged as charge}
use Rattle.ruled_search.proofs.Charging.{an_end_is_least}
use Rattle.ruled_search.proofs.charges.Charge.is_above.Goals as goal

pub returns-then-saturating_add-most : goal.returns-then-saturating_add-most
returns-then-saturating_add-most c =
    let of_self : ℕ → ℕ → ℕ = charge c.args.self.price c.args.self.until in
    let first = ap (of_self c.args.piece.lo) c.value.ensures in
    let last = ap (of_self c.args.piece.hi) c.value-2.ensures in
    let within : c.args.piece.hi ≤ c.args.self.until = omega (arith, c.if-piece-self.false) in
    λ is t from to. (
      omega (arith, to, within),
      (let above = ltb-true c.args.most c.saturating_add-then-saturating_add-most.result is in
          ⊎_elim
          (λ (le : of_self c.args.piece.lo (line_at c.args.piece c.args.piece.lo) ≤ of_self t (line_at c.args.piece t)).
          omega (arith, le, first, c.if-saturating_add-most.true, c.saturating_add.ensures, c.of-first.ensures))
          (λ (le : of_self c.args.piece.hi (line_at c.args.piece c.args.piece.hi) ≤ of_self t (line_at c.args.piece t)).
          omega (arith, le, last, above, c.saturating_add-then-saturating_add-most.ensures, c.of-last.ensures))
          (an_end_is_least c.args.self.price c.args.self.until c.args.piece c.args.piece.hi t from to within)),
    )
