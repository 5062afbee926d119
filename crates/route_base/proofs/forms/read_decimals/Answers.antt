use Rattle.std.proofs.Common.{◌≡◌, ◌≤◌, length, IfSome, subst, sym, arith}
use Rattle.route_base.proofs.ShortNumbers.{short_of_one, short_of_two}
use Rattle.route_base.proofs.forms.read_decimals.Goals as goal
use Rattle.route_base.proofs.forms.read_decimals.Goals.{in-1, in-2, in-3}

pub returns-clause-short : goal.returns-clause-short
returns-clause-short c =
    let ds = c.args.digits.now in
    let n = c.in_ok-read_short_number.field-0 in
    let value = c.in_ok-read_short_number.ensures.value in
    let short = c.in_ok-read_short_number.ensures.short in
    elim c.match-digits.branch [
      | in-1 w ↦ (let one : length ds ≡ 1 = omega arith in
          let few : n ≤ 9 = subst (λ o. IfSome o (λ k. k ≤ 9)) (sym value) (short_of_one ds one) in
          rw w.unit-is (omega (arith, few)))
      | in-2 w ↦ (let two : length ds ≡ 2 = omega arith in
          let few : n ≤ 99 = subst (λ o. IfSome o (λ k. k ≤ 99)) (sym value) (short_of_two ds two) in
          rw w.unit-is (omega (arith, few)))
      | in-3 w ↦ rw w.unit-is (omega (arith, short))
    ]
