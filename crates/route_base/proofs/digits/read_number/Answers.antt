use Rattle.std.proofs.Common.{◌≤◌, ◌^◌, ◌<◌, arith}
use Rattle.std.proofs.Math.Nat.{pow-le-pow_right}
use Rattle.route_base.proofs.digits.read_number.Goals as goal

pub overflow_mul-n : goal.overflow_mul-n
overflow_mul-n c =
    let ten : 0 < 10 = omega arith in
    let last : c.loop-b.b-index ≤ 17 = omega arith in
    let most : 10 ^ c.loop-b.b-index ≤ 10 ^ 17 = pow-le-pow_right ten last in
    omega (arith, most, c.loop-b.invariant.small)

pub overflow_add-n : goal.overflow_add-n
overflow_add-n c =
    let ten : 0 < 10 = omega arith in
    let last : c.loop-b.b-index ≤ 17 = omega arith in
    let most : 10 ^ c.loop-b.b-index ≤ 10 ^ 17 = pow-le-pow_right ten last in
    omega (arith, most, c.loop-b.invariant.small)
