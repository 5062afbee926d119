use Rattle.std.proofs.Common.{◌≡◌, ◌<◌, ◌≤◌, ◌+◌, ◌-◌, ◌^◌, suc, arith, refl, get_or}
use Rattle.dimacs_reader.proofs.PlainArcs.{few_digits, digits_small, digits_more, number_cut}
use Rattle.dimacs_reader.proofs.plain_lines.number_at.Goals as goal

pub overflow_mul-n : goal.overflow_mul-n
overflow_mul-n c =
    let small : c.loop-at.n < 10 ^ 17 = few_digits (c.loop-at.at - c.args.from) c.loop-at.n (omega arith) c.loop-at.invariant.small in
    omega arith

pub overflow_add-n : goal.overflow_add-n
overflow_add-n c =
    let small : c.loop-at.n < 10 ^ 17 = few_digits (c.loop-at.at - c.args.from) c.loop-at.n (omega arith) c.loop-at.invariant.small in
    omega arith

pub loop-at-preserved : goal.loop-at-preserved
loop-at-preserved c =
    let at = c.loop-at.at in
    let step : at + 1 - c.args.from ≡ suc (at - c.args.from) = omega arith in
    let digit : (48 ≤ get_or c.args.bytes.now at 0) × (get_or c.args.bytes.now at 0 ≤ 57) = c.if-is_ascii_digit.ensures.cases in
    record {
      begun = omega arith;
      within = omega arith;
      small = rw step (digits_small (at - c.args.from) c.loop-at.n _ c.loop-at.invariant.small (omega arith));
      read = digits_more c.args.bytes.now c.args.from at c.loop-at.n _ c.loop-at.invariant.read (omega arith) (omega arith) refl
          digit.0 digit.1;
    }

pub returns : goal.returns
returns c =
    number_cut c.args.bytes.now c.args.from c.loop-at.at c.loop-at.n c.args.mark c.loop-at.invariant.read (omega arith) (omega arith)
    (omega arith) (cc)
