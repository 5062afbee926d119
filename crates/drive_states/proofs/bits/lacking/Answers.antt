use Rattle.std.proofs.Common.{rules, arith, ◌≡◌, ◌≤◌, ◌-◌, ◌<◌, ◌^◌}
use Rattle.std.specs.Prelude.{bit_and}
use Rattle.std.specs.Int.Count.{ones}
use Rattle.std.proofs.lemmas.Nat.{ones-le}
use Rattle.drive_states.proofs.BitWords.{lacks, lacks_few}
use Rattle.drive_states.proofs.bits.lacking.Goals as goal

pub returns-then-new-eq0 : goal.returns-then-new-eq0
returns-then-new-eq0 c =
    let word : c.args.word < 2 ^ 64 = search rules in
    let zero : bit_and c.args.other (2 ^ 64 - 1 - c.args.word) ≡ 0 = c.if-new-eq0.true in
    let none : ones (bit_and c.args.other (2 ^ 64 - 1 - c.args.word)) ≤ 0 =
    ones-le 0 (bit_and c.args.other (2 ^ 64 - 1 - c.args.word)) (omega (arith, zero)) in
    record {
      few = omega arith;
      count = λ n few small. omega (arith, none, lacks c.args.word c.args.other n word few small);
    }

pub returns : goal.returns
returns c =
    let word : c.args.word < 2 ^ 64 = search rules in
    let other : c.args.other < 2 ^ 64 = search rules in
    record {
      few = lacks_few c.args.word c.args.other other;
      count = λ n few small. lacks c.args.word c.args.other n word few small;
    }
