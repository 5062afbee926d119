use Rattle.std.proofs.Common.{◌-◌, ◌*◌, ◌/◌, ◌%◌, ◌^◌, ◌≡◌, ◌+◌, ℕ, ap, ◌∙◌, arith}
use Rattle.std.specs.Prelude.{bit_or}
use Rattle.std.proofs.lemmas.Nat.{shr-shr}
use Rattle.drive_states.proofs.bits.moved_up.Goals as goal

pub returns : goal.returns
returns c =
    let by : 1 + (63 - c.args.part) ≡ 64 - c.args.part = omega arith in
    ap (bit_or (c.args.word * 2 ^ c.args.part % 2 ^ 64)) (shr-shr c.args.before 1 (63 - c.args.part) ∙ ap (λ (k : ℕ). c.args.before / 2 ^ k) by)
