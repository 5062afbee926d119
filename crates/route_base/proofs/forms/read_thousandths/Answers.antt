use Rattle.std.proofs.Common.{◌==◌, ◌≤◌, length, sym, arith}
use Rattle.std.proofs.lemmas.List.Splits.{length-slice_split}
use Rattle.std.specs.List.{slice_split}
use Rattle.route_base.proofs.ShortNumbers.{many_parts}
use Rattle.route_base.proofs.forms.read_thousandths.Goals as goal

pub returns-in-Some-cut : goal.returns-in-Some-cut
returns-in-Some-cut c =
    let rest = c.in-Some-cut.field-0.1.now in
    let more : 1 ≤ length (slice_split (λ b. b == 46) rest) = omega (arith, length-slice_split (λ b. b == 46) rest) in
    rw (c.in-Some.ensures.parts, c.in-Some-cut.ensures.parts)
    (sym (many_parts c.in-Some.whole.now c.in-Some-cut.field-0.0.now (slice_split (λ b. b == 46) rest) more))
