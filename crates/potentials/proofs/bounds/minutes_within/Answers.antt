use Rattle.std.proofs.Common.{Some, sym, ◌∙◌, ap, subst, arith}
use Rattle.label_queue.specs.Keys.{key_at}
use Rattle.label_queue.proofs.Places.{key_read}
use Rattle.route_base.specs.Net.{setting_of}
use Rattle.potentials.specs.Sums.{IsCappedSum}
use Rattle.potentials.specs.Inside.Caps.{capped_at}
use Rattle.potentials.specs.declared.sums.Counted.TheVariants.{Minutes}
use Rattle.potentials.proofs.CappedBounds.{capped_sum}
use Rattle.potentials.proofs.InProportion.{up_to_cap}
use Rattle.potentials.proofs.bounds.minutes_within.Goals as goal

pub returns : goal.returns
returns c =
    let net = c.args.net.now in
    let cap = c.args.cap in
    let v = c.args.origin.0 in
    let found = c.in_ok-sums.ensures in
    let sums = c.in_ok-sums.sums.items in
    let at = key_read sums v c.index.result.now c.requires.origin_low (omega (arith, c.requires.origin_high, found.nodes)) ∙ sym c.index.ensures in
    let below = up_to_cap net Minutes c.args.goal.0 (Some cap) sums found.good found.least v in
    subst (λ x. IsCappedSum (setting_of net).road (λ r. r.minutes) c.args.goal.0 v cap x) (ap (capped_at cap) at ∙ sym c.capped.ensures)
    (capped_sum (setting_of net).road (λ r. r.minutes) c.args.goal.0 cap v (key_at sums v) below)
