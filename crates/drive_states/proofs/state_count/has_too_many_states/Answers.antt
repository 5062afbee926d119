use Rattle.std.proofs.Common.{⊎_elim, ℕ, ◌+◌, ◌≤◌, ◌<◌, arith}
use Rattle.std.proofs.lemmas.Bool.{cases_lt, ltb-true, lt-ltb}
use Rattle.route_base.specs.Net.{setting_of}
use Rattle.front_transport.specs.declared.limits.TheConstants.{MOST_STATES}
use Rattle.drive_states.specs.Inside.StateMarks.{IsSettled}
use Rattle.drive_states.proofs.Marked.{marks_few}
use Rattle.drive_states.proofs.StateLists.{many_counted, few_counted}
use Rattle.drive_states.proofs.state_count.has_too_many_states.Goals as goal

pub overflow_add-count : goal.overflow_add-count
overflow_add-count c = omega (
  arith,
  c.drive_count.ensures.few,
  c.node_count-nodes.ensures.good.nodes,
  marks_few (setting_of c.args.plan.net.now) c.args.plan.origin.0 c.args.plan.rule c.in_ok-marks.marks c.requires.drive c.in_ok-marks.ensures.facts,
)

pub overflow_add-count-2 : goal.overflow_add-count-2
overflow_add-count-2 c = omega (
  arith,
  c.drive_count.ensures.few,
  c.rest_count.ensures.few,
  c.node_count-nodes.ensures.good.nodes,
  marks_few (setting_of c.args.plan.net.now) c.args.plan.origin.0 c.args.plan.rule c.in_ok-marks.marks c.requires.drive c.in_ok-marks.ensures.facts,
)

pub returns : goal.returns
returns c = (
  λ is. (let more : c.from.result < c.in_ok-marks.marks.count + c.drive_count.result + c.rest_count.result =
      ltb-true c.from.result (c.in_ok-marks.marks.count + c.drive_count.result + c.rest_count.result) is in
      many_counted (setting_of c.args.plan.net.now) c.args.plan.origin.0 c.args.plan.rule c.in_ok-marks.marks c.in_ok-marks.ensures.facts
      (omega (arith, c.from.ensures, more, c.drive_count.ensures.value, c.rest_count.ensures.value))),
  λ large. ⊎_elim
      (λ (more : c.from.result < c.in_ok-marks.marks.count + c.drive_count.result + c.rest_count.result).
      lt-ltb c.from.result (c.in_ok-marks.marks.count + c.drive_count.result + c.rest_count.result) more)
      (λ (few : c.in_ok-marks.marks.count + c.drive_count.result + c.rest_count.result ≤ c.from.result). ⊎_elim
      (λ (many : MOST_STATES < c.in_ok-marks.marks.count). absurd (omega (arith, many, few, c.from.ensures)))
      (λ (settled : (v : ℕ) → IsSettled (setting_of c.args.plan.net.now) c.args.plan.rule c.in_ok-marks.marks.rows v).
      absurd (few_counted c.args.plan.net.now c.args.plan.origin.0 c.args.plan.rule c.in_ok-marks.marks c.node_count-nodes.ensures.good
      (c.requires.low, c.requires.high) c.in_ok-marks.ensures.facts settled
      (omega (arith, c.from.ensures, few, c.drive_count.ensures.value, c.rest_count.ensures.value)) large))
      c.in_ok-marks.ensures.all)
      (cases_lt c.from.result (c.in_ok-marks.marks.count + c.drive_count.result + c.rest_count.result)),
)
