use Rattle.std.proofs.Common.{◌≡◌, ◌++◌, map, drop, false}
use Rattle.serde_json.specs.View.{items_of}
use Rattle.serde_json.specs.Written.{items_text}
use Rattle.plan_report.specs.Json.{leg_data}
use Rattle.plan_report.proofs.json.push_legs.Given as goal

abbrev pub invariant-loop-leg : goal.invariant-loop-leg
invariant-loop-leg l = l.out.items ++ items_text l.later (items_of (map leg_data (drop l.leg-index l.legs)))
    ≡ l.initial.out.items ++ items_text false (items_of (map leg_data l.legs))
