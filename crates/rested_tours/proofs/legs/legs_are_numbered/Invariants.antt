use Rattle.std.proofs.Common.{◌<◌, ℕ, get_or}
use Rattle.ruled_search.specs.declared.routes.RuledLeg.{RuledLeg}
use Rattle.rested_tours.specs.Inside.ToldLegs.{IsLegNumbered}
use Rattle.rested_tours.proofs.legs.legs_are_numbered.Given as goal

abbrev pub invariant-loop-leg : goal.invariant-loop-leg
invariant-loop-leg l = (k : ℕ) (d : RuledLeg) → k < l.leg-index → IsLegNumbered (get_or l.legs k d)
