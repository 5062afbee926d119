-- The plain line of a leg (source: own).
use Rattle.std.specs.Prelude.{ℕ, List, ◌++◌, codes, decimal}
use Rattle.route_base.specs.declared.types.Leg.{Leg}
use Rattle.route_base.specs.declared.types.Leg.TheVariants.{Drive, Wait}

-- a word, and the arc of a drive or the minutes of a wait
abbrev pub plain_leg_text : Leg → List ℕ
plain_leg_text (Drive arc) = codes "drive " ++ decimal arc.0 ++ codes "\n"
plain_leg_text (Wait minutes) = codes "wait " ++ decimal minutes ++ codes "\n"
