-- The words of `breaks` (source: own).
use Rattle.std.specs.Prelude.{ℕ, ◌≤◌, Option, Some, None, List, [], ◌∷◌, codes}
use Rattle.route_base.specs.declared.limits.TheConstants.{DAY_MINUTES}
use Rattle.front_words.specs.declared.limits.TheConstants.{USUAL_DRIVE, USUAL_REST}
use Rattle.front_words.specs.Forms.{Value, count, folder, of_number, of_text}
use Rattle.front_words.specs.Trips.{Command, trip_forms, trip_to}
use Rattle.front_words.specs.Usages.{OptionUsage, Usage, number_in}
pub use Rattle.front_words.specs.declared.breaks.Breaks.{Breaks}
pub use Rattle.front_words.specs.declared.commands.Invocation.TheVariants.{Breaks as to_breaks}

-- the plan with breaks that the values of its words make
abbrev pub breaks_of : List Value → List (Option Value) → Option Command
breaks_of (of_text dir ∷ of_text lorry ∷ of_number from ∷ of_number to ∷ of_number start ∷ of_number end ∷ []) (drive ∷ rest ∷ []) =
    Some (to_breaks (record {
      dir = dir;
      trip = trip_to lorry from to start end;
      drive = number_in USUAL_DRIVE drive;
      rest = number_in USUAL_REST rest;
    }))
breaks_of places options = None

-- the options of a break rule
abbrev pub rule_options : List OptionUsage
rule_options = record { name = codes "--drive"; form = count DAY_MINUTES } ∷ record { name = codes "--rest"; form = count DAY_MINUTES } ∷ []

-- `breaks DIR VEHICLE FROM TO DEPART UNTIL [--drive B] [--rest L]`
abbrev pub breaks_usage : Usage Command
breaks_usage = record { name = codes "breaks"; places = folder ∷ trip_forms; options = rule_options; make = breaks_of }

-- the names that `clap` has for the options of a break rule
abbrev pub rule_choices : List (List ℕ)
rule_choices = codes "drive" ∷ codes "rest" ∷ []

-- both numbers of a break rule are from 1 to the minutes of a day
pub record AreRuleMinutes (minutes pause : ℕ) : Type 0 where
  pub drive : (1 ≤ minutes) × (minutes ≤ DAY_MINUTES)
  pub rest : (1 ≤ pause) × (pause ≤ DAY_MINUTES)

-- those of the command's rule
abbrev pub HasGoodRule : Breaks → Type 0
HasGoodRule b = AreRuleMinutes b.drive b.rest
