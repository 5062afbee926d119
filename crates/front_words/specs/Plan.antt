-- The words of `plan` (source: own).
use Rattle.std.specs.Prelude.{ℕ, Option, Some, None, List, [], ◌∷◌, codes}
use Rattle.front_words.specs.Forms.{Value, certificate, folder, of_number, of_text, report}
use Rattle.front_words.specs.Trips.{Command, trip_forms, trip_to}
use Rattle.front_words.specs.Usages.{Usage, name_in, report_in}
pub use Rattle.front_words.specs.declared.plan.Plan.{Plan}
pub use Rattle.front_words.specs.declared.commands.Invocation.TheVariants.{Plan as to_plan}

-- the plan that the values of its words make
abbrev pub plan_of : List Value → List (Option Value) → Option Command
plan_of (of_text dir ∷ of_text lorry ∷ of_number from ∷ of_number to ∷ of_number start ∷ of_number end ∷ []) (form ∷ name ∷ []) =
    Some (to_plan (record { dir = dir; trip = trip_to lorry from to start end; form = report_in form; certificate = name_in name }))
plan_of places options = None

-- `plan DIR VEHICLE FROM TO DEPART UNTIL [--form F] [--certificate NAME]`
abbrev pub plan_usage : Usage Command
plan_usage = record {
  name = codes "plan";
  places = folder ∷ trip_forms;
  options = record { name = codes "--form"; form = report } ∷ record { name = codes "--certificate"; form = certificate } ∷ [];
  make = plan_of;
}

-- the names that `clap` has for the options of `plan`
abbrev pub plan_choices : List (List ℕ)
plan_choices = codes "form" ∷ codes "certificate" ∷ []
