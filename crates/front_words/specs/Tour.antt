-- The words of `tour` (source: own).
use Rattle.std.specs.Prelude.{ℕ, Option, Some, None, List, [], ◌∷◌, ◌++◌, codes}
use Rattle.front_words.specs.declared.limits.TheConstants.{USUAL_DRIVE, USUAL_REST}
use Rattle.front_words.specs.Breaks.{AreRuleMinutes, rule_options}
use Rattle.front_words.specs.Forms.{Value, file, folder, of_number, of_text}
use Rattle.front_words.specs.Trips.{Command, trip_forms, trip_to}
use Rattle.front_words.specs.Usages.{Usage, count_in}
pub use Rattle.front_words.specs.declared.tour.Tour.{Tour}
pub use Rattle.front_words.specs.declared.tour.RestedTour.{RestedTour}
pub use Rattle.front_words.specs.declared.commands.Invocation.TheVariants.{Tour as to_tour, RestedTour as to_rested_tour}

-- a tour by itself where neither option is given; else one that keeps a break rule, whose other number is the usual one
abbrev pub tour_under : Tour → Option ℕ → Option ℕ → Command
tour_under tour None None = to_tour tour
tour_under tour (Some drive) None = to_rested_tour (record { tour = tour; drive = drive; rest = USUAL_REST })
tour_under tour None (Some rest) = to_rested_tour (record { tour = tour; drive = USUAL_DRIVE; rest = rest })
tour_under tour (Some drive) (Some rest) = to_rested_tour (record { tour = tour; drive = drive; rest = rest })

-- the tour that the values of its words make
abbrev pub tour_of : List Value → List (Option Value) → Option Command
tour_of (of_text dir ∷ of_text lorry ∷ of_number from ∷ of_number to ∷ of_number start ∷ of_number end ∷ of_text name ∷ []) (drive ∷ rest ∷ []) =
    Some (tour_under (record { dir = dir; trip = trip_to lorry from to start end; stops = name }) (count_in drive) (count_in rest))
tour_of places options = None

-- `tour DIR VEHICLE FROM TO DEPART UNTIL STOPS [--drive B] [--rest L]`
abbrev pub tour_usage : Usage Command
tour_usage = record { name = codes "tour"; places = folder ∷ (trip_forms ++ file ∷ []); options = rule_options; make = tour_of }

-- both numbers of the tour's break rule are from 1 to the minutes of a day
abbrev pub HasGoodTourRule : RestedTour → Type 0
HasGoodTourRule t = AreRuleMinutes t.drive t.rest
