-- The words of a trip, in all commands that have them (source: own).
use Rattle.std.specs.Prelude.{ℕ, Option, Some, None, List, [], ◌∷◌, ◌++◌}
use Rattle.route_base.specs.Time.{IsInstant}
use Rattle.front_words.specs.Forms.{Value, WordForm, folder, of_text, of_number, vehicle, number, instant}
use Rattle.front_words.specs.Usages.{Usage, without_options}
pub use Rattle.front_words.specs.declared.commands.Trip.{Trip}
pub use Rattle.front_words.specs.declared.commands.Invocation.{Invocation as Command}

-- the forms of the words of a trip
abbrev pub trip_forms : List WordForm
trip_forms = vehicle ∷ number ∷ number ∷ instant ∷ instant ∷ []

-- the trip that these values make
abbrev pub trip_to : List ℕ → ℕ → ℕ → ℕ → ℕ → Trip
trip_to lorry from to start end = record { vehicle = lorry; origin = from; goal = to; depart = start; until = end }

-- what the values of the words of a trip make
abbrev pub trip_of : (List ℕ → Trip → Command) → List Value → List (Option Value) → Option Command
trip_of make (of_text dir ∷ of_text lorry ∷ of_number from ∷ of_number to ∷ of_number start ∷ of_number end ∷ []) [] =
    Some (make dir (trip_to lorry from to start end))
trip_of make places options = None

-- the same with a name behind them
abbrev pub named_trip_of : (List ℕ → Trip → List ℕ → Command) → List Value → List (Option Value) → Option Command
named_trip_of make (of_text dir ∷ of_text lorry ∷ of_number from ∷ of_number to ∷ of_number start ∷ of_number end ∷ of_text name ∷ []) [] =
    Some (make dir (trip_to lorry from to start end) name)
named_trip_of make places options = None

-- a command without options whose words are those of a trip and a name of this form
abbrev pub named_trip_usage : List ℕ → WordForm → (List ℕ → Trip → List ℕ → Command) → Usage Command
named_trip_usage name form make = without_options name (folder ∷ (trip_forms ++ form ∷ [])) (named_trip_of make)

-- the trip begins and ends at instants
pub record IsTimed (trip : Trip) : Type 0 where
  pub depart : IsInstant trip.depart
  pub until : IsInstant trip.until
