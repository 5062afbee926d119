-- The words of `bans` (source: own).
use Rattle.std.specs.Prelude.{ℕ, Option, Some, None, List, [], ◌∷◌, codes}
use Rattle.front_words.specs.Forms.{Value, folder, instant, number, of_number, of_text, vehicle}
use Rattle.front_words.specs.Trips.{Command}
use Rattle.front_words.specs.Usages.{Usage, without_options}
pub use Rattle.front_words.specs.declared.bans.Bans.{Bans}
pub use Rattle.front_words.specs.declared.commands.Invocation.TheVariants.{Bans as to_bans}

-- the bans that the values of its words make
abbrev pub bans_of : List Value → List (Option Value) → Option Command
bans_of (of_text dir ∷ of_text lorry ∷ of_number arc ∷ of_number start ∷ of_number end ∷ []) [] =
    Some (to_bans (record { dir = dir; vehicle = lorry; arc = arc; depart = start; until = end }))
bans_of places options = None

-- `bans DIR VEHICLE ARC DEPART UNTIL`
abbrev pub bans_usage : Usage Command
bans_usage = without_options (codes "bans") (folder ∷ vehicle ∷ number ∷ instant ∷ instant ∷ []) bans_of

-- the names that `clap` has for the positional words of `bans`
abbrev pub bans_places : List (List ℕ)
bans_places = codes "dir" ∷ codes "vehicle" ∷ codes "arc" ∷ codes "depart" ∷ codes "until" ∷ []
