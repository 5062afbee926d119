-- The words of `latest` (source: own).
use Rattle.std.specs.Prelude.{◌∷◌, codes}
use Rattle.front_words.specs.Forms.{folder}
use Rattle.front_words.specs.Trips.{Command, trip_forms, trip_of}
use Rattle.front_words.specs.Usages.{Usage, without_options}
pub use Rattle.front_words.specs.declared.latest.Latest.{Latest}
pub use Rattle.front_words.specs.declared.commands.Invocation.TheVariants.{Latest as to_latest}

-- `latest DIR VEHICLE FROM TO DEPART UNTIL`
abbrev pub latest_usage : Usage Command
latest_usage = without_options (codes "latest") (folder ∷ trip_forms) (trip_of (λ dir trip. to_latest (record { dir = dir; trip = trip })))
