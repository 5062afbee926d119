-- The words of `explain` (source: own).
use Rattle.std.specs.Prelude.{codes}
use Rattle.front_words.specs.Forms.{file}
use Rattle.front_words.specs.Trips.{Command, named_trip_usage}
use Rattle.front_words.specs.Usages.{Usage}
pub use Rattle.front_words.specs.declared.explain.Explain.{Explain}
pub use Rattle.front_words.specs.declared.commands.Invocation.TheVariants.{Explain as to_explain}

-- `explain DIR VEHICLE FROM TO DEPART UNTIL ITINERARY`
abbrev pub explain_usage : Usage Command
explain_usage = named_trip_usage (codes "explain") file (λ dir trip name. to_explain (record { dir = dir; trip = trip; itinerary = name }))
