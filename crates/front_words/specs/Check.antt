-- The words of `check` (source: own).
use Rattle.std.specs.Prelude.{codes}
use Rattle.front_words.specs.Forms.{certificate}
use Rattle.front_words.specs.Trips.{Command, named_trip_usage}
use Rattle.front_words.specs.Usages.{Usage}
pub use Rattle.front_words.specs.declared.check.Check.{Check}
pub use Rattle.front_words.specs.declared.commands.Invocation.TheVariants.{Check as to_check}

-- `check DIR VEHICLE FROM TO DEPART UNTIL NAME`
abbrev pub check_usage : Usage Command
check_usage = named_trip_usage (codes "check") certificate (λ dir trip name. to_check (record { dir = dir; trip = trip; name = name }))
