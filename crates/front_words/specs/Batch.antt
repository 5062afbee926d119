-- The words of `batch` (source: own).
use Rattle.std.specs.Prelude.{ℕ, Option, Some, None, List, [], ◌∷◌, codes}
use Rattle.front_words.specs.declared.limits.TheConstants.{MOST_WORKERS, USUAL_WORKERS}
use Rattle.front_words.specs.Forms.{Value, count, file, folder, of_text}
use Rattle.front_words.specs.Trips.{Command}
use Rattle.front_words.specs.Usages.{Usage, number_in}
pub use Rattle.front_words.specs.declared.batch.Batch.{Batch}
pub use Rattle.front_words.specs.declared.commands.Invocation.TheVariants.{Batch as to_batch}

-- the batch that the values of its words make
abbrev pub batch_of : List Value → List (Option Value) → Option Command
batch_of (of_text dir ∷ of_text name ∷ []) (workers ∷ []) =
    Some (to_batch (record { dir = dir; jobs = name; workers = number_in USUAL_WORKERS workers }))
batch_of places options = None

-- `batch DIR JOBS [--workers N]`
abbrev pub batch_usage : Usage Command
batch_usage = record {
  name = codes "batch";
  places = folder ∷ file ∷ [];
  options = record { name = codes "--workers"; form = count MOST_WORKERS } ∷ [];
  make = batch_of;
}

-- the names that `clap` has for the positional words of `batch`
abbrev pub batch_places : List (List ℕ)
batch_places = codes "dir" ∷ codes "jobs" ∷ []

-- the names that `clap` has for the options of `batch`
abbrev pub batch_choices : List (List ℕ)
batch_choices = codes "workers" ∷ []
