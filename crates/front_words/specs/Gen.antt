-- The words of `gen` (source: own).
use Rattle.std.specs.Prelude.{ℕ, ◌*◌, nat_le, Option, Some, None, List, [], ◌∷◌, codes, if◌then◌else◌}
use Rattle.net_generator.specs.declared.limits.TheConstants.{LAST_NUMBER, MOST_GENERATED_NODES, MOST_LINES}
use Rattle.front_words.specs.Forms.{Value, count, folder, of_number, of_text}
use Rattle.front_words.specs.Trips.{Command}
use Rattle.front_words.specs.Usages.{Usage, without_options}
pub use Rattle.front_words.specs.declared.generate.Gen.{Gen}
pub use Rattle.front_words.specs.declared.commands.Invocation.TheVariants.{Gen as to_gen}

-- the generation that the values of its words make: none where there are more nodes than are drawn
abbrev pub gen_of : List Value → List (Option Value) → Option Command
gen_of (of_text dir ∷ of_number from ∷ of_number rows ∷ of_number columns ∷ []) [] =
    if nat_le (rows * columns) MOST_GENERATED_NODES
    then Some (to_gen (record { dir = dir; number = from; rows = rows; columns = columns }))
    else None
gen_of places options = None

-- `gen DIR NUMBER ROWS COLUMNS`
abbrev pub gen_usage : Usage Command
gen_usage = without_options (codes "gen") (folder ∷ count LAST_NUMBER ∷ count MOST_LINES ∷ count MOST_LINES ∷ []) gen_of

-- the names that `clap` has for the positional words of `gen`
abbrev pub gen_places : List (List ℕ)
gen_places = codes "dir" ∷ codes "number" ∷ codes "rows" ∷ codes "columns" ∷ []
