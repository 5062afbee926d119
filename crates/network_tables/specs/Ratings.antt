-- ratings.csv: the cost of a minute of waiting, by rating (source: own).
use Rattle.std.specs.Prelude.{ℕ, is_some, Option, Some, None, List, [], ◌∷◌, codes, if◌then◌else◌}
use Rattle.std.specs.List.{filter_map}
use Rattle.std.specs.Option.{option_map}
use Rattle.route_base.specs.Forms.{is_name, weight_of}
use Rattle.route_base.specs.declared.faults.Cause.{Cause}
use Rattle.route_base.specs.declared.faults.Cause.TheVariants.{BadField, Duplicate}
use Rattle.route_base.specs.declared.limits.TheConstants.{MOST_RATINGS}
use Rattle.table_reader.specs.Schema.{Schema}
use Rattle.table_reader.specs.NameIndex.{value_under}
use Rattle.table_reader.specs.Records.{Record}

-- a rating's name, and its weight in thousandths
abbrev pub Rating : Type 0
Rating = List ℕ × ℕ

-- a name and a weight
abbrev pub rating_of : Record → Option Rating
rating_of (name ∷ weight ∷ []) = if is_name name then option_map (λ w. (name, w)) (weight_of weight) else None
rating_of others = None

-- the name has no row yet
abbrev pub cause_of_rating : List Rating → Option Rating → Option Cause
cause_of_rating before None = Some BadField
cause_of_rating before (Some r) = if is_some (value_under before r.0) then Some Duplicate else None

-- the ratings of these rows in their order
abbrev pub ratings_in : List Record → List Rating
ratings_in rows = filter_map rating_of rows

-- a name and a weight
abbrev pub ratings_schema : Schema
ratings_schema = record {
  headers = (codes "rating" ∷ codes "weight" ∷ []) ∷ [];
  limit = MOST_RATINGS;
  cause = λ header before row. cause_of_rating (ratings_in before) (rating_of row);
}
