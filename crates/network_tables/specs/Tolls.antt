-- tolls.csv: what it costs to drive over an arc, beside its minutes (source: own).
use Rattle.std.specs.Prelude.{ℕ, nat_eq, is_some, Option, Some, None, List, [], ◌∷◌, codes, if◌then◌else◌}
use Rattle.std.specs.List.{filter_map}
use Rattle.std.specs.Map.{lookup}
use Rattle.std.specs.Option.{option_map, option_and_then}
use Rattle.route_base.specs.Forms.{is_from_to, table_number_of, weight_of}
use Rattle.route_base.specs.declared.faults.Cause.{Cause}
use Rattle.route_base.specs.declared.faults.Cause.TheVariants.{BadField, Unknown, Duplicate}
use Rattle.route_base.specs.declared.limits.TheConstants.{MOST_TOLLS}
use Rattle.table_reader.specs.Schema.{Schema}
use Rattle.table_reader.specs.Records.{Record}

-- an arc's number, and its toll in thousandths
abbrev pub Toll : Type 0
Toll = ℕ × ℕ

-- a number, and a toll in the form of a weight
abbrev pub toll_of : Record → Option Toll
toll_of (arc ∷ toll ∷ []) = option_and_then (λ a. option_map (λ x. (a, x)) (weight_of toll)) (table_number_of arc)
toll_of others = None

-- the toll that these rows state for an arc
abbrev pub toll_for : List Toll → ℕ → Option ℕ
toll_for tolls a = lookup (nat_eq a) tolls

-- the arc is from 1 to `arcs`, and has no row yet
abbrev pub cause_of_toll : ℕ → List Toll → Option Toll → Option Cause
cause_of_toll arcs before None = Some BadField
cause_of_toll arcs before (Some t) =
    if is_from_to 1 arcs t.0 then (if is_some (toll_for before t.0) then Some Duplicate else None) else Some Unknown

-- the tolls of these rows in their order
abbrev pub tolls_in : List Record → List Toll
tolls_in rows = filter_map toll_of rows

-- an arc and a toll
abbrev pub tolls_schema : ℕ → Schema
tolls_schema arcs = record {
  headers = (codes "arc" ∷ codes "toll" ∷ []) ∷ [];
  limit = MOST_TOLLS;
  cause = λ header before row. cause_of_toll arcs (tolls_in before) (toll_of row);
}

-- tolls so far, with the number of arcs for which they stand
pub record TollsSoFar : Type 0 where
  pub arcs : ℕ
  pub tolls : List Toll
