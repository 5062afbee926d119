-- The table of ratings has no fault, and states the weights of `a`, `b` and `c`.
use Rattle.std.proofs.Common.{◌≡◌, ℕ, None, List, [], ◌∷◌, refl, ◌∙◌, ap, arith}
use Rattle.std.specs.Prelude.{codes}
use Rattle.std.specs.List.{AllByRecursion}
use Rattle.table_reader.specs.Records.{Record, records_of, rows_in, rows_of}
use Rattle.table_reader.specs.Schema.{first_table_fault}
use Rattle.network_tables.specs.Ratings.{ratings_schema, ratings_in}
use Rattle.net_generator.specs.Generated.{ratings_file}
use Rattle.drawn_network.specs.DrawnRows.{three_ratings}
use Rattle.drawn_network.proofs.PlainText.{IsPlainField, IsPlainRecord, plain_text-read}

abbrev rows : List Record
rows =
    (codes "rating" ∷ codes "weight" ∷ []) ∷ (codes "a" ∷ codes "0.500" ∷ []) ∷ (codes "b" ∷ codes "1.000" ∷ [])
    ∷ (codes "c" ∷ codes "2.500" ∷ []) ∷ []

both : (first second : List ℕ) → IsPlainField first → IsPlainField second → IsPlainRecord (first ∷ second ∷ [])
both first second one other = record { some = omega arith; plain = (one, (other, tt)) }

rows-plain : AllByRecursion IsPlainRecord rows
rows-plain = (
  both (codes "rating") (codes "weight") (record { some = omega arith; plain = refl }) (record { some = omega arith; plain = refl }),
  (
    both (codes "a") (codes "0.500") (record { some = omega arith; plain = refl }) (record { some = omega arith; plain = refl }),
    (
      both (codes "b") (codes "1.000") (record { some = omega arith; plain = refl }) (record { some = omega arith; plain = refl }),
      (both (codes "c") (codes "2.500") (record { some = omega arith; plain = refl }) (record { some = omega arith; plain = refl }), tt),
    ),
  ),
)

ratings_file-records : records_of ratings_file ≡ rows
ratings_file-records = plain_text-read rows rows-plain

faultless : first_table_fault ratings_schema rows ≡ None
unfolding first_table_fault
faultless = refl

pub ratings_file-faultless : first_table_fault ratings_schema (records_of ratings_file) ≡ None
ratings_file-faultless = ap (λ (records : List Record). first_table_fault ratings_schema records) ratings_file-records ∙ faultless

-- the table states the three ratings
pub ratings_file-ratings : ratings_in (rows_of ratings_file) ≡ three_ratings
ratings_file-ratings = ap (λ (records : List Record). ratings_in (rows_in records)) ratings_file-records
