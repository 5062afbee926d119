-- Each row of parking that states something is that of a node of the graph.
use Rattle.std.proofs.Common.{◌≡◌, ⊎_elim, ℕ, ◌≤◌, leb, true, Some, None, Option, Result, Ok, Err, List, sym, ◌∙◌, ap, subst}
use Rattle.std.specs.Prelude.{All, unwrap_or}
use Rattle.std.proofs.lemmas.Bool.{and_parts, cases_Bool, cond-false, cond-true, leb-true}
use Rattle.route_base.specs.Forms.{is_from_to}
use Rattle.route_base.specs.declared.faults.Cause.{Cause}
use Rattle.table_reader.specs.NameIndex.{value_under}
use Rattle.table_reader.specs.Records.{Record}
use Rattle.network_tables.specs.NetworkModel.{IsParkedWithin}
use Rattle.network_tables.specs.Parking.{Parked, ParkingFields, parked_by, parked_in, parked_of, parked_stated, parked_with, parking_fields_of, place_or_first}
use Rattle.network_tables.specs.Ratings.{Rating}
use Rattle.network_tables.proofs.SmallWeights.{all_filter_map}

module _ (nodes : ℕ) (ratings : List Rating) (areas : List (List ℕ)) where
  node_of_parts : (fields : ParkingFields) (weight area : Option ℕ) (p : Parked) → (1 ≤ fields.node) × (fields.node ≤ nodes)
      → parked_stated (parked_with fields weight area) ≡ Some p → IsParkedWithin nodes p
  node_of_parts fields None area p within is = absurd (cc)
  node_of_parts fields (Some w) None p within is = absurd (cc)
  node_of_parts fields (Some w) (Some a) p within is =
      let first : Parked = (fields.node, record { weight = w; area = a; hours = fields.hours }) in
      subst (IsParkedWithin nodes) (ap (λ (o : Option Parked). unwrap_or o first) is) within

  node_of_fields : (read : Result ParkingFields Cause) (p : Parked) → parked_stated (parked_by nodes ratings areas read) ≡ Some p → IsParkedWithin nodes p
  node_of_fields (Err cause) p is = absurd (cc)
  node_of_fields (Ok fields) p is =
      ⊎_elim
      (λ yes.
      let both = and_parts (leb 1 fields.node) (leb fields.node nodes) yes in
      node_of_parts fields (value_under ratings fields.rating) (place_or_first areas fields.area) p
      (leb-true 1 fields.node both.0, leb-true fields.node nodes both.1) (sym (ap parked_stated (cond-true _ _ _ yes)) ∙ is))
      (λ no. absurd (none p (sym (ap parked_stated (cond-false _ _ _ no)) ∙ is)))
      (cases_Bool (is_from_to 1 nodes fields.node))
    where
      none : (p : Parked) → None ≡ Some p → ⊥
      none p same = cc

  pub parked_in-nodes : (rows : List Record) → All (IsParkedWithin nodes) (parked_in nodes ratings areas rows)
  parked_in-nodes rows =
      all_filter_map (IsParkedWithin nodes) (λ r. parked_stated (parked_of nodes ratings areas r))
      (λ row p is. node_of_fields (parking_fields_of row) p is) rows
