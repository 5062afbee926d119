-- No weight and no toll that the tables state is above 100.000, and parks are in areas that are there.
use Rattle.std.proofs.Common.{◌≡◌, ⊎_elim, ℕ, zero, suc, ◌≤◌, ◌<◌, true, leb, Some, None, Option, Result, Ok, Err, cond, List, [], ◌∷◌, length}
use Rattle.std.proofs.Common.{refl, sym, ◌∙◌, ap, subst, arith}
use Rattle.std.specs.Prelude.{All, Bool, nat_eq, unwrap_or}
use Rattle.std.specs.List.{cons_option, filter_map}
use Rattle.std.specs.Map.{lookup}
use Rattle.std.specs.Option.{option_map}
use Rattle.std.specs.Str.{bytes_eq}
use Rattle.std.proofs.lemmas.Bool.{leb-true, cases_Bool, cond-true, cond-false}
use Rattle.std.proofs.lemmas.Option.{cond_some, option_and_then_some}
use Rattle.std.specs.List.{slice_split}
use Rattle.std.specs.Prelude.{◌==◌}
use Rattle.route_base.specs.Forms.{at_most, is_from_to, is_name, table_number_of, weight_of, thousandths_in}
use Rattle.route_base.specs.declared.limits.TheConstants.{HEAVIEST_WEIGHT, HIGHEST_TOLL}
use Rattle.table_reader.specs.NameIndex.{value_under}
use Rattle.network_tables.specs.Parking.{Parked, ParkingFields, parked_by, parked_in, parked_of, parked_stated, parked_with, parking_fields_of, place_or_first}
use Rattle.route_base.specs.declared.faults.Cause.{Cause}
use Rattle.table_reader.proofs.Lists.{position_within}
use Rattle.network_tables.specs.Ratings.{Rating, rating_of, ratings_in}
use Rattle.table_reader.specs.Records.{Record}
use Rattle.network_tables.specs.NetworkModel.{IsGoodParked}
use Rattle.network_tables.specs.Tolls.{Toll, toll_of, toll_for, tolls_in}

-- a weight is at most 100 for a minute
abbrev IsSmallWeight : Option ℕ → Type 0
IsSmallWeight o = (w : ℕ) → o ≡ Some w → w ≤ HEAVIEST_WEIGHT

at_most-small : (o : Option ℕ) → IsSmallWeight (at_most HEAVIEST_WEIGHT o)
at_most-small o w is = option_and_then_some (λ n. cond (leb n HEAVIEST_WEIGHT) (Some n) None) o w is (λ n _ within.
    let e : (leb n HEAVIEST_WEIGHT ≡ true) × (n ≡ w) = cond_some (leb n HEAVIEST_WEIGHT) n w within in
    omega (arith, leb-true n HEAVIEST_WEIGHT e.0, e.1))

-- a number with a small value beside it
paired-small : {K : Type 0} (k : K) (o : Option ℕ) (r : K × ℕ) → IsSmallWeight o → option_map (λ w. (k, w)) o ≡ Some r → r.1 ≤ HEAVIEST_WEIGHT
paired-small k None r small same = absurd (cc)
paired-small k (Some w) r small same =
    let e : (k, w) ≡ r = cc in
    subst (λ (q : _ × ℕ). q.1 ≤ HEAVIEST_WEIGHT) e (small w refl)

weight_of-small : (field : List ℕ) → IsSmallWeight (weight_of field)
weight_of-small field = at_most-small (thousandths_in (slice_split (λ b. b == 46) field))

rating_of-small : (row : Record) (r : Rating) → rating_of row ≡ Some r → r.1 ≤ HEAVIEST_WEIGHT
rating_of-small (name ∷ weight ∷ []) r is =
    ⊎_elim
    (λ yes. paired-small name (weight_of weight) r (weight_of-small weight) (sym (cond-true _ _ _ yes) ∙ is))
    (λ no. absurd (none (sym (cond-false _ _ _ no) ∙ is)))
    (cases_Bool (is_name name))
  where
    none : None ≡ Some r → ⊥
    none same = cc
rating_of-small [] r is = absurd (cc)
rating_of-small (name ∷ []) r is = absurd (cc)
rating_of-small (name ∷ weight ∷ more ∷ rest) r is = absurd (cc)

toll_of-small : (row : Record) (t : Toll) → toll_of row ≡ Some t → t.1 ≤ HEAVIEST_WEIGHT
toll_of-small (arc ∷ toll ∷ []) t is = option_and_then_some (λ a. option_map (λ x. (a, x)) (weight_of toll)) (table_number_of arc) t is
    (λ a _ same. paired-small a (weight_of toll) t (weight_of-small toll) same)
toll_of-small [] t is = absurd (cc)
toll_of-small (arc ∷ []) t is = absurd (cc)
toll_of-small (arc ∷ toll ∷ more ∷ rest) t is = absurd (cc)

-- what is found among values of rows that are small
found-small : {K : Type 0} (same : K → Bool) (entry_of : Record → Option (K × ℕ)) → ((row : Record) (e : K × ℕ) → entry_of row ≡ Some e → e.1 ≤ HEAVIEST_WEIGHT)
    → (rows : List Record) → IsSmallWeight (lookup same (filter_map entry_of rows))
found-small same entry_of small [] w is = absurd (cc)
found-small same entry_of small (row ∷ rows) w is = by_row (found-small same entry_of small rows w) (entry_of row) (small row) is
  where
    by_row : (lookup same (filter_map entry_of rows) ≡ Some w → w ≤ HEAVIEST_WEIGHT) → (o : Option (_ × ℕ)) → ((e : _ × ℕ) → o ≡ Some e → e.1 ≤ HEAVIEST_WEIGHT)
        → lookup same (cons_option o (filter_map entry_of rows)) ≡ Some w → w ≤ HEAVIEST_WEIGHT
    by_row more None one found = more found
    by_row more (Some e) one found =
        ⊎_elim
        (λ yes.
        let there : Some e.1 ≡ Some w = sym (cond-true _ _ _ yes) ∙ found in
        let here : e.1 ≡ w = cc in
        omega (arith, one e refl, here))
        (λ no. more (sym (cond-false _ _ _ no) ∙ found))
        (cases_Bool (same e.0))

value_under-small : (rows : List Record) (name : List ℕ) → IsSmallWeight (value_under (ratings_in rows) name)
value_under-small rows name = found-small (bytes_eq name) rating_of rating_of-small rows

-- no toll that rows state is above 100.000
pub tolls_in-small : (rows : List Record) (a : ℕ) → unwrap_or (toll_for (tolls_in rows) a) 0 ≤ HIGHEST_TOLL
tolls_in-small rows a = by (toll_for (tolls_in rows) a) (found-small (nat_eq a) toll_of toll_of-small rows)
  where
    by : (o : Option ℕ) → IsSmallWeight o → unwrap_or o 0 ≤ HIGHEST_TOLL
    by None small = omega arith
    by (Some x) small = omega (arith, small x refl)

-- each element of a list, where the first and the others are
pub all_cons : {X : Type 0} (P : X → Type 0) (x : X) (xs : List X) → P x → All P xs → All P (x ∷ xs)
all_cons P x xs p all zero d within = p
all_cons P x xs p all (suc k) d within = all k d (omega (arith, within))

-- each of the values that are there
pub all_filter_map : {X Y : Type 0} (P : Y → Type 0) (f : X → Option Y) → ((x : X) (y : Y) → f x ≡ Some y → P y) → (xs : List X) → All P (filter_map f xs)
all_filter_map P f each [] = λ k d within. absurd (omega (arith, within))
all_filter_map P f each (x ∷ xs) = here (f x) (each x) (all_filter_map P f each xs)
  where
    here : (o : Option _) → ((y : _) → o ≡ Some y → P y) → All P (filter_map f xs) → All P (cons_option o (filter_map f xs))
    here None one more = more
    here (Some y) one more = all_cons P y (filter_map f xs) (one y refl) more

-- a row of parking has a small weight, and an area that is there
module _ (nodes : ℕ) (rows : List Record) (areas : List (List ℕ)) (some : 0 < length areas) where
  within : (name : List ℕ) (i : ℕ) → place_or_first areas name ≡ Some i → i < length areas
  within [] i is = (let e : 0 ≡ i = ap (λ (o : Option ℕ). unwrap_or o 0) is in omega (arith, e, some))
  within (b ∷ name) i is = position_within (bytes_eq (b ∷ name)) areas i is

  good_parts : (fields : ParkingFields) (weight area : Option ℕ) (p : Parked) → IsSmallWeight weight → ((i : ℕ) → area ≡ Some i → i < length areas)
      → parked_stated (parked_with fields weight area) ≡ Some p → IsGoodParked (length areas) p
  good_parts fields None area p small there is = absurd (cc)
  good_parts fields (Some w) None p small there is = absurd (cc)
  good_parts fields (Some w) (Some a) p small there is =
      let first : Parked = (fields.node, record { weight = w; area = a; hours = fields.hours }) in
      let same : first ≡ p = ap (λ (o : Option Parked). unwrap_or o first) is in
      subst (IsGoodParked (length areas)) same (record { small = small w refl; placed = there a refl })

  good_fields : (read : Result ParkingFields Cause) (p : Parked) → parked_stated (parked_by nodes (ratings_in rows) areas read) ≡ Some p
      → IsGoodParked (length areas) p
  good_fields (Err cause) p is = absurd (cc)
  good_fields (Ok fields) p is =
      ⊎_elim
      (λ yes. good_parts fields (value_under (ratings_in rows) fields.rating) (place_or_first areas fields.area) p (value_under-small rows fields.rating)
      (within fields.area) (sym (ap parked_stated (cond-true _ _ _ yes)) ∙ is))
      (λ no. absurd (none p (sym (ap parked_stated (cond-false _ _ _ no)) ∙ is)))
      (cases_Bool (is_from_to 1 nodes fields.node))
    where
      none : (p : Parked) → None ≡ Some p → ⊥
      none p same = cc

  pub parked_in-good : (parked : List Record) → All (IsGoodParked (length areas)) (parked_in nodes (ratings_in rows) areas parked)
  parked_in-good parked =
      all_filter_map (IsGoodParked (length areas)) (λ r. parked_stated (parked_of nodes (ratings_in rows) areas r))
      (λ row p is. good_fields (parking_fields_of row) p is) parked
