-- Parks after one more row, and what a network says of them.
use Rattle.std.proofs.Common.{◌≡◌, ◌⊎◌, ⊎_elim, inl, inr, ℕ, zero, suc, ◌<◌, ◌≤◌, Bool, true, false, Option, Some, None, Ok}
use Rattle.std.proofs.Common.{List, [], ◌∷◌, ◌++◌, length, map, get_or, cond, refl, sym, ◌∙◌, ap, subst, arith}
use Rattle.std.specs.Prelude.{All, IsSome, nat_eq, unwrap_or, slice_get, if◌then◌else◌, is_some}
use Rattle.std.specs.List.{list_any}
use Rattle.std.specs.Map.{lookup}
use Rattle.std.specs.Option.{option_map}
use Rattle.std.specs.Str.{bytes_eq}
use Rattle.std.proofs.lemmas.Bool.{le-leb, le-ltb, cond-false, and_parts}
use Rattle.std.proofs.lemmas.Bool.Decides.{Decides-eqb}
use Rattle.std.proofs.lemmas.Slice.Eq.{bytes_eq-Decides}
use Rattle.std.proofs.lemmas.List.{map-append, length-map}
use Rattle.std.proofs.lemmas.List.Elements.{All-append}
use Rattle.std.proofs.lemmas.Map.Made.{lookup-map_values}
use Rattle.std.proofs.lemmas.Option.{slice_get-map, slice_get_within, slice_get-get_or, get_or_from_slice_get}
use Rattle.route_base.proofs.Items.{slice_get-append_left}
use Rattle.route_base.specs.declared.faults.Cause.{Cause}
use Rattle.route_base.specs.declared.faults.Cause.TheVariants.{Duplicate}
use Rattle.table_reader.specs.Refusals.{IfBadCause}
use Rattle.table_reader.specs.declared.faults.RowFault.{RowFault}
use Rattle.table_reader.specs.declared.faults.RowFault.TheVariants as faults
use Rattle.network_tables.specs.declared.parking.ParkingRow.{ParkingRow}
use Rattle.opening_hours.specs.declared.types.HoursRule.{HoursRule}
use Rattle.route_base.specs.declared.limits.TheConstants.{LONGEST_RULE}
use Rattle.opening_hours.specs.Reading.{hours_of}
use Rattle.table_reader.specs.NameIndex.{names_of, place_among, value_under}
use Rattle.table_reader.specs.Records.{Record}
use Rattle.table_reader.proofs.Lists.{filter_map-push, position-cons, position_within}
use Rattle.network_tables.specs.Ratings.{Rating}
use Rattle.network_tables.specs.contracts.parks.TimetablePlacePartialEq.TheImpl as code_place
use Rattle.network_tables.specs.Parking.{ParkRow, Parked, ParkingFields, cause_of_parking, hours_in_field, hours_or_cause, park_for, parked_in}
use Rattle.network_tables.specs.Parking.{parked_of, parked_stated, parking_fields_of, place_or_first}
use Rattle.network_tables.specs.NetworkModel.{NetworkModel, park_of}
use Rattle.network_tables.specs.Parks.{Timetable, ParkLists, HasTimetable, HaveTimetables, IsTimedIn, park_with, parks_with, timetable_at, timetable_with}
use Rattle.network_tables.specs.ParkRows.{AreThere, HaveParks, IsRead, IsTimetable, Keeps, ParkingSoFar, Puts, fields_with, hours_at, park_lists}
use Rattle.network_tables.specs.declared.parks.RatedNode.{RatedNode}
use Rattle.network_tables.specs.declared.parks.TimetablePlace.{TimetablePlace}

-- the row of a node in what a network holds
pub park_held : (parks : ParkLists) (v : ℕ)
    → lookup (nat_eq v) (parks_with parks) ≡ option_map (park_with parks.timetables) (lookup (nat_eq v) parks.rated)
park_held parks v = lookup-map_values (park_with parks.timetables) (nat_eq v) parks.rated

-- the row of a node of a network that has these parks
pub row_in : (network : NetworkModel) (parks : ParkLists) → parks_with parks ≡ network.parks → (v : ℕ) (node : Option RatedNode)
    → node ≡ lookup (nat_eq v) parks.rated
    → park_of network v ≡ option_map (park_with parks.timetables) node
row_in network parks same v node is =
    ap (λ (rows : List Parked). park_for rows v) (sym same) ∙ park_held parks v ∙ ap (option_map (park_with parks.timetables)) (sym is)

pub rated_there : (timetables : List Timetable) (node : Option RatedNode) (row : Option ParkRow) → row ≡ option_map (park_with timetables) node
    → IsSome row → IsSome node
rated_there timetables None row is there = absurd (let no : IsSome {T = ParkRow} None = subst IsSome is there in cc)
rated_there timetables (Some n) row is there = refl

-- the area of a timetable that is there
pub area_there : (areas : ℕ) (timetables : List Timetable) (k : ℕ) → All (IsTimedIn areas) timetables → k < length timetables
    → (timetable_at timetables k).area < areas
area_there areas timetables k all within =
    let d : Timetable = record { area = 0; hours = None } in
    let here : timetable_at timetables k ≡ get_or timetables k d =
    ap (λ (o : Option Timetable). unwrap_or o d) (slice_get-get_or timetables k d within) in
    subst (IsTimedIn areas) (sym here) (all k d within)

-- what holds of all elements holds of one that is there, and the other way round
pub all_there : {X : Type 0} (P : X → Type 0) (xs : List X) (i : ℕ) (x : X) → All P xs → slice_get xs i ≡ Some x → P x
all_there P xs i x all is = subst P (get_or_from_slice_get xs i x x is) (all i x (slice_get_within xs i x is))

pub keeps-same : {X : Type 0} (xs ys : List X) → ys ≡ xs → Keeps xs ys
keeps-same xs ys same i x is = ap (λ (zs : List _). slice_get zs i) same ∙ is

pub keeps-push : {X : Type 0} (xs more ys : List X) → ys ≡ xs ++ more → Keeps xs ys
keeps-push xs more ys same i x is =
    let within = slice_get_within xs i x is in
    ap (λ (zs : List _). slice_get zs i) same ∙ slice_get-append_left xs more i within ∙ is

-- a place below the length is still there
pub there_kept : (old new : List (List HoursRule)) → Keeps old new → (place : Option ℕ) → AreThere old place → AreThere new place
there_kept old new kept None there = tt
there_kept old new kept (Some i) there = slice_get_within new i _ (kept i _ (slice_get-get_or old i [] there))

hours_kept : (old new : List (List HoursRule)) → Keeps old new → (place : Option ℕ) → AreThere old place → hours_at new place ≡ hours_at old place
hours_kept old new kept None there = refl
hours_kept old new kept (Some i) there = kept i _ (slice_get-get_or old i [] there) ∙ sym (slice_get-get_or old i [] there)

timetable_kept : (areas : ℕ) (old new : List (List HoursRule)) → Keeps old new → (t : TimetablePlace) → IsTimetable areas old t
    → timetable_with new t ≡ timetable_with old t
timetable_kept areas old new kept t is = λ i. record { area = t.area; hours = hours_kept old new kept t.hours is.heard i }

-- a timetable that is there
module _ (areas : ℕ) (old new : List (List HoursRule)) (kept : Keeps old new) (places more : List TimetablePlace)
    (all : All (IsTimetable areas old) places) (stay : Keeps places more) where
  pub timetables_kept : Keeps (map (timetable_with old) places) (map (timetable_with new) more)
  timetables_kept k t is =
      let within : k < length places = omega (arith, slice_get_within (map (timetable_with old) places) k t is, length-map places (timetable_with old)) in
      let d : TimetablePlace = record { area = 0; hours = None } in
      let p : TimetablePlace = get_or places k d in
      let here : slice_get places k ≡ Some p = slice_get-get_or places k d within in
      let good : IsTimetable areas old p = all k d within in
      slice_get-map (timetable_with new) more k
      ∙ ap (option_map (timetable_with new)) (stay k p here)
      ∙ ap Some (timetable_kept areas old new kept p good)
      ∙ sym (ap (option_map (timetable_with old)) here)
      ∙ sym (slice_get-map (timetable_with old) places k)
      ∙ is

-- rows of nodes whose timetables stay
no_timetable : Timetable
no_timetable = record { area = 0; hours = None }

park_kept : (old new : List Timetable) → Keeps old new → (n : ℕ × RatedNode) → HasTimetable old n.1
    → ◌≡◌ {A = Parked} (n.0, park_with new n.1) (n.0, park_with old n.1)
park_kept old new kept n there =
    let here = slice_get-get_or old n.1.timetable (record { area = 0; hours = None }) there in
    let same : timetable_at new n.1.timetable ≡ timetable_at old n.1.timetable =
    ap (λ (o : Option Timetable). unwrap_or o (record { area = 0; hours = None })) (kept n.1.timetable _ here ∙ sym here) in
    λ i. (n.0, record { weight = n.1.weight; area = (same i).area; hours = (same i).hours })

all_head : {X : Type 0} (P : X → Type 0) (x : X) (xs : List X) → All P (x ∷ xs) → P x
all_head P x xs all = all 0 x (omega arith)

all_tail : {X : Type 0} (P : X → Type 0) (x : X) (xs : List X) → All P (x ∷ xs) → All P xs
all_tail P x xs all k d within = all (suc k) d (omega (arith, within))

map_same : {X Y : Type 0} (P : X → Type 0) (f g : X → Y) → ((x : X) → P x → f x ≡ g x) → (xs : List X) → All P xs → map f xs ≡ map g xs
map_same P f g same [] all = refl
map_same P f g same (x ∷ xs) all = λ i. same x (all_head P x xs all) i ∷ map_same P f g same xs (all_tail P x xs all) i

-- a table after one row more
module _ (start now : ParkingSoFar) (before : List Record) (row : Record) (h : HaveParks start now before)
    (hours : List (List HoursRule)) (kept : Keeps now.hours hours) where
  -- the hours that a table has beside its rows do no harm
  abbrev heard : ParkingSoFar
  heard = record { nodes = now.nodes; ratings = now.ratings; areas = now.areas; hours = hours; timetables = now.timetables; rated = now.rated }

  abbrev areas : ℕ
  areas = length start.areas

  still_timetable : (t : TimetablePlace) → IsTimetable areas now.hours t → IsTimetable areas hours t
  still_timetable t is = record { heard = there_kept now.hours hours kept t.hours is.heard; placed = is.placed }

  all_still : All (IsTimetable areas hours) now.timetables
  all_still k d within = still_timetable _ (h.timetables k d within)

  pub have_park : (new : ParkingSoFar) (node weight : ℕ) (place : TimetablePlace) → Puts heard new node weight place
      → IsTimetable areas hours place
      → parked_of start.nodes start.ratings (names_of start.areas) row
      ≡ Ok (node, record { weight = weight; area = place.area; hours = hours_at hours place.hours })
      → HaveParks start new (before ++ row ∷ [])
  have_park new node weight place put good stated =
      let rated2 : RatedNode = record { weight = weight; timetable = put.timetable } in
      let stay : Keeps now.timetables new.timetables =
      ⊎_elim (keeps-same now.timetables new.timetables) (keeps-push now.timetables (place ∷ []) new.timetables) put.timetables in
      let old : List Timetable = (park_lists now).timetables in
      let tables : List Timetable = map (timetable_with hours) new.timetables in
      let keeps : Keeps old tables = timetables_kept areas now.hours hours kept now.timetables new.timetables h.timetables stay in
      let lists : park_lists new ≡ record { rated = now.rated ++ (node, rated2) ∷ []; timetables = tables } =
      λ i. record { rated = put.rated i; timetables = map (timetable_with (put.hours i)) new.timetables } in
      let here : slice_get tables put.timetable ≡ Some (timetable_with hours place) =
      slice_get-map (timetable_with hours) new.timetables put.timetable ∙ ap (option_map (timetable_with hours)) put.there in
      let at : timetable_at tables put.timetable ≡ timetable_with hours place =
      ap (λ (o : Option Timetable). unwrap_or o (record { area = 0; hours = None })) here in
      let last : ◌≡◌ {A = Parked} (node, park_with tables rated2)
      (node, record { weight = weight; area = place.area; hours = hours_at hours place.hours }) =
      λ i. (node, record { weight = weight; area = (at i).area; hours = (at i).hours }) in
      let kept_rows : map (λ (n : ℕ × RatedNode). (n.0, park_with tables n.1)) now.rated ≡ parks_with (park_lists now) =
      map_same (λ n. HasTimetable old n.1) (λ n. (n.0, park_with tables n.1)) (λ n. (n.0, park_with old n.1)) (park_kept old tables keeps) now.rated h.timed in
      let timed : All (λ n. HasTimetable tables n.1) (now.rated ++ (node, rated2) ∷ []) =
      All-append (λ n. HasTimetable tables n.1) now.rated ((node, rated2) ∷ [])
      (λ k d within. let there = h.timed k d within in
      slice_get_within tables _ _ (keeps _ _ (slice_get-get_or old _ (record { area = 0; hours = None }) there)))
      (all_one (λ n. HasTimetable tables n.1) (node, rated2) (slice_get_within tables put.timetable _ here)) in
      record {
        nodes = put.nodes ∙ h.nodes;
        ratings = put.ratings ∙ h.ratings;
        areas = put.areas ∙ h.areas;
        some = h.some;
        stated =
            ap parks_with lists
            ∙ map-append (λ (n : ℕ × RatedNode). (n.0, park_with tables n.1)) now.rated ((node, rated2) ∷ [])
            ∙ ap (λ (rows : List Parked). rows ++ (node, park_with tables rated2) ∷ []) (kept_rows ∙ h.stated)
            ∙ ap (λ (r : Parked). parked_in start.nodes start.ratings (names_of start.areas) before ++ r ∷ []) last
            ∙ sym (filter_map-push (λ r. parked_stated (parked_of start.nodes start.ratings (names_of start.areas) r)) before row _ (ap parked_stated stated));
        timed = subst HaveTimetables (sym lists) timed;
        timetables =
            subst (λ (hs : List (List HoursRule)). All (IsTimetable areas hs) new.timetables) (sym put.hours)
            (⊎_elim
            (λ (same : new.timetables ≡ now.timetables). subst (All (IsTimetable areas hours)) (sym same) all_still)
            (λ (more : new.timetables ≡ now.timetables ++ place ∷ []). subst (All (IsTimetable areas hours)) (sym more)
            (All-append (IsTimetable areas hours) now.timetables (place ∷ []) all_still (all_one (IsTimetable areas hours) place good)))
            put.timetables);
      }
    where
      all_one : {X : Type 0} (P : X → Type 0) (x : X) → P x → All P (x ∷ [])
      all_one P x p zero d within = p
      all_one P x p (suc k) d within = absurd (omega (arith, within))

-- a field that has something is a text of hours
pub text_in_field : (text : List ℕ) → 0 < length text → length text ≤ LONGEST_RULE
    → hours_in_field text ≡ hours_or_cause (hours_of text)
text_in_field [] some few = absurd (omega (arith, some))
text_in_field (b ∷ text) some few = cond-false _ _ _ (le-ltb _ _ few)

-- the hours at the place of a text are its hours
step : (e : List ℕ × List HoursRule) (texts : List (List ℕ × List HoursRule)) (text : List ℕ) (b : Bool) (o : Option ℕ) (i : ℕ)
    → bytes_eq text e.0 ≡ b → cond b (Some 0) (option_map suc o) ≡ Some i → All IsRead (e ∷ texts)
    → ((j : ℕ) → o ≡ Some j → hours_in_field text ≡ Ok (slice_get (map (λ (x : List ℕ × List HoursRule). x.1) texts) j))
    → hours_in_field text ≡ Ok (slice_get (map (λ (x : List ℕ × List HoursRule). x.1) (e ∷ texts)) i)
step e texts text true o i same at read more =
    let here : text ≡ e.0 = (bytes_eq-Decides text e.0).0 same in
    let zero_is : 0 ≡ i = ap (λ (p : Option ℕ). unwrap_or p 0) at in
    subst (λ (n : ℕ). hours_in_field text ≡ Ok (slice_get (map (λ (x : List ℕ × List HoursRule). x.1) (e ∷ texts)) n)) zero_is
    (ap hours_in_field here ∙ all_head IsRead e texts read)
step e texts text false None i same at read more = absurd (cc)
step e texts text false (Some j) i same at read more =
    let next : suc j ≡ i = ap (λ (p : Option ℕ). unwrap_or p 0) at in
    subst (λ (n : ℕ). hours_in_field text ≡ Ok (slice_get (map (λ (x : List ℕ × List HoursRule). x.1) (e ∷ texts)) n)) next (more j refl)

pub text_there : (texts : List (List ℕ × List HoursRule)) (text : List ℕ) (i : ℕ) → All IsRead texts → place_among (names_of texts) text ≡ Some i
    → hours_in_field text ≡ Ok (slice_get (map (λ (x : List ℕ × List HoursRule). x.1) texts) i)
text_there [] text i read at = absurd (cc)
text_there (e ∷ texts) text i read at =
    step e texts text (bytes_eq text e.0) (place_among (names_of texts) text) i refl (sym (position-cons (bytes_eq text) e.0 (names_of texts)) ∙ at) read
    (λ j found. text_there texts text j (all_tail IsRead e texts read) found)

-- a row that is in its form, whose node, rating and area are known
pub row_stated : (nodes : ℕ) (ratings : List Rating) (areas : List (List ℕ)) (row : Record) (fields : ParkingFields) (weight area : ℕ)
    → parking_fields_of row ≡ Ok fields → 1 ≤ fields.node → fields.node ≤ nodes → value_under ratings fields.rating ≡ Some weight
    → place_or_first areas fields.area ≡ Some area
    → parked_of nodes ratings areas row ≡ Ok (fields.node, record { weight = weight; area = area; hours = fields.hours })
row_stated nodes ratings areas row fields weight area is low high rated placed =
    rw (is, le-leb 1 fields.node low, le-leb fields.node nodes high, rated, placed) refl

-- the place of an area is one of the areas
pub place_within : (areas : List (List ℕ × ℕ)) (name : List ℕ) (i : ℕ) → 0 < length areas → place_or_first (names_of areas) name ≡ Some i → i < length areas
place_within areas [] i some is = (let e : 0 ≡ i = ap (λ (o : Option ℕ). unwrap_or o 0) is in omega (arith, e, some))
place_within areas (b ∷ name) i some is =
    omega (arith, position_within (bytes_eq (b ∷ name)) (names_of areas) i is, length-map areas (λ (e : List ℕ × ℕ). e.0))

-- the node of a row that is added has none before
pub row_of_node : (start now : ParkingSoFar) (before : List Record) → HaveParks start now before → (node : ℕ)
    → park_for (parked_in start.nodes start.ratings (names_of start.areas) before) node
    ≡ option_map (park_with (park_lists now).timetables) (lookup (nat_eq node) now.rated)
row_of_node start now before h node = ap (λ (rows : List Parked). park_for rows node) (sym h.stated) ∙ park_held (park_lists now) node

-- a fact of causes that follows from another
pub weaker_cause : (e : RowFault) (P Q : Cause → Type 0) → ((cause : Cause) → P cause → Q cause) → IfBadCause e P → IfBadCause e Q
weaker_cause (faults.Bad cause) P Q more p = more cause p
weaker_cause faults.OutOfMemory P Q more p = tt

-- a row that is read under a table
module _ (now : ParkingSoFar) (row : Record) (hours : List (List HoursRule)) (kept : Keeps now.hours hours) (read : ParkingRow)
    (there : AreThere hours read.hours) (is : parking_fields_of row ≡ Ok (fields_with hours read)) (low : 1 ≤ read.node) (high : read.node ≤ now.nodes)
    (weight area : ℕ) (rated : value_under now.ratings read.rating.now ≡ Some weight)
    (placed : place_or_first (names_of now.areas) read.area.now ≡ Some area) where
  stated_now : parked_of now.nodes now.ratings (names_of now.areas) row
      ≡ Ok (read.node, record { weight = weight; area = area; hours = hours_at hours read.hours })
  stated_now = row_stated now.nodes now.ratings (names_of now.areas) row (fields_with hours read) weight area is low high rated placed

  module _ (start : ParkingSoFar) (before : List Record) (h : HaveParks start now before) where
    cause_is : cause_of_parking (parked_in now.nodes now.ratings (names_of now.areas) before) (parked_of now.nodes now.ratings (names_of now.areas) row)
        ≡ if is_some (option_map (park_with (park_lists now).timetables) (lookup (nat_eq read.node) now.rated)) then Some Duplicate else None
    cause_is =
        ap (cause_of_parking (parked_in now.nodes now.ratings (names_of now.areas) before)) stated_now
        ∙ (λ i. if is_some (park_for (parked_in (h.nodes i) (h.ratings i) (names_of (h.areas i)) before) read.node) then Some Duplicate else None)
        ∙ ap (λ (o : Option ParkRow). if is_some o then Some Duplicate else None) (row_of_node start now before h read.node)

    pub free_node : lookup (nat_eq read.node) now.rated ≡ None
        → cause_of_parking (parked_in now.nodes now.ratings (names_of now.areas) before) (parked_of now.nodes now.ratings (names_of now.areas) row) ≡ None
    free_node none =
        cause_is
        ∙ ap (λ (o : Option RatedNode). if is_some (option_map (park_with (park_lists now).timetables) o) then Some Duplicate else None) none

    pub taken_node : IsSome (lookup (nat_eq read.node) now.rated)
        → cause_of_parking (parked_in now.nodes now.ratings (names_of now.areas) before) (parked_of now.nodes now.ratings (names_of now.areas) row)
        ≡ Some Duplicate
    taken_node some = cause_is ∙ taken (lookup (nat_eq read.node) now.rated) some
      where
        taken : (o : Option RatedNode) → IsSome o
            → (if is_some (option_map (park_with (park_lists now).timetables) o) then Some Duplicate else None) ≡ Some Duplicate
        taken None some = absurd (cc)
        taken (Some x) some = refl

    pub added_node : (new : ParkingSoFar) → Puts (heard start now before row h hours kept) new read.node weight (record { area = area; hours = read.hours })
        → HaveParks start new (before ++ row ∷ [])
    added_node new put =
        have_park start now before row h hours kept new read.node weight (record { area = area; hours = read.hours }) put
        (record {
          heard = there;
          placed = place_within start.areas read.area.now area h.some
              (ap (λ (areas : List (List ℕ × ℕ)). place_or_first (names_of areas) read.area.now) (sym h.areas) ∙ placed);
        })
        (sym same_table ∙ stated_now)
      where
        same_table : parked_of now.nodes now.ratings (names_of now.areas) row ≡ parked_of start.nodes start.ratings (names_of start.areas) row
        same_table = λ i. parked_of (h.nodes i) (h.ratings i) (names_of (h.areas i)) row

-- the keys of a set with one key more, which is new or was there
pub inserted : (eq : TimetablePlace → TimetablePlace → Bool) (keys now : List TimetablePlace) (place : TimetablePlace)
    → now ≡ (if list_any (eq place) keys then keys else keys ++ place ∷ []) → (now ≡ keys) ⊎ (now ≡ keys ++ place ∷ [])
inserted eq keys now place is =
    elim (list_any (eq place) keys) as (λ b. now ≡ cond b keys (keys ++ place ∷ []) → (now ≡ keys) ⊎ (now ≡ keys ++ place ∷ [])) [
      | true ↦ λ same. inl same
      | false ↦ λ more. inr more
    ] is

-- places of timetables that the code finds equal are
abbrev code_option : Option ℕ → Option ℕ → Bool
code_option a b = (code_place.ghosts).eq (record { area = 0; hours = a }) (record { area = 0; hours = b })

same_option : (a b : Option ℕ) → code_option a b ≡ true → a ≡ b
same_option None None is = refl
same_option None (Some y) is = absurd (cc)
same_option (Some x) None is = absurd (cc)
same_option (Some x) (Some y) is = ap Some ((Decides-eqb x y).0 is)

place_of : ℕ → Option ℕ → TimetablePlace
place_of area hours = record { area = area; hours = hours }

pub same_place : (a b : TimetablePlace) → (code_place.ghosts).eq a b ≡ true → a ≡ b
unfolding place_of
same_place a b is =
    let both = and_parts _ _ is in
    ap (λ (n : ℕ). place_of n a.hours) ((Decides-eqb a.area b.area).0 both.0)
    ∙ ap (λ (o : Option ℕ). place_of b.area o) (same_option a.hours b.hours both.1)
