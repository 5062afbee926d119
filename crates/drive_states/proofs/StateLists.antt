-- The marked states, and the drives and breaks that leave them, as lists.
use Rattle.std.proofs.Common.{◌≡◌, ◌≢◌, ⊎_elim, ℕ, zero, suc, ◌+◌, ◌-◌, ◌≤◌, ◌<◌, Option, Some, None, List, [], ◌∷◌, ◌++◌, length, get_or, AllPairs}
use Rattle.std.proofs.Common.{refl, sym, ◌∙◌, ap, subst, arith, length-append}
use Rattle.std.specs.Prelude.{Contains}
use Rattle.std.proofs.lemmas.Bool.{cases_eq}
use Rattle.std.proofs.lemmas.List.{get_or_default}
use Rattle.std.proofs.lemmas.List.Elements.{Contains-append_left, Contains-append_right, Contains-append_cases, Contains-get_or}
use Rattle.std.proofs.lemmas.Option.{same_Some}
use Rattle.route_base.specs.Setting.{Setting, Road}
use Rattle.route_base.specs.Net.{Net, IsGoodNet, at_number, road_of, setting_of}
use Rattle.route_base.specs.declared.types.ArcId.{ArcId}
use Rattle.route_base.specs.declared.types.Leg.{Leg}
use Rattle.route_base.specs.declared.types.Leg.TheVariants.{Drive, Wait}
use Rattle.front_transport.specs.declared.limits.TheConstants.{MOST_STATES}
use Rattle.route_base.proofs.Logic.{map_some}
use Rattle.route_base.proofs.Numbered.{number_within}
use Rattle.drive_states.specs.StateSize.{IsState, first, by_drive, by_break, IsDeparture, Departure, HasTooManyStates}
use Rattle.drive_states.specs.Inside.BitRows.{HasMinute, bit_of, row_of, sum_below}
use Rattle.drive_states.specs.Inside.StateMarks.{drives_by, drives_in, rests_by, rests_in, AreMarks, IsSettled}
use Rattle.drive_states.specs.declared.marks.Marks.{Marks}
use Rattle.drive_states.specs.declared.rule.BreakRule.{BreakRule}
use Rattle.drive_states.specs.declared.rule.State.{State}
use Rattle.drive_states.proofs.BitWords.{bit-lt}
use Rattle.drive_states.proofs.Counting.{fits_in}
use Rattle.drive_states.proofs.Marked.{node_within, driven_within}
use Rattle.drive_states.proofs.SameStates.{same_state}
use Rattle.drive_states.proofs.Sums.{sum_same}

-- no item twice, by recursion
abbrev pub Distinct : {A : Type 0} → List A → Type 0
Distinct [] = Unit {0}
Distinct (x ∷ xs) = (Contains xs x → ⊥) × Distinct xs

pub apart : {A : Type 0} (xs : List A) → Distinct xs → AllPairs (λ x y. x ≢ y) xs
apart [] distinct i j d before within same = omega (arith, within)
apart (x ∷ xs) distinct i zero d before within same = omega (arith, before)
apart (x ∷ xs) distinct zero (suc j) d before within same =
    distinct.0 (j, omega (arith, within), get_or_default xs j x d (omega (arith, within)) ∙ sym same)
apart (x ∷ xs) distinct (suc i) (suc j) d before within same = apart xs distinct.1 i j d (omega (arith, before)) (omega (arith, within)) same

pub distinct_append : {A : Type 0} (xs ys : List A) → Distinct xs → Distinct ys → ((x : A) → Contains xs x → Contains ys x → ⊥) → Distinct (xs ++ ys)
distinct_append [] ys one two disjoint = two
distinct_append {A} (x ∷ xs) ys one two disjoint = (
  λ has. ⊎_elim (λ (left : Contains xs x). one.0 left) (λ (right : Contains ys x). disjoint x (0, omega arith, refl) right)
      (Contains-append_cases xs ys x has),
  distinct_append xs ys one.1 two (λ y left right. disjoint y (suc left.0, omega (arith, left.1), left.2) right),
)

-- lists behind one another
pub gathered : {A : Type 0} → (ℕ → List A) → ℕ → List A
gathered f zero = []
gathered f (suc n) = gathered f n ++ f n

module _ {A : Type 0} (f : ℕ → List A) where
  pub length_gathered : (n : ℕ) → length (gathered f n) ≡ sum_below (λ k. length (f k)) n
  unfolding gathered
  length_gathered zero = refl
  length_gathered (suc n) = omega (arith, length-append (gathered f n) (f n), length_gathered n)

  pub in_gathered : (n k : ℕ) (x : A) → k < n → Contains (f k) x → Contains (gathered f n) x
  unfolding gathered
  in_gathered zero k x low has = absurd (omega (arith, low))
  in_gathered (suc n) k x low has = ⊎_elim
      (λ (last : k ≡ n). Contains-append_right (gathered f n) (f n) x (subst (λ (w : ℕ). Contains (f w) x) last has))
      (λ (other : k ≡ n → ⊥). Contains-append_left (gathered f n) (f n) x (in_gathered n k x (omega (arith, low, other)) has))
      (cases_eq k n)

  pub of_gathered : (n : ℕ) (x : A) → Contains (gathered f n) x → (k : ℕ) × (k < n) × Contains (f k) x
  unfolding gathered
  of_gathered zero x has = absurd (omega (arith, has.1))
  of_gathered (suc n) x has = ⊎_elim
      (λ (left : Contains (gathered f n) x). (let found = of_gathered n x left in (found.0, omega (arith, found.1), found.2)))
      (λ (right : Contains (f n) x). (n, omega arith, right))
      (Contains-append_cases (gathered f n) (f n) x has)

  pub distinct_gathered : (key : A → ℕ) → ((k : ℕ) (x : A) → Contains (f k) x → key x ≡ k) → ((k : ℕ) → Distinct (f k)) → (n : ℕ) → Distinct (gathered f n)
  unfolding gathered
  distinct_gathered key keyed each zero = tt
  distinct_gathered key keyed each (suc n) = distinct_append (gathered f n) (f n) (distinct_gathered key keyed each n) (each n) (λ x left right.
      (let found = of_gathered n x left in omega (arith, found.1, keyed found.0 x found.2, keyed n x right)))

-- an item where the bit is set
pub kept : {A : Type 0} → ℕ → A → List A
kept zero x = []
kept (suc b) x = x ∷ []

module _ {A : Type 0} where
  length_kept : (b : ℕ) (x : A) → b < 2 → length (kept b x) ≡ b
  unfolding kept
  length_kept zero x low = refl
  length_kept (suc zero) x low = refl
  length_kept (suc (suc b)) x low = absurd (omega (arith, low))

  of_kept : (b : ℕ) (x y : A) → Contains (kept b x) y → (0 < b) × (x ≡ y)
  unfolding kept
  of_kept zero x y has = absurd (omega (arith, has.1))
  of_kept (suc b) x y (zero, within, is) = (omega arith, is)
  of_kept (suc b) x y (suc k, within, is) = absurd (omega (arith, within))

  in_kept : (b : ℕ) (x : A) → 0 < b → Contains (kept b x) x
  unfolding kept
  in_kept zero x some = absurd (omega (arith, some))
  in_kept (suc b) x some = (0, omega arith, refl)

  distinct_kept : (b : ℕ) (x : A) → Distinct (kept b x)
  unfolding kept
  distinct_kept zero x = tt
  distinct_kept (suc b) x = (λ has. omega (arith, has.1), tt)

-- the items of a row whose bits are set
pub row_list : {A : Type 0} → (ℕ → A) → (ℕ → ℕ) → ℕ → List A
row_list make bit n = gathered (λ r. kept (bit r) (make r)) n

module _ {A : Type 0} (make : ℕ → A) (bit : ℕ → ℕ) (low : (r : ℕ) → bit r < 2) where
  pub length_row : (n : ℕ) → length (row_list make bit n) ≡ sum_below bit n
  unfolding row_list
  length_row n = length_gathered (λ r. kept (bit r) (make r)) n
      ∙ sum_same (λ r. length (kept (bit r) (make r))) bit n (λ r below. length_kept (bit r) (make r) (low r))

  pub of_row : (n : ℕ) (x : A) → Contains (row_list make bit n) x → (r : ℕ) × (r < n) × (bit r ≡ 1) × (make r ≡ x)
  unfolding row_list
  of_row n x has =
      let found = of_gathered (λ r. kept (bit r) (make r)) n x has in
      let one = of_kept (bit found.0) (make found.0) x found.2 in
      (found.0, found.1, omega (arith, one.0, low found.0), one.1)

  pub in_row : (n r : ℕ) → r < n → bit r ≡ 1 → Contains (row_list make bit n) (make r)
  unfolding row_list
  in_row n r below set = in_gathered (λ r. kept (bit r) (make r)) n r (make r) below (in_kept (bit r) (make r) (omega (arith, set)))

  pub distinct_row : (place : A → ℕ) → ((r : ℕ) → place (make r) ≡ r) → (n : ℕ) → Distinct (row_list make bit n)
  unfolding row_list
  distinct_row place placed n = distinct_gathered (λ r. kept (bit r) (make r)) place
      (λ r x has. ap place (sym (of_kept (bit r) (make r) x has).1) ∙ placed r) (λ r. distinct_kept (bit r) (make r)) n

abbrev state_at : ℕ → ℕ → State
state_at v r = record { node = record { 0 = v }; driven = r }

abbrev depart : State → Leg → Departure
depart st leg = record { from = st; leg = leg }

abbrev arc_of : Leg → ℕ
arc_of (Drive a) = a.0
arc_of (Wait k) = 0

module _ (s : Setting) (origin : ℕ) (rule : BreakRule) (marks : Marks) (facts : AreMarks s origin rule marks) where
  B : ℕ
  B = rule.drive

  bits : ℕ → ℕ → ℕ
  bits v = bit_of (row_of marks.rows v)

  states_at : ℕ → List State
  states_at v = row_list (state_at v) (bit_of (row_of marks.rows v)) (rule.drive + 1)

  drives_over_road : ℕ → Option Road → List Departure
  drives_over_road a None = []
  drives_over_road a (Some road) = row_list (λ r. depart (state_at road.tail r) (Drive (record { 0 = a }))) (bit_of (row_of marks.rows road.tail))
      (rule.drive + 1 - road.minutes)

  rests_with : ℕ → Option ℕ → List Departure
  rests_with v None = []
  rests_with v (Some weight) = row_list (λ r. depart (state_at v (suc r)) (Wait rule.rest)) (λ r. bit_of (row_of marks.rows v) (suc r)) rule.drive

  states : List State
  states = gathered states_at (s.nodes + 1)

  drives : List Departure
  drives = gathered (λ a. drives_over_road a (s.road a)) (s.arcs + 1)

  rests : List Departure
  rests = gathered (λ v. rests_with v (s.weight v)) (s.nodes + 1)

  low_bit : (v r : ℕ) → bit_of (row_of marks.rows v) r < 2
  low_bit v r = bit-lt (row_of marks.rows v) r

  -- as many as were counted
  length_drives : (a : ℕ) (road : Option Road) → length (drives_over_road a road) ≡ drives_by marks.rows rule.drive road
  unfolding drives_over_road
  length_drives a None = refl
  length_drives a (Some road) = length_row (λ r. depart (state_at road.tail r) (Drive (record { 0 = a }))) (bit_of (row_of marks.rows road.tail))
      (low_bit road.tail) (rule.drive + 1 - road.minutes)

  length_rests : (v : ℕ) (weight : Option ℕ) → length (rests_with v weight) ≡ rests_by marks.rows rule.drive v weight
  unfolding rests_with
  length_rests v None = refl
  length_rests v (Some weight) = length_row (λ r. depart (state_at v (suc r)) (Wait rule.rest)) (λ r. bit_of (row_of marks.rows v) (suc r))
      (λ r. low_bit v (suc r)) rule.drive

  counted : length states + length (drives ++ rests) ≡ marks.count + drives_in s marks.rows rule.drive + rests_in s marks.rows rule.drive
  unfolding states drives rests states_at
  counted = omega (
    arith,
    facts.count,
    length-append drives rests,
    length_gathered states_at (s.nodes + 1),
    sum_same (λ v. length (states_at v)) (λ v. sum_below (bit_of (row_of marks.rows v)) (rule.drive + 1)) (s.nodes + 1)
        (λ v below. length_row (state_at v) (bit_of (row_of marks.rows v)) (low_bit v) (rule.drive + 1)),
    length_gathered (λ a. drives_over_road a (s.road a)) (s.arcs + 1),
    sum_same (λ a. length (drives_over_road a (s.road a)))
        (λ a. drives_by marks.rows rule.drive (s.road a)) (s.arcs + 1) (λ a below. length_drives a (s.road a)),
    length_gathered (λ v. rests_with v (s.weight v)) (s.nodes + 1),
    sum_same (λ v. length (rests_with v (s.weight v)))
        (λ v. rests_by marks.rows rule.drive v (s.weight v)) (s.nodes + 1) (λ v below. length_rests v (s.weight v)),
  )

  -- what is listed
  record IsDrive (a : ℕ) (road : Option Road) (d : Departure) : Type 0 where
    over : Road
    is : road ≡ Some over
    r : ℕ
    within : r < rule.drive + 1 - over.minutes
    set : HasMinute (row_of marks.rows over.tail) r
    same : depart (state_at over.tail r) (Drive (record { 0 = a })) ≡ d

  of_drives : (a : ℕ) (road : Option Road) (d : Departure) → Contains (drives_over_road a road) d → IsDrive a road d
  unfolding drives_over_road
  of_drives a None d has = absurd (omega (arith, has.1))
  of_drives a (Some road) d has =
      let found = of_row (λ r. depart (state_at road.tail r) (Drive (record { 0 = a }))) (bit_of (row_of marks.rows road.tail)) (low_bit road.tail)
      (rule.drive + 1 - road.minutes) d has in
      record { over = road; is = refl; r = found.0; within = found.1; set = found.2; same = found.3 }

  record IsRest (v : ℕ) (weight : Option ℕ) (d : Departure) : Type 0 where
    cost : ℕ
    is : weight ≡ Some cost
    r : ℕ
    set : HasMinute (row_of marks.rows v) (suc r)
    same : depart (state_at v (suc r)) (Wait rule.rest) ≡ d

  of_rests : (v : ℕ) (weight : Option ℕ) (d : Departure) → Contains (rests_with v weight) d → IsRest v weight d
  unfolding rests_with
  of_rests v None d has = absurd (omega (arith, has.1))
  of_rests v (Some weight) d has =
      let found = of_row (λ r. depart (state_at v (suc r)) (Wait rule.rest)) (λ r. bit_of (row_of marks.rows v) (suc r)) (λ r. low_bit v (suc r)) rule.drive d has in
      record { cost = weight; is = refl; r = found.0; set = found.2; same = found.3 }

  distinct_drives : (a : ℕ) (road : Option Road) → Distinct (drives_over_road a road)
  unfolding drives_over_road
  distinct_drives a None = tt
  distinct_drives a (Some road) = distinct_row (λ r. depart (state_at road.tail r) (Drive (record { 0 = a }))) (bit_of (row_of marks.rows road.tail))
      (low_bit road.tail) (λ d. d.from.driven) (λ r. refl) (rule.drive + 1 - road.minutes)

  distinct_rests : (v : ℕ) (weight : Option ℕ) → Distinct (rests_with v weight)
  unfolding rests_with
  distinct_rests v None = tt
  distinct_rests v (Some weight) = distinct_row (λ r. depart (state_at v (suc r)) (Wait rule.rest)) (λ r. bit_of (row_of marks.rows v) (suc r))
      (λ r. low_bit v (suc r)) (λ d. d.from.driven - 1) (λ r. omega arith) rule.drive

  all_states : Distinct states
  unfolding states states_at
  all_states = distinct_gathered states_at (λ st. st.node.0)
      (λ v x has. ap (λ (w : State). w.node.0) (sym (of_row (state_at v) (bit_of (row_of marks.rows v)) (low_bit v) (rule.drive + 1) x has).3))
      (λ v. distinct_row (state_at v) (bit_of (row_of marks.rows v)) (low_bit v) (λ st. st.driven) (λ r. refl) (rule.drive + 1)) (s.nodes + 1)

  is_drive : (d : Departure) → Contains drives d → (a : ℕ) × IsDrive a (s.road a) d
  unfolding drives
  is_drive d has = let found = of_gathered (λ a. drives_over_road a (s.road a)) (s.arcs + 1) d has in (found.0, of_drives found.0 (s.road found.0) d found.2)

  is_rest : (d : Departure) → Contains rests d → (v : ℕ) × IsRest v (s.weight v) d
  unfolding rests
  is_rest d has = let found = of_gathered (λ v. rests_with v (s.weight v)) (s.nodes + 1) d has in (found.0, of_rests found.0 (s.weight found.0) d found.2)

  drive_is_no_wait : (a : ArcId) (k : ℕ) → Drive a ≡ Wait k → ⊥
  drive_is_no_wait a k same = cc

  all_departures : Distinct (drives ++ rests)
  unfolding drives rests
  all_departures = distinct_append drives rests
      (distinct_gathered (λ a. drives_over_road a (s.road a)) (λ d. arc_of d.leg)
      (λ a d has. ap (λ (w : Departure). arc_of w.leg) (sym (of_drives a (s.road a) d has).same)) (λ a. distinct_drives a (s.road a)) (s.arcs + 1))
      (distinct_gathered (λ v. rests_with v (s.weight v)) (λ d. d.from.node.0)
      (λ v d has. ap (λ (w : Departure). w.from.node.0) (sym (of_rests v (s.weight v) d has).same)) (λ v. distinct_rests v (s.weight v)) (s.nodes + 1))
      (λ d one two. drive_is_no_wait _ _ (ap (λ (w : Departure). w.leg) ((is_drive d one).1.same ∙ sym (is_rest d two).1.same)))

  IsLeaving : Departure → Type 0
  IsLeaving d = IsState s origin rule.drive d.from.node.0 d.from.driven × ((to : State) × IsDeparture s rule d.from d.leg to)

  leaves : (d : Departure) → Contains (drives ++ rests) d → IsLeaving d
  unfolding IsLeaving
  leaves d has = ⊎_elim
      (λ (left : Contains drives d).
      (let found = is_drive d left in
      subst IsLeaving found.1.same (
        facts.each found.1.over.tail found.1.r found.1.set,
        (
          state_at found.1.over.head (found.1.r + found.1.over.minutes),
          (found.1.over, found.1.is, refl, omega (arith, found.1.within), refl, refl),
        ),
      )))
      (λ (right : Contains rests d).
      (let found = is_rest d right in
      subst IsLeaving found.1.same (
        facts.each found.0 (suc found.1.r) found.1.set,
        (state_at found.0 0, (refl, (found.1.cost, found.1.is), λ none. absurd (omega (arith, none)), refl, refl)),
      )))
      (Contains-append_cases drives rests d has)

  -- more than the most were counted
  pub many_counted : MOST_STATES < marks.count + drives_in s marks.rows rule.drive + rests_in s marks.rows rule.drive → HasTooManyStates s origin rule
  unfolding IsLeaving states states_at
  many_counted many = record {
    states = states;
    distinct = apart states all_states;
    each = λ k d within.
        (let found = of_gathered states_at (s.nodes + 1) (get_or states k d) (Contains-get_or states k d within) in
        let one = of_row (state_at found.0) (bit_of (row_of marks.rows found.0)) (low_bit found.0) (rule.drive + 1) (get_or states k d) found.2 in
        subst (λ (st : State). IsState s origin rule.drive st.node.0 st.driven) one.3 (facts.each found.0 one.0 one.2));
    departures = drives ++ rests;
    apart = apart (drives ++ rests) all_departures;
    each_departure = λ k d within. leaves (get_or (drives ++ rests) k d) (Contains-get_or (drives ++ rests) k d within);
    many = omega (arith, many, counted);
  }

  -- each state is marked
  pub all_marked : ((v : ℕ) → IsSettled s rule marks.rows v) → (v r : ℕ) → IsState s origin rule.drive v r → HasMinute (row_of marks.rows v) r
  all_marked settled v r first = facts.first
  all_marked settled v r (by_drive a before road is from low) =
      settled road.tail (Drive (record { 0 = a })) (state_at road.tail before) (state_at road.head (before + road.minutes)) refl
      (all_marked settled road.tail before from) (road, is, refl, low, refl, refl)
  all_marked settled v r (by_break w before weight is from) = ⊎_elim
      (λ (none : before ≡ 0). subst (λ (m : ℕ). HasMinute (row_of marks.rows w) m) none (all_marked settled w before from))
      (λ (some : before ≡ 0 → ⊥). settled w (Wait rule.rest) (state_at w before) (state_at w 0) refl (all_marked settled w before from)
      (refl, (weight, is), some, refl, refl))
      (cases_eq before 0)

  in_drives : (a r : ℕ) (road : Option Road) (over : Road) → road ≡ Some over → r + over.minutes ≤ rule.drive → HasMinute (row_of marks.rows over.tail) r
      → Contains (drives_over_road a road) (depart (state_at over.tail r) (Drive (record { 0 = a })))
  unfolding drives_over_road
  in_drives a r None over is low set = absurd (cc)
  in_drives a r (Some road) over is low set =
      subst (λ (w : Road). Contains (drives_over_road a (Some road)) (depart (state_at w.tail r) (Drive (record { 0 = a })))) (same_Some road over is)
      (in_row (λ k. depart (state_at road.tail k) (Drive (record { 0 = a }))) (bit_of (row_of marks.rows road.tail)) (low_bit road.tail)
      (rule.drive + 1 - road.minutes) r (omega (arith, low, ap (λ (w : Road). w.minutes) (same_Some road over is)))
      (subst (λ (w : Road). HasMinute (row_of marks.rows w.tail) r) (sym (same_Some road over is)) set))

  in_rests : (v r weight : ℕ) (o : Option ℕ) → o ≡ Some weight → (r ≡ 0 → ⊥) → r ≤ rule.drive → HasMinute (row_of marks.rows v) r
      → Contains (rests_with v o) (depart (state_at v r) (Wait rule.rest))
  unfolding rests_with
  in_rests v r weight None is some low set = absurd (cc)
  in_rests v zero weight (Some w) is some low set = absurd (some refl)
  in_rests v (suc r) weight (Some w) is some low set =
      in_row (λ k. depart (state_at v (suc k)) (Wait rule.rest)) (λ k. bit_of (row_of marks.rows v) (suc k)) (λ k. low_bit v (suc k)) rule.drive r
      (omega (arith, low)) set

-- no more than the most were counted
module _ (net : Net) (origin : ℕ) (rule : BreakRule) (marks : Marks) (good : IsGoodNet net) (inside : (1 ≤ origin) × (origin ≤ net.nodes))
    (facts : AreMarks (setting_of net) origin rule marks) (settled : (v : ℕ) → IsSettled (setting_of net) rule marks.rows v) where
  s : Setting
  s = setting_of net

  abbrev list_of_states : List State
  list_of_states = states (setting_of net) origin rule marks facts

  in_states : (st : State) → IsState (setting_of net) origin rule.drive st.node.0 st.driven → Contains (states (setting_of net) origin rule marks facts) st
  unfolding states states_at
  in_states st is =
      let node = node_within net origin rule.drive st.node.0 st.driven good inside is in
      let driven = driven_within (setting_of net) origin rule.drive st.node.0 st.driven is in
      subst (λ (w : State). Contains (gathered (states_at (setting_of net) origin rule marks facts) (net.nodes + 1)) w)
      (same_state (state_at st.node.0 st.driven) st refl refl)
      (in_gathered (states_at (setting_of net) origin rule marks facts) (net.nodes + 1) st.node.0 (state_at st.node.0 st.driven) (omega (arith, node.1))
      (in_row (state_at st.node.0) (bit_of (row_of marks.rows st.node.0)) (low_bit (setting_of net) origin rule marks facts st.node.0) (rule.drive + 1) st.driven
      (omega (arith, driven)) (all_marked (setting_of net) origin rule marks facts settled st.node.0 st.driven is)))

  in_departures : (from : State) (leg : Leg) (to : State) → IsState (setting_of net) origin rule.drive from.node.0 from.driven
      → IsDeparture (setting_of net) rule from leg to
      → Contains (drives (setting_of net) origin rule marks facts ++ rests (setting_of net) origin rule marks facts) (depart from leg)
  unfolding drives rests
  in_departures from (Drive a) to is departs =
      let found = map_some (at_number net.arcs a.0) road_of departs.0 departs.1 in
      let within = number_within net.arcs a.0 found.0 found.1 in
      Contains-append_left (drives (setting_of net) origin rule marks facts) (rests (setting_of net) origin rule marks facts) (depart from (Drive a))
      (in_gathered (λ k. drives_over_road (setting_of net) origin rule marks facts k ((setting_of net).road k)) (length net.arcs + 1) a.0 (depart from (Drive a))
      (omega (arith, within.1))
      (subst (λ (w : State). Contains (drives_over_road (setting_of net) origin rule marks facts a.0 ((setting_of net).road a.0)) (depart w (Drive a)))
      (same_state (state_at departs.0.tail from.driven) from departs.2 refl)
      (in_drives (setting_of net) origin rule marks facts a.0 from.driven ((setting_of net).road a.0) departs.0 departs.1 departs.3
      (subst (λ (w : ℕ). HasMinute (row_of marks.rows w) from.driven) (sym departs.2)
      (all_marked (setting_of net) origin rule marks facts settled from.node.0 from.driven is)))))
  in_departures from (Wait k) to is departs =
      let node = node_within net origin rule.drive from.node.0 from.driven good inside is in
      let driven = driven_within (setting_of net) origin rule.drive from.node.0 from.driven is in
      Contains-append_right (drives (setting_of net) origin rule marks facts) (rests (setting_of net) origin rule marks facts) (depart from (Wait k))
      (subst (λ (w : ℕ). Contains (rests (setting_of net) origin rule marks facts) (depart from (Wait w))) (sym departs.0)
      (in_gathered (λ v. rests_with (setting_of net) origin rule marks facts v ((setting_of net).weight v)) (net.nodes + 1) from.node.0
      (depart from (Wait rule.rest)) (omega (arith, node.1))
      (subst (λ (w : State). Contains (rests_with (setting_of net) origin rule marks facts from.node.0 ((setting_of net).weight from.node.0))
      (depart w (Wait rule.rest)))
      (same_state (state_at from.node.0 from.driven) from refl refl)
      (in_rests (setting_of net) origin rule marks facts from.node.0 from.driven departs.1.0 ((setting_of net).weight from.node.0) departs.1.1 departs.2 driven
      (all_marked (setting_of net) origin rule marks facts settled from.node.0 from.driven is)))))

  pub few_counted : marks.count + drives_in (setting_of net) marks.rows rule.drive + rests_in (setting_of net) marks.rows rule.drive ≤ MOST_STATES
      → HasTooManyStates (setting_of net) origin rule → ⊥
  few_counted few large =
      let all_of : List State = states (setting_of net) origin rule marks facts in
      let all_legs : List Departure = drives (setting_of net) origin rule marks facts ++ rests (setting_of net) origin rule marks facts in
      let less = fits_in large.states all_of large.distinct (λ st one. in_states st
      (subst (λ (w : State). IsState (setting_of net) origin rule.drive w.node.0 w.driven) one.2 (large.each one.0 st one.1))) in
      let fewer = fits_in large.departures all_legs large.apart (λ d one.
      (let each = subst (λ (w : Departure). IsState (setting_of net) origin rule.drive w.from.node.0 w.from.driven
      × ((to : State) × IsDeparture (setting_of net) rule w.from w.leg to)) one.2 (large.each_departure one.0 d one.1) in
      in_departures d.from d.leg each.1.0 each.0 each.1.1)) in
      omega (arith, less, fewer, large.many, few, counted (setting_of net) origin rule marks facts)
