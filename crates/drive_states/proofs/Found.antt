-- What the search for all states keeps.
use Rattle.std.proofs.Common.{length-append, ◌≡◌, ◌≢◌, ◌⊎◌, inl, inr, ⊎_elim, ℕ, ◌+◌, ◌-◌, ◌≤◌, ◌<◌, Some, List, [], ◌∷◌, ◌++◌, length, map, get_or}
use Rattle.std.proofs.Common.{take, All, AllPairs, refl, sym, ◌∙◌, ap, subst, arith}
use Rattle.std.proofs.lemmas.Option.{same_Some}
use Rattle.std.specs.Prelude.{Contains}
use Rattle.std.proofs.lemmas.Bool.{cases_eq}
use Rattle.std.proofs.lemmas.List.{get_or-map, length-map, get_or_default, get_or-take, length-take-le}
use Rattle.std.proofs.lemmas.List.Elements.{All-push, All-map, Contains-append_left, Contains-push, Contains-push_cases}
use Rattle.std.proofs.lemmas.List.Quantifiers.{all_pairs_push}
use Rattle.route_base.specs.Setting.{Setting, Road}
use Rattle.route_base.specs.Net.{Net, at_number, road_of, setting_of}
use Rattle.route_base.specs.declared.types.ArcId.{ArcId}
use Rattle.route_base.specs.declared.types.TimedArc.{TimedArc}
use Rattle.node_arcs.specs.Stars.{EndsAt, AreArcs, AreOutgoing, Star, arcs_of}
use Rattle.node_arcs.specs.declared.links.End.TheVariants.{Tail}
use Rattle.std.specs.Option.{option_map}
use Rattle.route_base.specs.declared.types.Leg.{Leg}
use Rattle.route_base.specs.declared.types.Leg.TheVariants.{Drive, Wait}
use Rattle.route_base.proofs.Numbered.{number_within, no_number, at_number-next, at_number-all}
use Rattle.route_base.proofs.Logic.{map_some}
use Rattle.front_transport.proofs.Places.{at_left, at_either}
use Rattle.route_base.proofs.Mapped.{mapped}
use Rattle.front_transport.specs.declared.limits.TheConstants.{MOST_STATES}
use Rattle.drive_states.specs.StateSize.{IsState, first, by_drive, by_break, IsDeparture, Departure, HasTooManyStates}
use Rattle.drive_states.specs.Inside.StateSearch.{Grows, IsLegBefore, ComesBefore, HasWay, IsSoundWay, IsExploring, Reaches, TakesLeg, OverflowsAt, IsStart}
use Rattle.drive_states.specs.Inside.StateSearch.{drives_over}
use Rattle.drive_states.specs.declared.rule.BreakRule.{BreakRule}
use Rattle.drive_states.specs.declared.rule.State.{State}
use Rattle.drive_states.specs.declared.rule.Way.{Way}
use Rattle.drive_states.proofs.Counting.{number_in, fits_in}
use Rattle.drive_states.proofs.SameStates.{same_state}

-- a state keeps its number
pub grows_at : (old new : List State) (st : State) (i : ℕ) (x : State) → Grows old new st → at_number old i ≡ Some x → at_number new i ≡ Some x
grows_at old new st i x grows is = ⊎_elim
    (λ (same : new ≡ old). ap (λ (w : List State). at_number w i) same ∙ is)
    (λ (more : new ≡ old ++ st ∷ []). ap (λ (w : List State). at_number w i) more ∙ at_left old (st ∷ []) i x is)
    grows

grows_back : (old new : List State) (st : State) (i : ℕ) (x : State) → Grows old new st → i ≤ length old → at_number new i ≡ Some x → at_number old i ≡ Some x
grows_back old new st i x grows within is = ⊎_elim
    (λ (same : new ≡ old). ap (λ (w : List State). at_number w i) (sym same) ∙ is)
    (λ (more : new ≡ old ++ st ∷ []). ⊎_elim
    (λ (left : at_number old i ≡ Some x). left)
    (λ (right : (i ≡ length old + 1) × (st ≡ x)). absurd (omega (arith, right.0, within)))
    (at_either old st i x (ap (λ (w : List State). at_number w i) (sym more) ∙ is)))
    grows

grows_all : (P : State → Type 0) (old new : List State) (st : State) → Grows old new st → P st → All P old → All P new
grows_all P old new st grows one all = ⊎_elim
    (λ (same : new ≡ old). subst (λ (w : List State). All P w) (sym same) all)
    (λ (more : new ≡ old ++ st ∷ []). subst (λ (w : List State). All P w) (sym more) (All-push P old st all one))
    grows

grows_length : (old new : List State) (st : State) → Grows old new st → length new ≤ length old + 1
grows_length old new st grows = ⊎_elim
    (λ (same : new ≡ old). omega (arith, ap (λ (w : List State). length w) same))
    (λ (more : new ≡ old ++ st ∷ []). omega (arith, ap (λ (w : List State). length w) more, length-append old (st ∷ [])))
    grows

-- a leg leads to one state
departs_once : (s : Setting) (rule : BreakRule) (from : State) (leg : Leg) (to other : State) → IsDeparture s rule from leg to
    → IsDeparture s rule from leg other → to ≡ other
departs_once s rule from (Drive a) to other one two =
    let same : one.0 ≡ two.0 = same_Some one.0 two.0 (sym one.1 ∙ two.1) in
    same_state to other (one.4 ∙ ap (λ (w : Road). w.head) same ∙ sym two.4)
    (omega (arith, one.5, two.5, ap (λ (w : Road). w.minutes) same))
departs_once s rule from (Wait k) to other one two = same_state to other (one.3 ∙ sym two.3) (one.4 ∙ sym two.4)

-- the drives before an arc are over lower ones
pub drives_before : (arcs : List ArcId) (i : ℕ) (d : ArcId) → AllPairs (λ a b. a.0 < b.0) arcs → i < length arcs
    → All (λ l. IsLegBefore l (Drive (get_or arcs i d))) (drives_over (take i arcs))
drives_before arcs i d rising within = All-map (λ l. IsLegBefore l (Drive (get_or arcs i d))) (λ a. Drive a) (take i arcs)
    (λ k e inside. (let low : k < i = omega (arith, inside, length-take-le i arcs (omega (arith, within))) in
    subst (λ (w : ArcId). w.0 < (get_or arcs i d).0) (sym (get_or-take i arcs k e low ∙ get_or_default arcs k e d (omega (arith, low, within))))
    (rising k i d low within)))

-- a break comes after all drives
pub drives_first : (arcs : List ArcId) (k : ℕ) → All (λ l. IsLegBefore l (Wait k)) (drives_over arcs)
drives_first arcs k = All-map (λ l. IsLegBefore l (Wait k)) (λ a. Drive a) arcs (λ i d within. tt)

-- an arc at the state is a leg within the rule, where its minutes are
pub departs_by : (net : Net) (rule : BreakRule) (from : State) (a : ArcId) (arc : TimedArc) → at_number net.arcs a.0 ≡ Some arc
    → EndsAt net Tail from.node.0 a.0
    → from.driven + arc.minutes ≤ rule.drive
    → IsDeparture (setting_of net) rule from (Drive a) (record { node = arc.head; driven = from.driven + arc.minutes })
departs_by net rule from a arc is tail within =
    (road_of arc, ap (option_map road_of) is, some_same (sym (ap (option_map (λ (b : TimedArc). b.tail.0)) is) ∙ tail), within, refl, refl)
  where
    some_same : {x y : ℕ} → Some x ≡ Some y → x ≡ y
    some_same same = cc

abbrev depart : State → Leg → Departure
depart st leg = record { from = st; leg = leg }

not_itself : (leg : Leg) → IsLegBefore leg leg → ⊥
not_itself (Drive a) before = omega (arith, before)
not_itself (Wait k) before = before

-- each leg that leaves the state is over one of its arcs, or a break
pub leaves_by : (net : Net) (star : Star) (rule : BreakRule) (from : State) (leg : Leg) (to : State)
    → AreArcs (EndsAt net Tail from.node.0) (arcs_of star from.node.0)
    → IsDeparture (setting_of net) rule from leg to → Contains (drives_over (arcs_of star from.node.0) ++ Wait rule.rest ∷ []) leg
leaves_by net star rule from (Drive a) to are departs =
    let found = map_some (at_number net.arcs a.0) road_of departs.0 departs.1 in
    let tail : EndsAt net Tail from.node.0 a.0 =
    ap (option_map (λ (b : TimedArc). b.tail.0)) found.1 ∙ ap (λ (w : ℕ). Some w) (ap (λ (w : Road). w.tail) found.2 ∙ departs.2) in
    Contains-append_left (drives_over (arcs_of star from.node.0)) (Wait rule.rest ∷ []) (Drive a)
    (mapped (λ b. Drive b) (arcs_of star from.node.0) a (are.all a.0 tail))
leaves_by net star rule from (Wait k) to are departs =
    subst (λ (w : ℕ). Contains (drives_over (arcs_of star from.node.0) ++ Wait rule.rest ∷ []) (Wait w)) (sym departs.0)
    (Contains-push (drives_over (arcs_of star from.node.0)) (Wait rule.rest))

module _ (s : Setting) (origin : ℕ) (rule : BreakRule) where
  IsHere : State → Type 0
  IsHere st = IsState s origin rule.drive st.node.0 st.driven

  departs_to : (from : State) (leg : Leg) (to : State) → IsHere from → IsDeparture s rule from leg to → IsHere to
  unfolding IsHere
  departs_to from (Drive a) to here departs =
      let there : IsState s origin rule.drive departs.0.head (from.driven + departs.0.minutes) =
      by_drive a.0 from.driven departs.0 departs.1 (subst (λ (v : ℕ). IsState s origin rule.drive v from.driven) (sym departs.2) here) departs.3 in
      subst (λ (w : ℕ). IsState s origin rule.drive to.node.0 w) (sym departs.5)
      (subst (λ (w : ℕ). IsState s origin rule.drive w (from.driven + departs.0.minutes)) (sym departs.4) there)
  departs_to from (Wait k) to here departs =
      subst (λ (w : ℕ). IsState s origin rule.drive to.node.0 w) (sym departs.4)
      (subst (λ (w : ℕ). IsState s origin rule.drive w 0) (sym departs.3) (by_break from.node.0 from.driven departs.1.0 departs.1.1 here))

  module _ (n : ℕ) (seen : List Leg) (old new : List State) (before after : List Way) (from to : State) (leg : Leg)
      (facts : IsExploring s origin rule n seen old before) (at : at_number old n ≡ Some from) where
    has_still : (i : ℕ) (l : Leg) (st : State) → Reaches old new before after n to leg → HasWay old before i l st → HasWay new after i l st
    has_still i l st reaches has = record {
      way = has.way;
      is_one = subst (λ (w : List Way). Contains w has.way) (sym reaches.ways) (Contains-append_left before _ has.way has.is_one);
      from = has.from;
      by = has.by;
      at = grows_at old new to has.way.to st reaches.grows has.at;
    }

    -- a way more
    pub took : All (λ l. IsLegBefore l leg) seen → IsDeparture s rule from leg to → Reaches old new before after n to leg
        → IsExploring s origin rule n (seen ++ leg ∷ []) new after
    unfolding IsHere
    took rising departs reaches =
        let way : Way = record { from = n; to = reaches.number; leg = leg } in
        let here : IsHere from = at_number-all IsHere old n from facts.each_state at in
        record {
          first = facts.first;
          at_first = grows_at old new to 1 facts.first reaches.grows facts.at_first;
          first_node = facts.first_node;
          first_driven = facts.first_driven;
          few = omega (arith, facts.few, grows_length old new to reaches.grows, ap (λ (w : List Way). length w) reaches.ways, length-append before (way ∷ []));
          each_state = grows_all IsHere old new to reaches.grows (departs_to from leg to here departs) facts.each_state;
          each_way = subst (λ (w : List Way). All (IsSoundWay s rule new) w) (sym reaches.ways)
              (All-push (IsSoundWay s rule new) before way
              (λ k d within. (let sound = facts.each_way k d within in record {
                from = sound.from;
                at_from = grows_at old new to _ sound.from reaches.grows sound.at_from;
                to = sound.to;
                at_to = grows_at old new to _ sound.to reaches.grows sound.at_to;
                departs = sound.departs;
              }))
              (record { from = from; at_from = grows_at old new to n from reaches.grows at; to = to; at_to = reaches.at; departs = departs }));
          order = subst (λ (w : List Way). AllPairs ComesBefore w) (sym reaches.ways)
              (all_pairs_push ComesBefore before way facts.order (λ k d within. ⊎_elim
              (λ (early : (get_or before k d).from < n). inl early)
              (λ (same : ((get_or before k d).from ≡ n) × Contains seen (get_or before k d).leg).
              inr (same.0, subst (λ (l : Leg). IsLegBefore l leg) same.1.2 (rising same.1.0 (get_or before k d).leg same.1.1)))
              (facts.upto k d within)));
          upto = subst (λ (w : List Way). All (λ x. (x.from < n) ⊎ ((x.from ≡ n) × Contains (seen ++ leg ∷ []) x.leg)) w) (sym reaches.ways)
              (All-push (λ x. (x.from < n) ⊎ ((x.from ≡ n) × Contains (seen ++ leg ∷ []) x.leg)) before way
              (λ k d within. ⊎_elim
              (λ (early : (get_or before k d).from < n). inl early)
              (λ (same : ((get_or before k d).from ≡ n) × Contains seen (get_or before k d).leg). inr (same.0, Contains-append_left seen (leg ∷ []) _ same.1))
              (facts.upto k d within))
              (inr (refl, Contains-push seen leg)));
          done = λ i st l target early is departs'. has_still i l target reaches (facts.done i st l target early
              (grows_back old new to i st reaches.grows (omega (arith, early, (number_within old n from at).1)) is) departs');
          now = λ st l target one is departs'.
              (let is_from : from ≡ st = same_Some from st (sym (grows_at old new to n from reaches.grows at) ∙ is) in
              ⊎_elim
              (λ (was : Contains seen l). has_still n l target reaches
              (facts.now from l target was at (subst (λ (w : State). IsDeparture s rule w l target) (sym is_from) departs')))
              (λ (new_leg : leg ≡ l). (let same : to ≡ target = departs_once s rule from leg to target departs
              (subst (λ (w : Leg). IsDeparture s rule from w target) (sym new_leg)
              (subst (λ (w : State). IsDeparture s rule w l target) (sym is_from) departs')) in
              record {
                way = way;
                is_one = subst (λ (w : List Way). Contains w way) (sym reaches.ways) (Contains-push before way);
                from = refl;
                by = new_leg;
                at = reaches.at ∙ ap (λ (w : State). Some w) same;
              }))
              (Contains-push_cases seen leg l one));
        }

    -- a leg that can't be taken
    pub passed : ((st : State) → IsDeparture s rule from leg st → ⊥) → IsExploring s origin rule n (seen ++ leg ∷ []) old before
    passed none = record {
      first = facts.first;
      at_first = facts.at_first;
      first_node = facts.first_node;
      first_driven = facts.first_driven;
      few = facts.few;
      each_state = facts.each_state;
      each_way = facts.each_way;
      order = facts.order;
      upto = λ k d within. ⊎_elim
          (λ (early : (get_or before k d).from < n). inl early)
          (λ (same : ((get_or before k d).from ≡ n) × Contains seen (get_or before k d).leg). inr (same.0, Contains-append_left seen (leg ∷ []) _ same.1))
          (facts.upto k d within);
      done = facts.done;
      now = λ st l target one is departs.
          (let is_from : from ≡ st = same_Some from st (sym at ∙ is) in
          ⊎_elim
          (λ (was : Contains seen l). facts.now st l target was is departs)
          (λ (new_leg : leg ≡ l). absurd (none target (subst (λ (w : Leg). IsDeparture s rule from w target) (sym new_leg)
          (subst (λ (w : State). IsDeparture s rule w l target) (sym is_from) departs))))
          (Contains-push_cases seen leg l one));
    }

    -- all legs of the state were seen
    pub closed : ((l : Leg) (target : State) → IsDeparture s rule from l target → Contains seen l) → IsExploring s origin rule (n + 1) [] old before
    closed all = record {
      first = facts.first;
      at_first = facts.at_first;
      first_node = facts.first_node;
      first_driven = facts.first_driven;
      few = facts.few;
      each_state = facts.each_state;
      each_way = facts.each_way;
      order = facts.order;
      upto = λ k d within. ⊎_elim
          (λ (early : (get_or before k d).from < n). inl (omega (arith, early)))
          (λ (same : ((get_or before k d).from ≡ n) × Contains seen (get_or before k d).leg). inl (omega (arith, same.0)))
          (facts.upto k d within);
      done = λ i st l target early is departs. ⊎_elim
          (λ (same : i ≡ n).
          (let is_n : at_number old n ≡ Some st = ap (at_number old) (sym same) ∙ is in
          let is_from : from ≡ st = same_Some from st (sym at ∙ is_n) in
          subst (λ (w : ℕ). HasWay old before w l target) (sym same)
          (facts.now st l target (all l target (subst (λ (w : State). IsDeparture s rule w l target) (sym is_from) departs)) is_n departs)))
          (λ (other : i ≡ n → ⊥). facts.done i st l target (omega (arith, early, other)) is departs)
          (cases_eq i n);
      now = λ st l target one is departs. absurd (omega (arith, one.1));
    }

  -- more than 40,000,000 parts were found
  module _ (n : ℕ) (seen : List Leg) (states : List State) (ways : List Way) (facts : IsExploring s origin rule n seen states ways)
      (distinct : AllPairs (λ x y. x ≢ y) states) where
    pub departure : Way → Departure
    departure way = record { from = get_or states (way.from - 1) facts.first; leg = way.leg }

    pub at_departure : (way : Way) (st : State) → at_number states way.from ≡ Some st → get_or states (way.from - 1) facts.first ≡ st
    at_departure way st is =
        let inside = number_within states way.from st is in
        let next : way.from - 1 + 1 ≡ way.from = omega (arith, inside.0) in
        same_Some _ _ (sym (at_number-next states (way.from - 1) facts.first (omega (arith, inside.0, inside.1))) ∙ ap (at_number states) next ∙ is)

    apart_ways : (w v : Way) → IsSoundWay s rule states w → IsSoundWay s rule states v → ComesBefore w v → departure w ≡ departure v → ⊥
    unfolding departure
    apart_ways w v sound_w sound_v comes same =
        let low_w = number_within states w.from sound_w.from sound_w.at_from in
        let low_v = number_within states v.from sound_v.from sound_v.at_from in
        ⊎_elim
        (λ (early : w.from < v.from). distinct (w.from - 1) (v.from - 1) facts.first (omega (arith, early, low_w.0)) (omega (arith, low_v.0, low_v.1))
        (ap (λ (d : Departure). d.from) same))
        (λ (late : (w.from ≡ v.from) × IsLegBefore w.leg v.leg).
        not_itself w.leg (subst (λ (l : Leg). IsLegBefore w.leg l) (sym (ap (λ (d : Departure). d.leg) same)) late.1))
        comes

    pub too_large : MOST_STATES < length states + length ways → HasTooManyStates s origin rule
    unfolding departure IsHere
    too_large many = record {
      states = states;
      distinct = distinct;
      each = facts.each_state;
      departures = map departure ways;
      apart = λ i j d before within same.
          (let inside : j < length ways = omega (arith, within, length-map ways departure) in
          let e : Way = get_or ways i (record { from = 0; to = 0; leg = Wait 0 }) in
          apart_ways (get_or ways i e) (get_or ways j e) (facts.each_way i e (omega (arith, before, inside))) (facts.each_way j e inside)
          (facts.order i j e before inside)
          (sym (get_or-map departure ways i e d (omega (arith, before, inside))) ∙ same ∙ get_or-map departure ways j e d inside));
      each_departure = All-map (λ d. IsState s origin rule.drive d.from.node.0 d.from.driven × ((to : State) × IsDeparture s rule d.from d.leg to)) departure
          ways
          (λ k e within. (let sound = facts.each_way k e within in
          let is = at_departure (get_or ways k e) sound.from sound.at_from in (
            subst IsHere (sym is) (at_number-all IsHere states _ sound.from facts.each_state sound.at_from),
            (sound.to, subst (λ (w : State). IsDeparture s rule w (get_or ways k e).leg sound.to) (sym is) sound.departs),
          )));
      many = omega (arith, many, length-map ways departure);
    }

  -- a leg more, taken or not
  pub record IsFurther (n : ℕ) (seen : List Leg) (states : List State) (ways : List Way) (from : State) : Type 0 where
    pub at : at_number states n ≡ Some from
    pub facts : IsExploring s origin rule n seen states ways

  pub takes : (n : ℕ) (seen : List Leg) (old new : List State) (before after : List Way) (from : State) (leg : Leg)
      → IsExploring s origin rule n seen old before → at_number old n ≡ Some from → All (λ l. IsLegBefore l leg) seen
      → TakesLeg s rule old new before after n from leg → IsFurther n (seen ++ leg ∷ []) new after from
  takes n seen old new before after from leg facts at rising taken = ⊎_elim
      (λ (yes : (to : State) × IsDeparture s rule from leg to × Reaches old new before after n to leg). record {
        at = grows_at old new yes.0 n from yes.2.grows at;
        facts = took n seen old new before after from yes.0 leg facts at rising yes.1 yes.2;
      })
      (λ (none : (new ≡ old) × (after ≡ before) × ((to : State) → IsDeparture s rule from leg to → ⊥)). record {
        at = ap (λ (w : List State). at_number w n) none.0 ∙ at;
        facts = subst (λ (w : List State). IsExploring s origin rule n (seen ++ leg ∷ []) w after) (sym none.0)
            (subst (λ (w : List Way). IsExploring s origin rule n (seen ++ leg ∷ []) old w) (sym none.1)
            (passed n seen old new before after from from leg facts at none.2));
      })
      taken

  pub overflows : (n : ℕ) (seen : List Leg) (old new : List State) (before after : List Way) (from : State) (leg : Leg)
      → IsExploring s origin rule n seen old before → at_number old n ≡ Some from → All (λ l. IsLegBefore l leg) seen
      → OverflowsAt s rule old new before after n from leg → HasTooManyStates s origin rule
  overflows n seen old new before after from leg facts at rising over =
      too_large n (seen ++ leg ∷ []) new after (took n seen old new before after from over.0.0 leg facts at rising over.0.1 over.0.2) over.2 over.1

  -- all states and all ways were found
  module _ (states : List State) (ways : List Way) (facts : IsExploring s origin rule (length states + 1) [] states ways)
      (distinct : AllPairs (λ x y. x ≢ y) states) where
    pub record IsFound (v r : ℕ) : Type 0 where
      pub i : ℕ
      pub state : State
      pub at : at_number states i ≡ Some state
      pub node : state.node.0 ≡ v
      pub driven : state.driven ≡ r

    pub way_of : (i : ℕ) (from : State) (leg : Leg) (to : State) → at_number states i ≡ Some from → IsDeparture s rule from leg to → HasWay states ways i leg to
    way_of i from leg to is departs = facts.done i from leg to (omega (arith, (number_within states i from is).1)) is departs

    pub all_found : (v r : ℕ) → IsState s origin rule.drive v r → IsFound v r
    all_found v r first = record { i = 1; state = facts.first; at = facts.at_first; node = facts.first_node; driven = facts.first_driven }
    all_found v r (by_drive a before road is from within) =
        let was = all_found road.tail before from in
        let to : State = record { node = record { 0 = road.head }; driven = before + road.minutes } in
        let has = way_of was.i was.state (Drive (record { 0 = a })) to was.at
        (road, is, sym was.node, omega (arith, within, was.driven), refl, omega (arith, was.driven)) in
        record { i = has.way.to; state = to; at = has.at; node = refl; driven = refl }
    all_found v r (by_break at before weight is from) =
        let was = all_found at before from in
        ⊎_elim
        (λ (none : was.state.driven ≡ 0). record { i = was.i; state = was.state; at = was.at; node = was.node; driven = none })
        (λ (loaded : was.state.driven ≡ 0 → ⊥).
        (let to : State = record { node = record { 0 = at }; driven = 0 } in
        let has = way_of was.i was.state (Wait rule.rest) to was.at (refl, (weight, ap s.weight was.node ∙ is), loaded, sym was.node, refl) in
        record { i = has.way.to; state = to; at = has.at; node = refl; driven = refl }))
        (cases_eq was.state.driven 0)

  -- what was found is at least as much as any parts that there are
  module _ (states : List State) (ways : List Way) (facts : IsExploring s origin rule (length states + 1) [] states ways)
      (distinct : AllPairs (λ x y. x ≢ y) states) where
    in_states : (st : State) → IsState s origin rule.drive st.node.0 st.driven → Contains states st
    in_states st is =
        let found = all_found states ways facts distinct st.node.0 st.driven is in
        subst (λ (w : State). Contains states w) (same_state found.state st found.node found.driven) (number_in states found.i found.state found.at)

    made : Way → Departure
    made way = departure (length states + 1) [] states ways facts distinct way

    made_is : (way : Way) (st : State) (leg : Leg) → at_number states way.from ≡ Some st → way.leg ≡ leg → made way ≡ record { from = st; leg = leg }
    unfolding made departure
    made_is way st leg at by =
        ap (λ (w : State). depart w way.leg) (at_departure (length states + 1) [] states ways facts distinct way st at) ∙ ap (λ (w : Leg). depart st w) by

    in_departures : (d : Departure) → IsState s origin rule.drive d.from.node.0 d.from.driven → (to : State) → IsDeparture s rule d.from d.leg to
        → Contains (map made ways) d
    in_departures d here to departs =
        let found = all_found states ways facts distinct d.from.node.0 d.from.driven here in
        let same : found.state ≡ d.from = same_state found.state d.from found.node found.driven in
        let at : at_number states found.i ≡ Some d.from = found.at ∙ ap (λ (w : State). Some w) same in
        let has = way_of states ways facts distinct found.i d.from d.leg to at departs in
        subst (λ (w : Departure). Contains (map made ways) w) (made_is has.way d.from d.leg (ap (at_number states) has.from ∙ at) has.by)
        (mapped made ways has.way has.is_one)

    pub not_too_large : length states + length ways ≤ MOST_STATES → HasTooManyStates s origin rule → ⊥
    not_too_large small large =
        let less = fits_in large.states states large.distinct (λ st one. in_states st
        (subst (λ (w : State). IsState s origin rule.drive w.node.0 w.driven) one.2
        (large.each one.0 st one.1))) in
        let fewer = fits_in large.departures (map made ways) large.apart (λ d one.
        (let each = subst (λ (w : Departure). IsState s origin rule.drive w.from.node.0 w.from.driven × ((to : State) × IsDeparture s rule w.from w.leg to))
        one.2
        (large.each_departure one.0 d one.1) in
        in_departures d each.0 each.1.0 each.1.1)) in
        omega (arith, less, fewer, large.many, small, length-map ways made)

-- the state of this number has all its ways
pub left : (net : Net) (star : Star) (origin : ℕ) (rule : BreakRule) (n : ℕ) (mid new : List State) (before after : List Way) (from : State)
    → AreOutgoing net star → IsExploring (setting_of net) origin rule n (drives_over (arcs_of star from.node.0)) mid before → at_number mid n ≡ Some from
    → TakesLeg (setting_of net) rule mid new before after n from (Wait rule.rest) → IsExploring (setting_of net) origin rule (n + 1) [] new after
left net star origin rule n mid new before after from outgoing facts at taken =
    let arcs = arcs_of star from.node.0 in
    let on = takes (setting_of net) origin rule n (drives_over arcs) mid new before after from (Wait rule.rest) facts at (drives_first arcs rule.rest) taken in
    closed (setting_of net) origin rule n (drives_over arcs ++ Wait rule.rest ∷ []) new new after after from from (Wait rule.rest) on.facts on.at
    (λ leg to departs. leaves_by net star rule from leg to (outgoing from.node.0) departs)

pub left_over : (net : Net) (star : Star) (origin : ℕ) (rule : BreakRule) (n : ℕ) (mid new : List State) (before after : List Way) (from : State)
    → IsExploring (setting_of net) origin rule n (drives_over (arcs_of star from.node.0)) mid before → at_number mid n ≡ Some from
    → OverflowsAt (setting_of net) rule mid new before after n from (Wait rule.rest) → HasTooManyStates (setting_of net) origin rule
left_over net star origin rule n mid new before after from facts at over =
    overflows (setting_of net) origin rule n (drives_over (arcs_of star from.node.0)) mid new before after from (Wait rule.rest) facts at
    (drives_first (arcs_of star from.node.0) rule.rest) over

pub left_last : (net : Net) (star : Star) (origin : ℕ) (rule : BreakRule) (n : ℕ) (mid new : List State) (before after : List Way) (from : State)
    → IsExploring (setting_of net) origin rule n (drives_over (arcs_of star from.node.0)) mid before → at_number mid n ≡ Some from
    → TakesLeg (setting_of net) rule mid new before after n from (Wait rule.rest) → n ≤ length new
left_last net star origin rule n mid new before after from facts at taken =
    let on = takes (setting_of net) origin rule n (drives_over (arcs_of star from.node.0)) mid new before after from (Wait rule.rest) facts at
    (drives_first (arcs_of star from.node.0) rule.rest) taken in
    (number_within new n from on.at).1

-- the search begins with one state
one_state : (new : List State) (st : State) (i : ℕ) → Grows [] new st → at_number new i ≡ Some st → new ≡ st ∷ []
one_state new st i grows at = ⊎_elim
    (λ (same : new ≡ []). absurd (no_number i st (ap (λ (w : List State). at_number w i) (sym same) ∙ at)))
    (λ (one : new ≡ st ∷ []). one)
    grows

pub one_long : (origin : ℕ) (new : List State) → IsStart origin new → length new ≡ 1
one_long origin new start = ap (λ (w : List State). length w) (one_state new start.state start.number start.grows start.at)

pub started : (s : Setting) (origin : ℕ) (rule : BreakRule) (new : List State) → IsStart origin new → IsExploring s origin rule 1 [] new []
started s origin rule new start =
    let st : State = start.state in
    subst (λ (w : List State). IsExploring s origin rule 1 [] w []) (sym (one_state new st start.number start.grows start.at)) (record {
      first = st;
      at_first = refl;
      first_node = start.node;
      first_driven = start.none;
      few = omega arith;
      each_state = All-push (λ x. IsState s origin rule.drive x.node.0 x.driven) [] st (λ k d within. absurd (omega (arith, within)))
          (subst (λ (w : ℕ). IsState s origin rule.drive st.node.0 w) (sym start.none)
          (subst (λ (w : ℕ). IsState s origin rule.drive w 0) (sym start.node) first));
      each_way = λ k d within. absurd (omega (arith, within));
      order = λ k j d lt within. absurd (omega (arith, within));
      upto = λ k d within. absurd (omega (arith, within));
      done = λ k from leg to early is departs. absurd (omega (arith, early, (number_within (st ∷ []) k from is).0));
      now = λ from leg to one is departs. absurd (omega (arith, one.1));
    })
