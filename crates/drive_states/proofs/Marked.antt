-- What the marking of states keeps.
use Rattle.std.proofs.Common.{◌≡◌, ◌≢◌, ◌⊎◌, inl, inr, ⊎_elim, ℕ, suc, ◌+◌, ◌-◌, ◌*◌, ◌/◌, ◌%◌, ◌≤◌, ◌<◌, Some, None, List, [], ◌∷◌, ◌++◌, get_or}
use Rattle.std.proofs.Common.{refl, sym, ◌∙◌, ap, subst, arith}
use Rattle.std.specs.Prelude.{Contains}
use Rattle.std.specs.Int.{bit_at}
use Rattle.std.specs.Option.{option_map}
use Rattle.std.proofs.lemmas.Bool.{cases_eq, cases_lt}
use Rattle.std.proofs.lemmas.List.Elements.{Contains-push_cases}
use Rattle.std.proofs.lemmas.Map.Made.{Contains-tail}
use Rattle.std.proofs.lemmas.Nat.Bits.{bit_at-zero, bit_at-pow_other}
use Rattle.std.proofs.lemmas.Option.{same_Some}
use Rattle.route_base.specs.Setting.{Setting, Road}
use Rattle.route_base.specs.Net.{Net, IsGoodNet, IsGoodArc, at_number, road_of, setting_of}
use Rattle.route_base.specs.declared.types.ArcId.{ArcId}
use Rattle.route_base.specs.declared.types.TimedArc.{TimedArc}
use Rattle.route_base.specs.declared.types.Leg.{Leg}
use Rattle.route_base.specs.declared.types.Leg.TheVariants.{Drive, Wait}
use Rattle.route_base.specs.declared.limits.TheConstants.{DAY_MINUTES}
use Rattle.route_base.proofs.Numbered.{at_number-all}
use Rattle.route_base.proofs.Logic.{map_some}
use Rattle.node_arcs.specs.Stars.{EndsAt, AreOutgoing, Star, arcs_of}
use Rattle.node_arcs.specs.declared.links.End.TheVariants.{Tail}
use Rattle.drive_states.specs.StateSize.{IsState, first, by_drive, by_break, IsDeparture}
use Rattle.drive_states.specs.Inside.BitRows.{HasLater, HasMinute, TakesFresh, IsTrimmed, bit_of, row_of, sum_below}
use Rattle.drive_states.specs.Inside.StateMarks.{HasState, states_in, IsMarked, AreMarks, IsSettled, IsStateSettled, AreQueued, IsOpened, IsVisiting, IsPaid, TakesMarks, IsVisited}
use Rattle.drive_states.specs.Inside.StateSearch.{drives_over}
use Rattle.drive_states.specs.declared.marks.Marks.{Marks}
use Rattle.drive_states.specs.declared.rule.BreakRule.{BreakRule}
use Rattle.drive_states.specs.declared.rule.State.{State}
use Rattle.drive_states.proofs.BitWords.{bit-lt, bits_few}
use Rattle.drive_states.proofs.Found.{leaves_by}
use Rattle.drive_states.proofs.Sums.{sum_small, sum_changed, some_value, no_more}

-- an empty row has no minutes
pub no_bit : (r : ℕ) → bit_of [] r ≡ 0
unfolding bit_of
no_bit r = bit_at-zero (r % 64)

-- the row of one minute, 0
pub zero_start : HasMinute (1 ∷ []) 0
unfolding bit_of
zero_start = refl

pub one_start : (q : ℕ) → HasMinute (1 ∷ []) q → q ≡ 0
unfolding bit_of
one_start q has = ⊎_elim
    (λ (low : q < 64).
    (let place : q / 64 ≡ 0 = omega (arith, low) in
    let whole : q % 64 ≡ q = omega (arith, low) in
    let bit : bit_at 1 q ≡ 1 = sym (ap (λ (m : ℕ). bit_at (get_or (1 ∷ []) m 0) (q % 64)) place ∙ ap (λ (m : ℕ). bit_at 1 m) whole) ∙ has in
    ⊎_elim
    (λ (none : q ≡ 0). none)
    (λ (some : q ≡ 0 → ⊥). absurd (omega (arith, bit, bit_at-pow_other 0 q some)))
    (cases_eq q 0)))
    (λ (high : 64 ≤ q).
    (let place : q / 64 ≡ suc (q / 64 - 1) = omega (arith, high) in
    let bit : bit_at 0 (q % 64) ≡ 1 = sym (ap (λ (m : ℕ). bit_at (get_or (1 ∷ []) m 0) (q % 64)) place) ∙ has in
    absurd (omega (arith, bit, bit_at-zero (q % 64)))))
    (cases_lt q 64)

-- each node of a state is one of the net
pub node_within : (net : Net) (origin limit v r : ℕ) → IsGoodNet net → (1 ≤ origin) × (origin ≤ net.nodes) → IsState (setting_of net) origin limit v r
    → (1 ≤ v) × (v ≤ net.nodes)
node_within net origin limit v r good within first = within
node_within net origin limit v r good within (by_drive a before road is from low) =
    let found = map_some (at_number net.arcs a) road_of road is in
    let arc : IsGoodArc net found.0 = at_number-all (IsGoodArc net) net.arcs a found.0 good.each_arc found.1 in
    subst (λ (w : Road). (1 ≤ w.head) × (w.head ≤ net.nodes)) found.2 arc.head
node_within net origin limit v r good within (by_break w before weight is from) = node_within net origin limit w before good within from

pub driven_within : (s : Setting) (origin limit v r : ℕ) → IsState s origin limit v r → r ≤ limit
driven_within s origin limit v r first = omega arith
driven_within s origin limit v r (by_drive a before road is from low) = low
driven_within s origin limit v r (by_break w before weight is from) = omega arith

module _ (s : Setting) (origin : ℕ) (rule : BreakRule) where
  -- few marks
  pub marks_few : (marks : Marks) → rule.drive ≤ DAY_MINUTES → AreMarks s origin rule marks → marks.count ≤ 1441 * (s.nodes + 1)
  marks_few marks day facts = omega (
    arith,
    facts.count,
    sum_small (λ v. sum_below (bit_of (row_of marks.rows v)) (rule.drive + 1)) 1441 (s.nodes + 1)
        (λ v low. omega (arith, day, bits_few (row_of marks.rows v) (rule.drive + 1))),
  )

  -- some minutes are marked at a node
  module _ (old new : Marks) (h : ℕ) (from : List ℕ) (by : ℕ) (marked : IsMarked old new h from by rule.drive) where
    grown : (u r : ℕ) → HasMinute (row_of old.rows u) r → HasMinute (row_of new.rows u) r
    grown u r has = ⊎_elim
        (λ (here : u ≡ h). subst (λ (w : ℕ). HasMinute (row_of new.rows w) r) (sym here)
        (marked.takes.kept r (subst (λ (w : ℕ). HasMinute (row_of old.rows w) r) here has)))
        (λ (other : u ≡ h → ⊥). subst (λ (w : List ℕ). HasMinute w r) (sym (marked.others u other)) has)
        (cases_eq u h)

    not_less : (k : ℕ) → k < rule.drive + 1 → bit_of (row_of old.rows h) k ≤ bit_of (row_of new.rows h) k
    not_less k low = ⊎_elim
        (λ (has : bit_of (row_of old.rows h) k ≡ 1). omega (arith, has, marked.takes.kept k has))
        (λ (none : bit_of (row_of old.rows h) k ≡ 1 → ⊥). omega (arith, none, bit-lt (row_of old.rows h) k))
        (cases_eq (bit_of (row_of old.rows h) k) 1)

    none_fresh : marked.fresh ≡ 0 → (r : ℕ) → HasMinute (row_of new.rows h) r → HasMinute (row_of old.rows h) r
    none_fresh none r has = ⊎_elim
        (λ (was : HasMinute (row_of old.rows h) r). was)
        (λ (later : (q : ℕ) × HasMinute from q × (q + by ≡ r) × (r ≤ rule.drive)).
        sym (no_more (bit_of (row_of old.rows h)) (bit_of (row_of new.rows h)) (rule.drive + 1) not_less (omega (arith, marked.takes.count, none)) r
        (omega (arith, later.3))) ∙ has)
        (marked.takes.only r has)

    pub still_or_queued : (u : ℕ) → Contains new.queue u ⊎ ((r : ℕ) → HasMinute (row_of new.rows u) r → HasMinute (row_of old.rows u) r)
    still_or_queued u = ⊎_elim
        (λ (here : u ≡ h). ⊎_elim
        (λ (none : marked.fresh ≡ 0). inr (λ r has. subst (λ (w : ℕ). HasMinute (row_of old.rows w) r) (sym here)
        (none_fresh none r (subst (λ (w : ℕ). HasMinute (row_of new.rows w) r) here has))))
        (λ (some : marked.fresh ≡ 0 → ⊥). inl (subst (λ (w : ℕ). Contains new.queue w) (sym here) (marked.pushed (omega (arith, some)))))
        (cases_eq marked.fresh 0))
        (λ (other : u ≡ h → ⊥). inr (λ r has. subst (λ (w : List ℕ). HasMinute w r) (marked.others u other) has))
        (cases_eq u h)

    settled_still : (from : State) → IsStateSettled s rule old.rows from → IsStateSettled s rule new.rows from
    settled_still from is leg to departs = grown to.node.0 to.driven (is leg to departs)

    waits_still : (u : ℕ) → Contains old.queue u ⊎ ((r : ℕ) → HasMinute (row_of old.rows u) r → HasMinute (row_of old.done u) r)
        → Contains new.queue u ⊎ ((r : ℕ) → HasMinute (row_of new.rows u) r → HasMinute (row_of new.done u) r)
    waits_still u was = ⊎_elim
        (λ (queued : Contains new.queue u). inl queued)
        (λ (same : (r : ℕ) → HasMinute (row_of new.rows u) r → HasMinute (row_of old.rows u) r). ⊎_elim
        (λ (queued : Contains old.queue u). inl (marked.queued u queued))
        (λ (done : (r : ℕ) → HasMinute (row_of old.rows u) r → HasMinute (row_of old.done u) r).
        inr (λ r has. subst (λ (w : List (List ℕ)). HasMinute (row_of w u) r) (sym marked.done) (done r (same r has))))
        was)
        (still_or_queued u)

    pub facts_still : ((v r : ℕ) → HasMinute (row_of old.rows v) r → IsState s origin rule.drive v r) → HasMinute (row_of new.rows origin) 0
        → old.count ≡ states_in old.rows rule.drive s.nodes → ((v : ℕ) → Contains old.queue v → (r : ℕ) × HasMinute (row_of old.rows v) r)
        → ((q : ℕ) → HasMinute from q → q + by ≤ rule.drive → IsState s origin rule.drive h (q + by)) → h ≤ s.nodes → AreMarks s origin rule new
    facts_still each start count some sound within = record {
      each = λ v r has. ⊎_elim
          (λ (here : v ≡ h). subst (λ (w : ℕ). IsState s origin rule.drive w r) (sym here) (⊎_elim
          (λ (was : HasMinute (row_of old.rows h) r). each h r was)
          (λ (later : (q : ℕ) × HasMinute from q × (q + by ≡ r) × (r ≤ rule.drive)).
          subst (λ (w : ℕ). IsState s origin rule.drive h w) later.2 (sound later.0 later.1 (omega (arith, later.2, later.3))))
          (marked.takes.only r (subst (λ (w : ℕ). HasMinute (row_of new.rows w) r) here has))))
          (λ (other : v ≡ h → ⊥). each v r (subst (λ (w : List ℕ). HasMinute w r) (marked.others v other) has))
          (cases_eq v h);
      first = start;
      count = omega (
        arith,
        marked.count,
        count,
        sum_changed (λ v. sum_below (bit_of (row_of old.rows v)) (rule.drive + 1))
            (λ v. sum_below (bit_of (row_of new.rows v)) (rule.drive + 1)) h marked.fresh (s.nodes + 1) (omega (arith, within)) marked.takes.count
            (λ k other. ap (λ (w : List ℕ). sum_below (bit_of w) (rule.drive + 1)) (marked.others k other)),
      );
      some = λ v one. ⊎_elim
          (λ (was : Contains old.queue v). (let has = some v was in (has.0, grown v has.0 has.1)))
          (λ (here : (v ≡ h) × (0 < marked.fresh)).
          (let found = some_value (bit_of (row_of new.rows h)) (rule.drive + 1) (omega (arith, marked.takes.count, here.1)) in
          (found.0, subst (λ (w : ℕ). HasMinute (row_of new.rows w) found.0) (sym here.0) (omega (arith, found.2, bit-lt (row_of new.rows h) found.0)))))
          (marked.only v one);
    }

    pub stepped : (v : ℕ) (row : List ℕ) (since : ℕ) (seen : List Leg) (leg : Leg)
        → ((a b : State) → a.node.0 ≡ v → HasLater row since a.driven → IsDeparture s rule a leg b → HasState new.rows b)
        → ((q : ℕ) → HasMinute from q → q + by ≤ rule.drive → IsState s origin rule.drive h (q + by)) → h ≤ s.nodes
        → IsVisiting s origin rule v row since seen old → IsVisiting s origin rule v row since (seen ++ leg ∷ []) new
    stepped v row since seen leg taken sound within visiting = record {
      facts = facts_still visiting.facts.each (grown origin 0 visiting.facts.first) visiting.facts.count visiting.facts.some sound within;
      waits = λ u. waits_still u (visiting.waits u);
      settled = λ a has. ⊎_elim
          (λ (is : IsStateSettled s rule old.rows a). inl (settled_still a is))
          (λ (here : (a.node.0 ≡ v) × HasLater row since a.driven). inr here)
          (visiting.settled a (subst (λ (w : List (List ℕ)). HasState w a) marked.done has));
      here = λ a l b at has one departs. ⊎_elim
          (λ (was : Contains seen l). grown b.node.0 b.driven (visiting.here a l b at has was departs))
          (λ (is : leg ≡ l). taken a b at has (subst (λ (w : Leg). IsDeparture s rule a w b) (sym is) departs))
          (Contains-push_cases seen leg l one);
      within = λ r has. grown v r (visiting.within r has);
      some = (visiting.some.0, grown v visiting.some.0 visiting.some.1);
    }

    pub pays : IsPaid old new
    pays = omega (arith, marked.short, marked.count)

    -- the first marks
    pub first_queued : old.rows ≡ [] → old.done ≡ [] → old.queue ≡ [] → old.count ≡ 0 → h ≡ origin → from ≡ 1 ∷ [] → by ≡ 0 → h ≤ s.nodes → AreQueued s origin rule new
    first_queued rows done queue count at start now within =
        let none : (v r : ℕ) → HasMinute (row_of old.rows v) r → ⊥ = λ v r has.
        (let bit : bit_of [] r ≡ 1 = subst (λ (w : List (List ℕ)). HasMinute (row_of w v) r) rows has in omega (arith, bit, no_bit r)) in
        let zeros : states_in old.rows rule.drive s.nodes ≤ 0 * (s.nodes + 1) =
        sum_small (λ v. sum_below (bit_of (row_of old.rows v)) (rule.drive + 1)) 0 (s.nodes + 1) (λ v low.
        (let empty : sum_below (bit_of (row_of old.rows v)) (rule.drive + 1) ≤ 0 * (rule.drive + 1) =
        sum_small (bit_of (row_of old.rows v)) 0 (rule.drive + 1) (λ r below.
        omega (arith, no_bit r, ap (λ (w : List (List ℕ)). bit_of (row_of w v) r) rows)) in omega (arith, empty))) in
        record {
          facts = facts_still (λ v r has. absurd (none v r has))
              (subst (λ (w : ℕ). HasMinute (row_of new.rows w) 0) at (let low : 0 + by ≤ rule.drive = omega (arith, now) in
              let same : 0 + by ≡ 0 = omega (arith, now) in
              subst (λ (w : ℕ). HasMinute (row_of new.rows h) w) same
              (marked.takes.taken 0 (subst (λ (w : List ℕ). HasMinute w 0) (sym start) zero_start) low)))
              (omega (arith, count, zeros))
              (λ v one. absurd (omega (arith, (subst (λ (w : List ℕ). Contains w v) queue one).1)))
              (λ q has low. (let zero_is = one_start q (subst (λ (w : List ℕ). HasMinute w q) start has) in
              let same : 0 ≡ q + by = omega (arith, zero_is, now) in
              subst (λ (w : ℕ). IsState s origin rule.drive h w) same (subst (λ (w : ℕ). IsState s origin rule.drive w 0) (sym at) first)))
              within;
          waits = λ v. waits_still v (inr (λ r has. absurd (none v r has)));
          settled = λ a has. absurd (nothing a.node.0 a.driven (subst (λ (w : List (List ℕ)). HasState w a) (marked.done ∙ done) has));
        }
      where
        nothing : (v r : ℕ) → HasMinute (row_of [] v) r → ⊥
        nothing v r has = omega (arith, has, no_bit r)

  -- a leg that leads nowhere
  pub passed : (v : ℕ) (row : List ℕ) (since : ℕ) (leg : Leg) (marks : Marks) → ((a b : State) → a.node.0 ≡ v → IsDeparture s rule a leg b → ⊥)
      → TakesMarks s origin rule v row since leg marks marks
  passed v row since leg marks none = record {
    keeps = λ seen visiting. record {
      facts = visiting.facts;
      waits = visiting.waits;
      settled = visiting.settled;
      here = λ a l b at has one departs. ⊎_elim
          (λ (was : Contains seen l). visiting.here a l b at has was departs)
          (λ (is : leg ≡ l). absurd (none a b at (subst (λ (w : Leg). IsDeparture s rule a w b) (sym is) departs)))
          (Contains-push_cases seen leg l one);
      within = visiting.within;
      some = visiting.some;
    };
    paid = omega arith;
  }

  -- a node leaves the queue
  pub opened : (rows done : List (List ℕ)) (whole queue : List ℕ) (count v : ℕ) → whole ≡ v ∷ queue
      → AreQueued s origin rule (record { rows = rows; done = done; queue = whole; count = count })
      → IsOpened s origin rule v (record { rows = rows; done = done; queue = queue; count = count })
  opened rows done whole queue count v is queued = record {
    facts = record {
      each = queued.facts.each;
      first = queued.facts.first;
      count = queued.facts.count;
      some = λ u one. queued.facts.some u (subst (λ (w : List ℕ). Contains w u) (sym is) (suc one.0, omega (arith, one.1), one.2));
    };
    waits = λ u not_v. ⊎_elim
        (λ (one : Contains whole u). inl (Contains-tail v queue u (λ same. not_v (sym same)) (subst (λ (w : List ℕ). Contains w u) is one)))
        (λ (all : (r : ℕ) → HasMinute (row_of rows u) r → HasMinute (row_of done u) r). inr all)
        (queued.waits u);
    settled = queued.settled;
    some = queued.facts.some v (subst (λ (w : List ℕ). Contains w v) (sym is) (0, omega arith, refl));
  }

  -- its visit begins
  pub begun : (rows old done : List (List ℕ)) (queue : List ℕ) (count v : ℕ) (fresh row : List ℕ) (since : ℕ)
      → TakesFresh (row_of old v) (row_of done v) (row_of rows v) fresh → ((u : ℕ) → u ≢ v → row_of done u ≡ row_of old u) → IsTrimmed fresh row since
      → IsOpened s origin rule v (record { rows = rows; done = old; queue = queue; count = count })
      → IsVisiting s origin rule v row since [] (record { rows = rows; done = done; queue = queue; count = count })
  begun rows old done queue count v fresh row since takes others trimmed opened = record {
    facts = record {
      each = opened.facts.each;
      first = opened.facts.first;
      count = opened.facts.count;
      some = opened.facts.some;
    };
    waits = λ u. ⊎_elim
        (λ (here : u ≡ v). inr (subst (λ (w : ℕ). (r : ℕ) → HasMinute (row_of rows w) r → HasMinute (row_of done w) r) (sym here) takes.has))
        (λ (other : u ≡ v → ⊥). ⊎_elim
        (λ (queued : Contains queue u). inl queued)
        (λ (all : (r : ℕ) → HasMinute (row_of rows u) r → HasMinute (row_of old u) r).
        inr (λ r has. subst (λ (w : List ℕ). HasMinute w r) (sym (others u other)) (all r has)))
        (opened.waits u other))
        (cases_eq u v);
    settled = λ a has. ⊎_elim
        (λ (here : a.node.0 ≡ v). ⊎_elim
        (λ (was : HasMinute (row_of old v) a.driven). inl (opened.settled a (subst (λ (w : ℕ). HasMinute (row_of old w) a.driven) (sym here) was)))
        (λ (new : HasMinute fresh a.driven). inr (here, trimmed.found a.driven new))
        (takes.found a.driven (subst (λ (w : ℕ). HasMinute (row_of done w) a.driven) here has)))
        (λ (other : a.node.0 ≡ v → ⊥).
        inl (opened.settled a (subst (λ (w : List ℕ). HasMinute w a.driven) (others a.node.0 other) has)))
        (cases_eq a.node.0 v);
    here = λ a leg b at has one departs. absurd (omega (arith, one.1));
    within = λ r has. takes.within r (trimmed.within r has);
    some = opened.some;
  }

  -- all legs of the node were taken
  pub closed : (v : ℕ) (row : List ℕ) (since : ℕ) (seen : List Leg) (marks : Marks)
      → ((a : State) (leg : Leg) (b : State) → a.node.0 ≡ v → IsDeparture s rule a leg b → Contains seen leg)
      → IsVisiting s origin rule v row since seen marks → AreQueued s origin rule marks
  closed v row since seen marks all visiting = record {
    facts = visiting.facts;
    waits = visiting.waits;
    settled = λ a has. ⊎_elim
        (λ (is : IsStateSettled s rule marks.rows a). is)
        (λ (here : (a.node.0 ≡ v) × HasLater row since a.driven).
        λ leg b departs. visiting.here a leg b here.0 here.1 (all a leg b here.0 departs) departs)
        (visiting.settled a has);
  }

-- where nothing waits, all are settled
pub all_settled : (s : Setting) (origin : ℕ) (rule : BreakRule) (marks : Marks) → AreQueued s origin rule marks → ((v : ℕ) → Contains marks.queue v → ⊥)
    → (v : ℕ) → IsSettled s rule marks.rows v
all_settled s origin rule marks queued none v leg from to at has departs = ⊎_elim
    (λ (one : Contains marks.queue from.node.0). absurd (none from.node.0 one))
    (λ (all : (r : ℕ) → HasMinute (row_of marks.rows from.node.0) r → HasMinute (row_of marks.done from.node.0) r).
    queued.settled from (all from.driven has) leg to departs)
    (queued.waits from.node.0)

-- an arc is taken
pub drive_takes : (net : Net) (origin : ℕ) (rule : BreakRule) (v : ℕ) (row : List ℕ) (since : ℕ) (a : ArcId) (arc : TimedArc) (old new : Marks)
    → at_number net.arcs a.0 ≡ Some arc → EndsAt net Tail v a.0 → IsGoodArc net arc
    → IsMarked old new arc.head.0 row (since + arc.minutes) rule.drive → TakesMarks (setting_of net) origin rule v row since (Drive a) old new
drive_takes net origin rule v row since a arc old new is ends good marked =
    let s = setting_of net in
    let road : s.road a.0 ≡ Some (road_of arc) = ap (option_map road_of) is in
    let tail : arc.tail.0 ≡ v = some_same (sym (ap (option_map (λ (b : TimedArc). b.tail.0)) is) ∙ ends) in
    record {
      keeps = λ seen visiting. stepped s origin rule old new arc.head.0 row (since + arc.minutes) marked v row since seen (Drive a)
          (λ x y at has departs.
          (let same : departs.0 ≡ road_of arc = same_Some departs.0 (road_of arc) (sym departs.1 ∙ road) in
          let node : y.node.0 ≡ arc.head.0 = departs.4 ∙ ap (λ (w : Road). w.head) same in
          let minutes : departs.0.minutes ≡ arc.minutes = ap (λ (w : Road). w.minutes) same in
          let driven : y.driven ≡ has.0 + (since + arc.minutes) = omega (arith, departs.5, minutes, has.2) in
          subst (λ (w : ℕ). HasMinute (row_of new.rows w) y.driven) (sym node)
          (subst (λ (w : ℕ). HasMinute (row_of new.rows arc.head.0) w) (sym driven)
          (marked.takes.taken has.0 has.1 (omega (arith, departs.3, minutes, has.2))))))
          (λ q has low.
          (let whole : (q + since) + arc.minutes ≡ q + (since + arc.minutes) = omega arith in
          subst (λ (w : ℕ). IsState s origin rule.drive arc.head.0 w) whole (by_drive a.0 (q + since) (road_of arc) road
          (subst (λ (w : ℕ). IsState s origin rule.drive w (q + since)) (sym tail)
          (visiting.facts.each v (q + since) (visiting.within (q + since) (q, has, refl)))) (omega (arith, low)))))
          good.head.1 visiting;
      paid = pays s origin rule old new arc.head.0 row (since + arc.minutes) marked;
    }
  where
    some_same : {x y : ℕ} → Some x ≡ Some y → x ≡ y
    some_same same = cc

-- a break is taken
pub rest_takes : (net : Net) (origin : ℕ) (rule : BreakRule) (v weight : ℕ) (row : List ℕ) (since : ℕ) (old new : Marks)
    → (setting_of net).weight v ≡ Some weight → v ≤ net.nodes → IsMarked old new v (1 ∷ []) 0 rule.drive
    → TakesMarks (setting_of net) origin rule v row since (Wait rule.rest) old new
rest_takes net origin rule v weight row since old new is within marked =
    let s = setting_of net in
    record {
      keeps = λ seen visiting. stepped s origin rule old new v (1 ∷ []) 0 marked v row since seen (Wait rule.rest)
          (λ x y at has departs.
          subst (λ (w : ℕ). HasMinute (row_of new.rows w) y.driven) (sym (departs.3 ∙ at))
          (subst (λ (w : ℕ). HasMinute (row_of new.rows v) w) (sym departs.4) (marked.takes.taken 0 zero_start (omega arith))))
          (λ q has low. (let same : 0 ≡ q + 0 = omega (arith, one_start q has) in
          subst (λ (w : ℕ). IsState s origin rule.drive v w) same
          (by_break v visiting.some.0 weight is (visiting.facts.each v visiting.some.0 visiting.some.1))))
          within visiting;
      paid = pays s origin rule old new v (1 ∷ []) 0 marked;
    }

pub rest_passes : (net : Net) (origin : ℕ) (rule : BreakRule) (v : ℕ) (row : List ℕ) (since : ℕ) (marks : Marks) → (setting_of net).weight v ≡ None
    → TakesMarks (setting_of net) origin rule v row since (Wait rule.rest) marks marks
rest_passes net origin rule v row since marks none = passed (setting_of net) origin rule v row since (Wait rule.rest) marks
    (λ a b at departs. not_both (sym (ap (setting_of net).weight at ∙ none) ∙ departs.1.1))
  where
    not_both : {x : ℕ} → None ≡ Some x → ⊥
    not_both same = absurd (cc)

-- all legs of a node were taken
pub visited : (net : Net) (star : Star) (origin : ℕ) (rule : BreakRule) (v : ℕ) (row : List ℕ) (since : ℕ) (old mid new : Marks) → AreOutgoing net star
    → IsVisiting (setting_of net) origin rule v row since (drives_over (arcs_of star v)) mid → IsPaid old mid
    → TakesMarks (setting_of net) origin rule v row since (Wait rule.rest) mid new → IsVisited (setting_of net) origin rule old new
visited net star origin rule v row since old mid new outgoing visiting paid takes = record {
  queued = closed (setting_of net) origin rule v row since (drives_over (arcs_of star v) ++ Wait rule.rest ∷ []) new
      (λ a leg b at departs. subst (λ (w : ℕ). Contains (drives_over (arcs_of star w) ++ Wait rule.rest ∷ []) leg) at
      (leaves_by net star rule a leg b (outgoing a.node.0) departs))
      (takes.keeps (drives_over (arcs_of star v)) visiting);
  paid = omega (arith, paid, takes.paid);
}
