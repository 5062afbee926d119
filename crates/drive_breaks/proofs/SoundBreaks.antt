-- A walk over states is a lawful itinerary that keeps the rule.
use Rattle.std.proofs.Common.{◌≡◌, ◌⊎◌, inl, inr, ⊎_elim, ℕ, ◌+◌, Some, None, List, [], ◌∷◌, ◌++◌, length, replicate, refl, sym, ◌∙◌, ap, subst, arith}
use Rattle.std.proofs.lemmas.Option.{same_Some}
use Rattle.route_base.specs.Setting.{Setting}
use Rattle.route_base.specs.Itinerary.{Position, Step, drive, wait, Moves, Walks}
use Rattle.route_base.specs.Legs.{steps_of_leg}
use Rattle.route_base.specs.Net.{at_number}
use Rattle.route_base.specs.declared.types.Leg.{Leg}
use Rattle.route_base.proofs.Numbered.{number_within}
use Rattle.route_base.proofs.Waiting.{same_position, waits}
use Rattle.route_base.proofs.Walking.{walk-append}
use Rattle.drive_breaks.specs.Rested.{minutes_of}
use Rattle.drive_breaks.specs.Inside.WithinRule.{IsWithinRuleFrom}
use Rattle.drive_breaks.specs.Inside.StateNet.{IsDriveWay, IsBreakWay, IsStateNet}
use Rattle.drive_breaks.specs.Inside.Unpacking.{steps_by, unpacked}
use Rattle.drive_states.specs.declared.rule.BreakRule.{BreakRule}
use Rattle.drive_states.specs.declared.rule.State.{State}
use Rattle.drive_breaks.proofs.Since.{HasSince, has_first, has_drive, has_wait, has_break, within_since, rested_waits, minutes_is}

abbrev pub at_place : ℕ → Position → Position
at_place node p = record { node = node; minute = p.minute; cost = p.cost }

module _ (s z : Setting) (rule : BreakRule) (origin goal : ℕ) (states : List State) (sources : List Leg) (made : IsStateNet s z rule origin goal states sources)
    (until : ℕ) where
  -- the position over states is a state at this position, and so many minutes were driven
  pub record IsAt (big p : Position) (back : List Step) : Type 0 where
    pub state : State
    pub is : at_number states big.node ≡ Some state
    pub node : p.node ≡ state.node.0
    pub minute : p.minute ≡ big.minute
    pub cost : p.cost ≡ big.cost
    pub since : HasSince s.road rule back state.driven

  -- the walk over states goes on to the node behind all states: so do its steps to the goal
  pub record GoesOn (xs : List Step) (last p : Position) (back : List Step) : Type 0 where
    pub walk : Walks s until (unpacked sources xs) p (record { node = goal; minute = last.minute; cost = last.cost })
    pub rested : IsWithinRuleFrom s.road rule back (unpacked sources xs)

  -- no state has the number behind all states
  past_end : (state : State) → at_number states (length states + 1) ≡ Some state → ⊥
  past_end state is = omega (arith, number_within states (length states + 1) state is)

  -- nothing leads on from the node behind all states
  stops : (x : Step) (p q : Position) → p.node ≡ length states + 1 → Moves z until x p q → ⊥
  stops (drive x) p q at move =
      let way = made.ways x move.road move.is in
      past_end way.from (ap (at_number states) (sym (move.tail ∙ at)) ∙ way.tail)
  stops wait p q at move = absurd (none_some move.weight (sym made.end ∙ ap z.weight (sym at) ∙ move.rated))
    where
      none_some : (w : ℕ) → None ≡ Some w → ⊥
      none_some w is = cc

  ended : (xs : List Step) (p q : Position) → p.node ≡ length states + 1 → Walks z until xs p q → (xs ≡ []) × (p ≡ q)
  ended [] p q at walk = (refl, walk)
  ended (x ∷ xs) p q at walk = absurd (stops x p walk.0 at walk.1)

  -- the steps of one step over states
  step_of : Step → List Step
  step_of (drive x) = steps_by (at_number sources x)
  step_of wait = wait ∷ []

  unpacked_cons : (x : Step) (xs : List Step) → unpacked sources (x ∷ xs) ≡ step_of x ++ unpacked sources xs
  unfolding step_of
  unpacked_cons (drive x) xs = refl
  unpacked_cons wait xs = refl

  -- what one step over states is in the net
  record Stepped (x : Step) (next p : Position) (back : List Step) : Type 0 where
    pub ys : List Step
    pub is_step : step_of x ≡ ys
    pub q : Position
    pub walk : Walks s until ys p q
    pub minute : q.minute ≡ next.minute
    pub cost : q.cost ≡ next.cost
    pub behind : List Step
    pub rested : (zs : List Step) → IsWithinRuleFrom s.road rule behind zs → IsWithinRuleFrom s.road rule back (ys ++ zs)
    pub to : IsAt next q behind ⊎ ((next.node ≡ length states + 1) × (q.node ≡ goal))

  same_state : (big p : Position) (back : List Step) (at : IsAt big p back) (i : ℕ) (from : State) → i ≡ big.node → at_number states i ≡ Some from
      → from ≡ at.state
  same_state big p back at i from same is = same_Some from at.state (sym is ∙ ap (at_number states) same ∙ at.is)

  by_drive : (x : ℕ) (big next p : Position) (back : List Step) (at : IsAt big p back) (move : Moves z until (drive x) big next) (from : State) (leg : Leg)
      → from ≡ at.state → at_number sources x ≡ Some leg → IsDriveWay s z rule goal states from x move.road leg → Stepped (drive x) next p back
  unfolding step_of
  by_drive x big next p back at move from leg same source way =
      let a : ℕ = way.arc.0 in
      let minutes : minutes_of (s.road a) ≡ way.over.minutes = minutes_is (s.road a) way.over way.is in
      let driven_is : from.driven ≡ at.state.driven = ap (λ (w : State). w.driven) same in
      record {
        ys = drive a ∷ [];
        is_step = ap steps_by source ∙ ap steps_of_leg way.is_leg;
        q = record { node = way.over.head; minute = next.minute; cost = next.cost };
        walk = (
          record { node = way.over.head; minute = next.minute; cost = next.cost },
          record {
            road = way.over;
            is = way.is;
            tail = way.tail ∙ ap (λ (w : State). w.node.0) same ∙ sym at.node;
            is_open = λ t early late. sym (way.shut t) ∙ move.is_open t (omega (arith, early, at.minute)) (omega (arith, late, at.minute, way.minutes));
            in_time = omega (arith, move.in_time, way.minutes, at.minute);
            node = refl;
            minute = omega (arith, move.minute, way.minutes, at.minute);
            cost = omega (arith, move.cost, way.cost, at.cost);
          },
          refl,
        );
        minute = refl;
        cost = refl;
        behind = drive a ∷ back;
        rested = λ zs rest. (
          within_since s.road rule back at.state.driven (minutes_of (s.road a)) at.since (omega (arith, way.within, driven_is, minutes)),
          rest,
        );
        to = ⊎_elim
            (λ (inner : (to : State) × (at_number states move.road.head ≡ Some to) × (to.node.0 ≡ way.over.head)
            × (to.driven ≡ from.driven + way.over.minutes)).
            inl (record {
              state = inner.0;
              is = ap (at_number states) move.node ∙ inner.1;
              node = sym inner.2;
              minute = refl;
              cost = refl;
              since = subst (HasSince s.road rule (drive a ∷ back)) (omega (arith, inner.3, driven_is, minutes))
                  (has_drive s.road rule back at.state.driven a at.since);
            }))
            (λ (end : (move.road.head ≡ length states + 1) × (way.over.head ≡ goal)). inr (move.node ∙ end.0, end.1))
            way.head;
      }

  by_break : (x : ℕ) (big next p : Position) (back : List Step) (at : IsAt big p back) (move : Moves z until (drive x) big next) (from : State) (leg : Leg)
      → from ≡ at.state → at_number sources x ≡ Some leg → IsBreakWay s z rule states from x move.road leg → Stepped (drive x) next p back
  unfolding step_of
  by_break x big next p back at move from leg same source way =
      record {
        ys = replicate rule.rest wait;
        is_step = ap steps_by source ∙ ap steps_of_leg way.is_leg;
        q = at_place p.node next;
        walk = subst (λ (w : Position). Walks s until (replicate rule.rest wait) p w)
            (same_position _ (at_place p.node next) refl (omega (arith, move.minute, way.minutes, at.minute))
            (ap (λ (n : ℕ). p.cost + n) (sym way.cost) ∙ ap (λ (n : ℕ). n + move.road.cost) at.cost ∙ sym move.cost))
            (waits s until rule.rest p.node p.minute p.cost way.weight
            (ap s.weight (at.node ∙ ap (λ (w : State). w.node.0) (sym same)) ∙ way.rated)
            (λ u early late. ap (λ (v : ℕ). s.wait_shut v u) (at.node ∙ ap (λ (w : State). w.node.0) (sym same)) ∙ sym (way.shut u)
            ∙ move.is_open u (omega (arith, early, at.minute)) (omega (arith, late, at.minute, way.minutes)))
            (omega (arith, move.in_time, way.minutes, at.minute)));
        minute = refl;
        cost = refl;
        behind = replicate rule.rest wait ++ back;
        rested = λ zs rest. rested_waits s.road rule rule.rest back zs rest;
        to = inl (record {
          state = way.to;
          is = ap (at_number states) move.node ∙ way.head;
          node = at.node ∙ ap (λ (w : State). w.node.0) (sym same) ∙ sym way.node;
          minute = refl;
          cost = refl;
          since = subst (HasSince s.road rule (replicate rule.rest wait ++ back)) (sym way.none) (has_break s.road rule back);
        });
      }

  stepped : (x : Step) (big next p : Position) (back : List Step) → IsAt big p back → Moves z until x big next → Stepped x next p back
  unfolding step_of
  stepped (drive x) big next p back at move =
      let way = made.ways x move.road move.is in
      let same = same_state big p back at move.road.tail way.from move.tail way.tail in
      ⊎_elim
      (λ (d : IsDriveWay s z rule goal states way.from x move.road way.leg). by_drive x big next p back at move way.from way.leg same way.source d)
      (λ (b : IsBreakWay s z rule states way.from x move.road way.leg). by_break x big next p back at move way.from way.leg same way.source b)
      way.way
  stepped wait big next p back at move = record {
    ys = wait ∷ [];
    is_step = refl;
    q = at_place p.node next;
    walk = (
      at_place p.node next,
      record {
        weight = move.weight;
        rated = ap s.weight at.node ∙ sym (made.weights big.node at.state at.is) ∙ move.rated;
        is_open = ap (λ (v : ℕ). s.wait_shut v p.minute) at.node ∙ sym (made.wait_shut big.node at.state at.is p.minute)
            ∙ ap (z.wait_shut big.node) at.minute ∙ move.is_open;
        in_time = omega (arith, move.in_time, at.minute);
        node = refl;
        minute = omega (arith, move.minute, at.minute);
        cost = omega (arith, move.cost, at.cost);
      },
      refl,
    );
    minute = refl;
    cost = refl;
    behind = wait ∷ back;
    rested = λ zs rest. rest;
    to = inl (record {
      state = at.state;
      is = ap (at_number states) move.node ∙ at.is;
      node = at.node;
      minute = refl;
      cost = refl;
      since = has_wait s.road rule back at.state.driven at.since;
    });
  }

  module _ (last : Position) (at_end : last.node ≡ length states + 1) where
    joined : (x : Step) (xs : List Step) (next p : Position) (back : List Step) → (one : Stepped x next p back) → GoesOn xs last one.q one.behind
        → GoesOn (x ∷ xs) last p back
    joined x xs next p back one more =
        let steps : one.ys ++ unpacked sources xs ≡ unpacked sources (x ∷ xs) =
        ap (λ (w : List Step). w ++ unpacked sources xs) (sym one.is_step) ∙ sym (unpacked_cons x xs) in
        record {
          walk = subst (λ (w : List Step). Walks s until w p (record { node = goal; minute = last.minute; cost = last.cost })) steps
              (walk-append s until one.ys (unpacked sources xs) p one.q (record { node = goal; minute = last.minute; cost = last.cost }) one.walk more.walk);
          rested = subst (IsWithinRuleFrom s.road rule back) steps (one.rested (unpacked sources xs) more.rested);
        }

    pub goes_on : (xs : List Step) (big p : Position) (back : List Step) → IsAt big p back → Walks z until xs big last → GoesOn xs last p back
    goes_on [] big p back at walk =
        absurd (past_end at.state (ap (at_number states) (sym (ap (λ (w : Position). w.node) walk ∙ at_end)) ∙ at.is))
    goes_on (x ∷ xs) big p back at walk =
        let one = stepped x big walk.0 p back at walk.1 in
        ⊎_elim
        (λ (inner : IsAt walk.0 one.q one.behind). joined x xs walk.0 p back one (goes_on xs walk.0 one.q one.behind inner walk.2))
        (λ (end : (walk.0.node ≡ length states + 1) × (one.q.node ≡ goal)).
        (let done = ended xs walk.0 last end.0 walk.2 in
        joined x xs walk.0 p back one (record {
          walk = subst (λ (w : List Step). Walks s until (unpacked sources w) one.q (record { node = goal; minute = last.minute; cost = last.cost }))
              (sym done.0)
              (same_position one.q (record { node = goal; minute = last.minute; cost = last.cost }) end.1
              (one.minute ∙ ap (λ (w : Position). w.minute) done.1) (one.cost ∙ ap (λ (w : Position). w.cost) done.1));
          rested = subst (λ (w : List Step). IsWithinRuleFrom s.road rule one.behind (unpacked sources w)) (sym done.0) tt;
        })))
        one.to

    -- a walk over states from the first state
    pub from_start : (depart : ℕ) (xs : List Step) → Walks z until xs (record { node = 1; minute = depart; cost = 0 }) last
        → GoesOn xs last (record { node = origin; minute = depart; cost = 0 }) []
    from_start depart xs walk = goes_on xs (record { node = 1; minute = depart; cost = 0 }) (record { node = origin; minute = depart; cost = 0 }) []
        (record {
          state = made.first;
          is = made.at_first;
          node = sym made.first_node;
          minute = refl;
          cost = refl;
          since = subst (HasSince s.road rule []) (sym made.first_driven) (has_first s.road rule);
        })
        walk
