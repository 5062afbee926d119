-- Legs over states, unpacked one by one.
use Rattle.std.proofs.Common.{◌≡◌, ◌≢◌, ⊎_elim, ℕ, zero, suc, ◌+◌, ◌-◌, ◌≤◌, ◌<◌, Option, Some, List, [], ◌∷◌, ◌++◌, length, get_or, take, drop, replicate, All}
use Rattle.std.proofs.Common.{refl, sym, ◌∙◌, ap, arith, length-append, append_assoc, subst}
use Rattle.std.proofs.lemmas.List.{append-nil, take_more, take-append-drop}
use Rattle.std.proofs.lemmas.List.Elements.{All-cons, All-nil, All-tail}
use Rattle.std.proofs.lemmas.Option.{same_Some}
use Rattle.route_base.specs.Setting.{Setting}
use Rattle.route_base.specs.Itinerary.{Position, Step, drive, wait, Walks}
use Rattle.route_base.specs.Front.{pairs_of}
use Rattle.route_base.specs.Legs.{steps_of, steps_of_leg, start_of, end_of, HasNoEmptyWait}
use Rattle.route_base.specs.Net.{at_number}
use Rattle.route_base.specs.declared.types.Leg.{Leg}
use Rattle.route_base.specs.declared.types.Leg.TheVariants.{Drive, Wait}
use Rattle.route_base.specs.declared.types.Pair.{Pair}
use Rattle.route_base.specs.declared.types.Request.{Request}
use Rattle.route_base.specs.declared.types.Route.{Route}
use Rattle.route_base.proofs.Arcs.{TakesTime}
use Rattle.route_base.proofs.LegLists.{steps_of-push, steps_of-append}
use Rattle.route_base.proofs.Numbered.{number_within, at_number-next}
use Rattle.front_transport.proofs.Growing.{walk_after}
use Rattle.drive_breaks.specs.Inside.StateNet.{IsStateNet}
use Rattle.drive_breaks.specs.Inside.Unpacking.{steps_by, unpacked, IsSourced, IsUnpackedRoute, AreUnpacked, IsUnpackable}
use Rattle.drive_breaks.specs.Rested.{AchievesRested, IsRestedFrom}
use Rattle.drive_states.specs.declared.rule.BreakRule.{BreakRule}
use Rattle.drive_states.specs.declared.rule.State.{State}

module _ (sources : List Leg) where
  pub unpacked_append : (xs ys : List Step) → unpacked sources (xs ++ ys) ≡ unpacked sources xs ++ unpacked sources ys
  unpacked_append [] ys = refl
  unpacked_append (drive x ∷ xs) ys = ap (λ (w : List Step). steps_by (at_number sources x) ++ w) (unpacked_append xs ys)
      ∙ sym (append_assoc (steps_by (at_number sources x)) (unpacked sources xs) (unpacked sources ys))
  unpacked_append (wait ∷ xs) ys = ap (λ (w : List Step). wait ∷ w) (unpacked_append xs ys)

  pub unpacked_waits : (k : ℕ) → replicate k wait ≡ unpacked sources (replicate k wait)
  unpacked_waits zero = refl
  unpacked_waits (suc k) = ap (λ (w : List Step). wait ∷ w) (unpacked_waits k)

  -- the leg at a number is the item there
  pub source_is : (x : ℕ) (leg d : Leg) → at_number sources x ≡ Some leg → get_or sources (x - 1) d ≡ leg
  source_is x leg d is =
      let inside = number_within sources x leg is in
      let next : x - 1 + 1 ≡ x = omega (arith, inside.0) in
      same_Some _ _ (sym (at_number-next sources (x - 1) d (omega (arith, inside.0, inside.1))) ∙ ap (at_number sources) next ∙ is)

  pub source_steps : (x : ℕ) (leg : Leg) → at_number sources x ≡ Some leg → steps_of_leg leg ≡ unpacked sources (drive x ∷ [])
  source_steps x leg is = sym (append-nil (steps_of_leg leg)) ∙ ap (λ (o : Option Leg). steps_by o ++ []) (sym is)

  -- one leg more
  pub steps_next : (legs : List Leg) (i : ℕ) (d : Leg) → i < length legs
      → unpacked sources (steps_of (take (i + 1) legs)) ≡ unpacked sources (steps_of (take i legs)) ++ unpacked sources (steps_of_leg (get_or legs i d))
  steps_next legs i d within =
      ap (λ (w : List Leg). unpacked sources (steps_of w)) (take_more legs i d within)
      ∙ ap (unpacked sources) (steps_of-push (take i legs) (get_or legs i d))
      ∙ unpacked_append (steps_of (take i legs)) (steps_of_leg (get_or legs i d))

  pub steps_within : (legs : List Leg) (n : ℕ) → length (unpacked sources (steps_of (take n legs))) ≤ length (unpacked sources (steps_of legs))
  steps_within legs n =
      let whole : unpacked sources (steps_of legs) ≡ unpacked sources (steps_of (take n legs)) ++ unpacked sources (steps_of (drop n legs)) =
      ap (λ (w : List Leg). unpacked sources (steps_of w)) (sym (take-append-drop n legs))
      ∙ ap (unpacked sources) (steps_of-append (take n legs) (drop n legs)) ∙ unpacked_append (steps_of (take n legs)) (steps_of (drop n legs)) in
      omega (
        arith,
        ap (λ (w : List Step). length w) whole,
        length-append (unpacked sources (steps_of (take n legs))) (unpacked sources (steps_of (drop n legs))),
      )

-- each step takes a minute at the least
pub long_walk : (s : Setting) (until : ℕ) → TakesTime s → (xs : List Step) (p q : Position)
    → Walks s until xs p q → length xs + p.minute ≤ q.minute
long_walk s until filled [] p q walk = omega (arith, ap (λ (w : Position). w.minute) walk)
long_walk s until filled (drive a ∷ xs) p q walk =
    omega (arith, long_walk s until filled xs walk.0 q walk.2, walk.1.minute, filled a walk.1.road walk.1.is)
long_walk s until filled (wait ∷ xs) p q walk = omega (arith, long_walk s until filled xs walk.0 q walk.2, walk.1.minute)

module _ (s z : Setting) (rule : BreakRule) (origin goal : ℕ) (states : List State) (sources : List Leg) (made : IsStateNet s z rule origin goal states sources)
    (some : 1 ≤ rule.rest) (until : ℕ) where
  -- each leg of a walk over states has steps in the net
  pub sourced : (legs : List Leg) (p q : Position) → HasNoEmptyWait legs → Walks z until (steps_of legs) p q → All (IsSourced sources) legs
  sourced [] p q none walk = All-nil (IsSourced sources)
  sourced (Drive x ∷ legs) p q none walk =
      let way = made.ways x.0 walk.1.road walk.1.is in
      All-cons (IsSourced sources) (Drive x) legs (
        way.leg,
        way.source,
        ⊎_elim
            (λ d same. drive_no_wait d.arc.0 (sym (ap (λ (l : Leg). l) d.is_leg) ∙ same))
            (λ b same. no_rest rule.rest some (sym b.is_leg ∙ same))
            way.way,
      )
      (sourced legs walk.0 q none.1 walk.2)
    where
      drive_no_wait : (a : ℕ) → Drive (record { 0 = a }) ≡ Wait 0 → ⊥
      drive_no_wait a is = cc

      no_rest : (k : ℕ) → 1 ≤ k → Wait k ≡ Wait 0 → ⊥
      no_rest k le is = let e : k ≡ 0 = cc in omega (arith, e, le)
  sourced (Wait k ∷ legs) p q none walk =
      let after = walk_after z until (replicate k wait) (steps_of legs) p q walk in
      All-cons (IsSourced sources) (Wait k) legs (one_at_least k none.0) (sourced legs after.0 q none.1 after.1)
    where
      one_at_least : (n : ℕ) → Wait n ≢ Wait 0 → 1 ≤ n
      one_at_least zero some = absurd (some refl)
      one_at_least (suc n) some = omega arith

-- one route more
pub unpacked_push : (sources : List Leg) (overs routes : List Route) (over route : Route) → AreUnpacked sources overs routes
    → IsUnpackedRoute sources over route → AreUnpacked sources (overs ++ over ∷ []) (routes ++ route ∷ [])
unpacked_push sources [] [] over route are one = (one, tt)
unpacked_push sources [] (x ∷ xs) over route are one = absurd are
unpacked_push sources (x ∷ xs) [] over route are one = absurd are
unpacked_push sources (x ∷ xs) (y ∷ ys) over route are one = (are.0, unpacked_push sources xs ys over route are.1 one)

-- routes over states, unpacked, keep the rule and have their pairs
pub rested_routes : (s : Setting) (r : Request) (rule : BreakRule) (sources : List Leg) (overs routes : List Route)
    → All (IsUnpackable s r rule sources) overs → AreUnpacked sources overs routes → (pairs_of routes ≡ pairs_of overs) × All (AchievesRested s r rule) routes
rested_routes s r rule sources [] [] can are = (refl, All-nil (AchievesRested s r rule))
rested_routes s r rule sources [] (y ∷ ys) can are = absurd are
rested_routes s r rule sources (x ∷ xs) [] can are = absurd are
rested_routes s r rule sources (x ∷ xs) (y ∷ ys) can are =
    let one : IsUnpackable s r rule sources x = can 0 x (omega arith) in
    let more = rested_routes s r rule sources xs ys (All-tail (IsUnpackable s r rule sources) x xs can) are.1 in
    let same : unpacked sources (steps_of x.legs) ≡ steps_of y.legs = sym are.0.steps in (
      ap (λ (p : Pair). p ∷ pairs_of ys) are.0.pair ∙ ap (λ (ps : List Pair). x.pair ∷ ps) more.0,
      All-cons (AchievesRested s r rule) y ys (record {
        achieves = record {
          in_time = one.in_time;
          no_empty_wait = are.0.tidy.no_empty_wait;
          walk = subst (λ (p : Pair). Walks s r.until (steps_of y.legs) (start_of r) (end_of r p)) (sym are.0.pair)
              (subst (λ (w : List Step). Walks s r.until w (start_of r) (end_of r x.pair)) same one.walk);
        };
        rested = subst (IsRestedFrom s.road rule []) same one.rested;
        apart = are.0.tidy.no_neighbours;
      }) more.1,
    )
