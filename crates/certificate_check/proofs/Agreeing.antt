-- The verdict over a setting is that over a setting which agrees with it within the window.
use Rattle.std.proofs.Common.{◌≡◌, inl, inr, ⊎_elim, ℕ, ◌≤◌, Bool, true, false, cond, Option, Some, None, List, [], ◌∷◌, All}
use Rattle.std.proofs.Common.{refl, ◌∙◌, subst, arith}
use Rattle.std.specs.Prelude.{◌==◌}
use Rattle.std.proofs.lemmas.List.Elements.{All-head, All-tail}
use Rattle.route_base.specs.Setting.{Setting}
use Rattle.route_base.specs.Itinerary.{Position, Step, Moves}
use Rattle.route_base.specs.Legs.{start_of, end_of}
use Rattle.route_base.specs.Matching.{StandsFor, IsInWindow}
use Rattle.route_base.specs.Relaxing.{IsDominatedOrLate, IsRelaxed}
use Rattle.route_base.specs.declared.types.NodeId.{NodeId}
use Rattle.route_base.specs.declared.types.Request.{Request}
use Rattle.route_base.specs.declared.types.Run.{Run}
use Rattle.route_base.proofs.AgreeingWalks.{flipped, moves_too, walks_too}
use Rattle.cost_functions.specs.Pieces.{value_in}
use Rattle.cost_functions.specs.declared.pieces.Piece.{Piece}
use Rattle.certificate.specs.ByNode.{item_at}
use Rattle.certificate.specs.declared.Certificate.{Certificate}
use Rattle.certificate_check.specs.Conditions.{IsInRange, value_of}
use Rattle.certificate_check.specs.Verdicts.{HasLawfulLegs, HasValidBounds, HasRelaxedSteps, FailsFirst, IsVerdict}
use Rattle.certificate_check.specs.Verdicts.{first_fails, second_fails, third_fails, fourth_fails, fifth_fails, sixth_fails}
use Rattle.certificate_check.specs.declared.checker.Verdict.{Verdict}
use Rattle.certificate_check.specs.declared.checker.Verdict.TheVariants.{Accepted, Rejected}
use Rattle.certificate_check.proofs.PieceValues.{values_of_pieces, none_some}

module _ (s : Setting) (r : Request) where
  -- a value stands at a minute from the departure on
  from_departure : (ps : List Piece) → All (λ p. (r.depart ≤ p.lo) × (p.hi ≤ r.until)) ps → (o : Option (List Piece)) → o ≡ Some ps
      → (t x : ℕ) → value_in o t ≡ Some x → r.depart ≤ t
  from_departure ps all o is t x has =
      values_of_pieces (λ u y. r.depart ≤ u) ps
      (λ k d within u from upto. omega (arith, (all k d within).0, from)) t x
      (subst (λ (w : Option (List Piece)). value_in w t ≡ Some x) is has)

  at_entry : (e : NodeId × List Piece) (rest : Option (List Piece)) (t x : ℕ) → IsInRange s r e → (value_in rest t ≡ Some x → r.depart ≤ t)
      → (b : Bool) → value_in (cond b (Some e.1) rest) t ≡ Some x → r.depart ≤ t
  at_entry e rest t x here later true has = from_departure e.1 here.minutes (Some e.1) refl t x has
  at_entry e rest t x here later false has = later has

  value_timed : (functions : List (NodeId × List Piece)) → All (IsInRange s r) functions → (v t x : ℕ)
      → value_of functions v t ≡ Some x → r.depart ≤ t
  value_timed [] all v t x has = absurd (none_some x None refl has)
  value_timed (e ∷ es) all v t x has =
      at_entry e (item_at es v) t x (All-head (IsInRange s r) e es all)
      (value_timed es (All-tail (IsInRange s r) e es all) v t x) (e.0.0 == v) has

module _ (s z : Setting) (window : Run) (r : Request) (same : StandsFor s z window) (within : IsInWindow r window) (c : Certificate) where
  legs_too : HasLawfulLegs s r c → HasLawfulLegs z r c
  legs_too all k d inside =
      let legs = all k d inside in
      record {
        in_time = legs.in_time;
        no_empty_wait = legs.no_empty_wait;
        walk = walks_too s z window same r.until within.1 _ (start_of r) (end_of r _) within.0 legs.walk;
      }

  bounds_too : HasValidBounds s r c → HasValidBounds z r c
  bounds_too bounds = record {
    nodes = λ k d inside. let node = bounds.nodes k d inside in (node.0, omega (arith, node.1, same.nodes));
    are = record {
      goal = bounds.are.goal;
      each = λ a road h is. bounds.are.each a road h (same.road a ∙ is);
    };
  }

  steps_too : HasRelaxedSteps s r c → HasRelaxedSteps z r c
  steps_too goes = record {
    ranges = λ k d inside. let one = goes.ranges k d inside in record {
      node = (one.node.0, omega (arith, one.node.1, same.nodes));
      minutes = one.minutes;
    };
    steps = λ p has. ⊎_elim
        (λ (e : IsDominatedOrLate r.until _ (item_at c.bounds p.node) p). inl e)
        (λ (each : (x : Step) (q : Position) → Moves s r.until x p q → IsRelaxed r.until _ (item_at c.bounds) (value_of c.functions) q).
        inr (λ x q move. each x q (moves_too z s window (flipped s z window same) r.until within.1 x p q
        (let timed = value_timed s r c.functions goes.ranges p.node p.minute p.cost has in omega (arith, timed, within.0)) move)))
        (goes.steps p has);
  }

module _ (s z : Setting) (window : Run) (r : Request) (same : StandsFor s z window) (within : IsInWindow r window) (c : Certificate) where
  there : StandsFor z s window
  there = flipped s z window same

  fails_too : (k : ℕ) → FailsFirst s r c k → FailsFirst z r c k
  fails_too _ (first_fails not) = first_fails not
  fails_too _ (second_fails a not) = second_fails a (λ h. not (legs_too z s window r there within c h))
  fails_too _ (third_fails a b not) = third_fails a (legs_too s z window r same within c b) (λ h. not (bounds_too z s window r there within c h))
  fails_too _ (fourth_fails a b d not) =
      fourth_fails a (legs_too s z window r same within c b) (bounds_too s z window r same within c d) not
  fails_too _ (fifth_fails a b d e not) =
      fifth_fails a (legs_too s z window r same within c b) (bounds_too s z window r same within c d) e
      (λ h. not (steps_too z s window r there within c h))
  fails_too _ (sixth_fails a b d e f not) =
      sixth_fails a (legs_too s z window r same within c b) (bounds_too s z window r same within c d) e
      (steps_too s z window r same within c f) not

  pub verdict_too : (v : Verdict) → IsVerdict s r c v → IsVerdict z r c v
  verdict_too Accepted good = record {
    pairs = good.pairs;
    achieved = legs_too s z window r same within c good.achieved;
    bounds = bounds_too s z window r same within c good.bounds;
    start = good.start;
    goes_on = steps_too s z window r same within c good.goes_on;
    end = good.end;
  }
  verdict_too (Rejected k) fails = fails_too k fails
