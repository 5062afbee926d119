-- There is one list of right late routes.
use Rattle.std.proofs.Common.{◌≡◌, ⊎_elim, inl, inr, suc, List, [], ◌∷◌, map, refl, sym, subst, arith}
use Rattle.std.specs.Prelude.{All}
use Rattle.route_base.specs.Setting.{Setting}
use Rattle.route_base.specs.Itinerary.{Step, Walks}
use Rattle.route_base.specs.FirstItinerary.{IsStepBefore}
use Rattle.route_base.specs.Legs.{steps_of, start_of, end_of}
use Rattle.route_base.specs.declared.types.Request.{Request}
use Rattle.route_base.proofs.Lists.{same_tail}
use Rattle.route_base.proofs.OneAnswer.{same_legs}
use Rattle.route_base.proofs.StepOrder.{never_both_steps, not_before_itself}
use Rattle.front_transport.proofs.OneFront.{one_front}
use Rattle.latest_departure.specs.LateFront.{AchievesLate, AreRightLate, DepartsAfter, IsListedBefore, IsFirstLate, IsLateAchieved, IsLateNoWorse}
use Rattle.latest_departure.specs.LateFront.{LatePair, late_pair_of, pair_at, request_from}
use Rattle.latest_departure.specs.declared.routes.LateRoute.{LateRoute}

-- of two lists at most one comes before the other
never_both : (xs ys : List Step) → IsListedBefore xs ys → IsListedBefore ys xs → ⊥
never_both [] [] h k = h
never_both [] (y ∷ ys) h k = k
never_both (x ∷ xs) [] h k = h
never_both (x ∷ xs) (y ∷ ys) (inl h) (inl k) = never_both_steps x y h k
never_both (x ∷ xs) (y ∷ ys) (inl h) (inr k) = not_before_itself x (subst (λ w. IsStepBefore x w) k.0 h)
never_both (x ∷ xs) (y ∷ ys) (inr h) (inl k) = not_before_itself y (subst (λ w. IsStepBefore y w) h.0 k)
never_both (x ∷ xs) (y ∷ ys) (inr h) (inr k) = never_both xs ys h.1 k.1

module _ (s : Setting) (r : Request) where
  abbrev IsRightLate : LateRoute → Type 0
  IsRightLate x = AchievesLate s r x × IsFirstLate s r x

  same_route : (x y : LateRoute) → IsRightLate x → IsRightLate y → late_pair_of x ≡ late_pair_of y → x ≡ y
  same_route x y right_x right_y pair =
      let y_for_x = subst (λ (p : LatePair). Walks s r.until (steps_of y.legs) (start_of (request_from r p.departure))
      (end_of (request_from r p.departure) (pair_at right_y.0.arrival p.cost))) (sym pair) right_y.0.achieves.walk in
      let x_for_y = subst (λ (p : LatePair). Walks s r.until (steps_of x.legs) (start_of (request_from r p.departure))
      (end_of (request_from r p.departure) (pair_at right_x.0.arrival p.cost))) pair right_x.0.achieves.walk in
      let steps : steps_of x.legs ≡ steps_of y.legs = ⊎_elim
      (λ (same : steps_of y.legs ≡ steps_of x.legs). sym same)
      (λ (before : IsListedBefore (steps_of x.legs) (steps_of y.legs)). ⊎_elim
      (λ (same : steps_of x.legs ≡ steps_of y.legs). same)
      (λ (after : IsListedBefore (steps_of y.legs) (steps_of x.legs)). absurd (never_both (steps_of x.legs) (steps_of y.legs) before after))
      (right_y.1 (steps_of x.legs) right_x.0.arrival x_for_y))
      (right_x.1 (steps_of y.legs) right_y.0.arrival y_for_x) in
      let legs = same_legs x.legs y.legs right_x.0.achieves.no_empty_wait right_y.0.achieves.no_empty_wait right_x.0.apart right_y.0.apart steps in
      λ i. record { departure = (pair i).departure; cost = (pair i).cost; legs = legs i }

  same_routes : (xs ys : List LateRoute) → All IsRightLate xs → All IsRightLate ys → map late_pair_of xs ≡ map late_pair_of ys → xs ≡ ys
  same_routes [] [] right_x right_y pairs = refl
  same_routes [] (y ∷ ys) right_x right_y pairs = absurd (cc)
  same_routes (x ∷ xs) [] right_x right_y pairs = absurd (cc)
  same_routes (x ∷ xs) (y ∷ ys) right_x right_y pairs =
      let pair : late_pair_of x ≡ late_pair_of y = cc in
      let first = same_route x y (right_x 0 x (omega arith)) (right_y 0 y (omega arith)) pair in
      let rest = same_routes xs ys (λ k d within. right_x (suc k) d (omega (arith, within))) (λ k d within. right_y (suc k) d (omega (arith, within)))
      (same_tail pairs) in
      λ i. first i ∷ rest i

  -- two lists of right late routes are one
  pub one_late_answer : (xs ys : List LateRoute) → AreRightLate s r xs → AreRightLate s r ys → xs ≡ ys
  one_late_answer xs ys right_x right_y =
      same_routes xs ys (λ k d within. (right_x.legs k d within, right_x.first k d within))
      (λ k d within. (right_y.legs k d within, right_y.first k d within))
      (one_front DepartsAfter (λ p q before after. omega (arith, before, after)) IsLateNoWorse (IsLateAchieved s r)
      (map late_pair_of xs) (map late_pair_of ys) right_x.front right_y.front)
