-- There is one list of right tours that keep a rule.
use Rattle.std.proofs.Common.{◌≡◌, inl, inr, ℕ, Option, List, [], ◌∷◌, map, subst, sym, arith}
use Rattle.std.specs.Prelude.{reverse}
use Rattle.route_base.specs.Setting.{Setting, Road}
use Rattle.route_base.specs.Front.{IsNoWorse}
use Rattle.route_base.specs.declared.types.Pair.{Pair}
use Rattle.route_base.specs.declared.types.Request.{Request}
use Rattle.front_transport.specs.ParetoFronts.{ArrivesBefore}
use Rattle.front_transport.proofs.OneFront.{one_front}
use Rattle.drive_states.specs.declared.rule.BreakRule.{BreakRule}
use Rattle.drive_breaks.proofs.RestedOrders.{less_or_as, never_less}
use Rattle.drive_breaks.proofs.SoleItems.{sole_first, sole_list}
use Rattle.stop_tour.specs.Tours.{TourStep, IsTourStepBefore, tour_steps_of}
use Rattle.stop_tour.specs.declared.stops.Stop.{Stop}
use Rattle.stop_tour.specs.declared.stops.TourRoute.{TourRoute}
use Rattle.stop_tour.proofs.OneTour.{never_both_tour_steps, not_before_itself, same_legs}
use Rattle.rested_tours.specs.RestedTours.{seen, AchievesRestedTour, AreRightRestedTours, ComesRestedTourBefore, IsFirstRestedTour, IsRestedTourAchieved}

-- of two lists at most one comes before the other
module _ (roads : ℕ → Option Road) (rest : ℕ) where
  never_both : (xs ys : List TourStep) → ComesRestedTourBefore roads rest xs ys → ComesRestedTourBefore roads rest ys xs → ⊥
  never_both [] ys h k = h
  never_both (x ∷ xs) [] h k = h
  never_both (x ∷ xs) (y ∷ ys) (inl h) (inl k) = never_less roads rest (map seen (x ∷ xs)) (map seen (y ∷ ys)) h k
  never_both (x ∷ xs) (y ∷ ys) (inl h) (inr k) = less_or_as roads rest (map seen (x ∷ xs)) (map seen (y ∷ ys)) h k.0
  never_both (x ∷ xs) (y ∷ ys) (inr h) (inl k) = less_or_as roads rest (map seen (y ∷ ys)) (map seen (x ∷ xs)) k h.0
  never_both (x ∷ xs) (y ∷ ys) (inr (as_h, inl h)) (inr (as_k, inl k)) = never_both_tour_steps x y h k
  never_both (x ∷ xs) (y ∷ ys) (inr (as_h, inl h)) (inr (as_k, inr k)) = not_before_itself x (subst (λ w. IsTourStepBefore x w) k.0 h)
  never_both (x ∷ xs) (y ∷ ys) (inr (as_h, inr h)) (inr (as_k, inl k)) = not_before_itself y (subst (λ w. IsTourStepBefore y w) h.0 k)
  never_both (x ∷ xs) (y ∷ ys) (inr (as_h, inr h)) (inr (as_k, inr k)) = never_both xs ys h.1 k.1

module _ (s : Setting) (r : Request) (stops : List Stop) (rule : BreakRule) where
  abbrev IsRightTour : TourRoute → Type 0
  IsRightTour x = AchievesRestedTour s r stops rule x × IsFirstRestedTour s r stops rule x

  same_tour : (x y : TourRoute) → IsRightTour x → IsRightTour y → x.pair ≡ y.pair → x ≡ y
  same_tour x y right_x right_y pair =
      let y_for_x = subst (λ (p : Pair). AchievesRestedTour s r stops rule (record { pair = p; legs = y.legs })) (sym pair) right_y.0 in
      let x_for_y = subst (λ (p : Pair). AchievesRestedTour s r stops rule (record { pair = p; legs = x.legs })) pair right_x.0 in
      let steps = sole_first (λ (w : List TourStep). reverse w) (ComesRestedTourBefore s.road rule.rest) (never_both s.road rule.rest)
      (tour_steps_of x.legs) (tour_steps_of y.legs) (right_x.1 (tour_steps_of y.legs) y_for_x.achieves.walk y_for_x.rested)
      (right_y.1 (tour_steps_of x.legs) x_for_y.achieves.walk x_for_y.rested) in
      let legs = same_legs x.legs y.legs right_x.0.achieves.no_empty_wait right_y.0.achieves.no_empty_wait right_x.0.achieves.apart right_y.0.achieves.apart
      steps in
      λ i. record { pair = pair i; legs = legs i }

  -- two lists of right tours are one
  pub one_rested_tour_answer : (xs ys : List TourRoute) → AreRightRestedTours s r stops rule xs → AreRightRestedTours s r stops rule ys → xs ≡ ys
  one_rested_tour_answer xs ys right_x right_y =
      sole_list (λ (x : TourRoute). x.pair) IsRightTour same_tour xs ys (λ k d within. (right_x.legs k d within, right_x.first k d within))
      (λ k d within. (right_y.legs k d within, right_y.first k d within))
      (one_front ArrivesBefore (λ p q before after. omega (arith, before, after)) IsNoWorse (IsRestedTourAchieved s r stops rule)
      (map (λ x. x.pair) xs) (map (λ x. x.pair) ys) right_x.front right_y.front)
