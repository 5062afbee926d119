-- There is one list of right routes that keep a rule and are the first of their pairs.
use Rattle.std.proofs.Common.{◌≡◌, List, subst, sym, arith}
use Rattle.std.specs.Prelude.{All, reverse}
use Rattle.route_base.specs.Setting.{Setting}
use Rattle.route_base.specs.Itinerary.{Step}
use Rattle.route_base.specs.Legs.{steps_of}
use Rattle.route_base.specs.Front.{IsNoWorse, pairs_of}
use Rattle.route_base.specs.declared.types.Pair.{Pair}
use Rattle.route_base.specs.declared.types.Request.{Request}
use Rattle.route_base.specs.declared.types.Route.{Route}
use Rattle.route_base.proofs.OneAnswer.{same_legs}
use Rattle.front_transport.specs.ParetoFronts.{ArrivesBefore}
use Rattle.front_transport.proofs.OneFront.{one_front}
use Rattle.drive_states.specs.declared.rule.BreakRule.{BreakRule}
use Rattle.drive_breaks.specs.Rested.{AchievesRested, AreRightRested, IsRestedAchieved}
use Rattle.drive_breaks.specs.RestedOrder.{ComesRestedBefore, IsFirstRested}
use Rattle.drive_breaks.proofs.RestedOrders.{never_both}
use Rattle.drive_breaks.proofs.SoleItems.{sole_first, sole_list}

module _ (s : Setting) (r : Request) (rule : BreakRule) where
  abbrev IsRightRoute : Route → Type 0
  IsRightRoute x = AchievesRested s r rule x × IsFirstRested s r rule x

  same_route : (x y : Route) → IsRightRoute x → IsRightRoute y → x.pair ≡ y.pair → x ≡ y
  same_route x y right_x right_y pair =
      let y_for_x = subst (λ (p : Pair). AchievesRested s r rule (record { pair = p; legs = y.legs })) (sym pair) right_y.0 in
      let x_for_y = subst (λ (p : Pair). AchievesRested s r rule (record { pair = p; legs = x.legs })) pair right_x.0 in
      let steps = sole_first (λ (w : List Step). reverse w) (ComesRestedBefore s.road rule.rest) (never_both s.road rule.rest)
      (steps_of x.legs) (steps_of y.legs) (right_x.1 (steps_of y.legs) y_for_x.achieves.walk y_for_x.rested)
      (right_y.1 (steps_of x.legs) x_for_y.achieves.walk x_for_y.rested) in
      let legs = same_legs x.legs y.legs right_x.0.achieves.no_empty_wait right_y.0.achieves.no_empty_wait right_x.0.apart right_y.0.apart steps in
      λ i. record { pair = pair i; legs = legs i }

  -- two lists of right routes that are the first of their pairs are one
  pub one_rested_answer : (xs ys : List Route) → AreRightRested s r rule xs → All (IsFirstRested s r rule) xs → AreRightRested s r rule ys
      → All (IsFirstRested s r rule) ys → xs ≡ ys
  one_rested_answer xs ys right_x first_x right_y first_y =
      sole_list (λ (x : Route). x.pair) IsRightRoute same_route xs ys (λ k d within. (right_x.legs k d within, first_x k d within))
      (λ k d within. (right_y.legs k d within, first_y k d within))
      (one_front ArrivesBefore (λ p q before after. omega (arith, before, after)) IsNoWorse (IsRestedAchieved s r rule) (pairs_of xs) (pairs_of ys)
      right_x.front right_y.front)
