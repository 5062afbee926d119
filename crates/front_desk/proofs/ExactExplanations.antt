-- The text that explains legs is exact.
use Rattle.std.proofs.Common.{◌≡◌, ◌↔◌, ℕ, codes, None, Some, Option, List, get_or, ap, arith, refl, sym, subst, ◌∙◌}
use Rattle.std.proofs.lemmas.List.{append_cancel_left}
use Rattle.route_base.specs.Front.{IsAchieved, IsUndominated}
use Rattle.route_base.specs.Legs.{Achieves, steps_of}
use Rattle.route_base.specs.Setting.{Setting}
use Rattle.route_base.specs.declared.types.Leg.{Leg}
use Rattle.route_base.specs.declared.types.Pair.{Pair}
use Rattle.route_base.specs.declared.types.Request.{Request}
use Rattle.vehicle_classes.specs.VehicleModel.{VehicleModel}
use Rattle.network_tables.specs.NetworkModel.{NetworkModel}
use Rattle.network_tables.specs.RoadSetting.{road_setting}
use Rattle.trip_explain.specs.Dominators.{first_dominator}
use Rattle.trip_explain.specs.ExplanationText.{better_line, explanation_text, worded_pair_line}
use Rattle.trip_explain.specs.Explanations.{IsExplained, IsUnlawfulAt}
use Rattle.trip_explain.specs.declared.explanation.Explanation.{Explanation}
use Rattle.trip_explain.specs.declared.explanation.Explanation.TheVariants.{Lawful, Unlawful}
use Rattle.trip_explain.specs.declared.explanation.Why.{Why}
use Rattle.trip_explain.proofs.OneExplanation.{never_both}
use Rattle.trip_explain.proofs.OnlyExplanation.{one_explanation}
use Rattle.trip_explain.proofs.Undominated.{undominated_by}
use Rattle.certificate_check.proofs.Lawful.{achieved_once}
use Rattle.front_desk.specs.Explain.{IsBetterFor, IsExplainText, IsFirstBetter}

-- the text of lawful legs that no pair dominates names no better pair
none_better : (better : Option Pair) → better_line better ≡ better_line None → better ≡ None
none_better None same = refl
none_better (Some pair) same =
    let first : 100 ≡ 117 = ap (λ (line : List ℕ). get_or line 0 0) same in
    absurd (omega (arith, first))

module _ (s : Setting) (r : Request) (legs : List Leg) where
  achieved_by : (pair : Pair) → Achieves s r legs pair → IsAchieved s r pair
  achieved_by pair achieves = record { in_time = achieves.in_time; steps = steps_of legs; walk = achieves.walk }

  -- the text with the first better pair has none exactly where no lawful itinerary's pair dominates this one
  none_named : (pair : Pair) → Achieves s r legs pair → (better : Option Pair) → IsFirstBetter s r pair better → (text : List ℕ)
      → text ≡ explanation_text (Lawful pair) better → (text ≡ explanation_text (Lawful pair) None) ↔ IsUndominated s r pair
  none_named pair achieves better first text is_text =
      let exactly : (first_dominator first.front pair ≡ None) ↔ IsUndominated s r pair = undominated_by s r first.front first.is_front pair
      (achieved_by pair achieves) in (
        (λ none. exactly.0 (sym first.is_first
            ∙ none_better better (append_cancel_left (worded_pair_line (codes "lawful ") pair) (better_line better) (better_line None) (sym is_text ∙ none)))),
        (λ undominated. is_text ∙ ap (λ (o : Option Pair). explanation_text (Lawful pair) o) (first.is_first ∙ exactly.1 undominated)),
      )

module _ (network : NetworkModel) (vehicle : VehicleModel) (r : Request) (legs : List Leg) (text : List ℕ) where
  lawful_by : (pair : Pair) → Achieves (road_setting network vehicle) r legs pair → (explanation : Explanation)
      → IsExplained network vehicle r legs explanation → (better : Option Pair) → IsBetterFor (road_setting network vehicle) r explanation better
      → text ≡ explanation_text explanation better
      → (text ≡ explanation_text (Lawful pair) None) ↔ IsUndominated (road_setting network vehicle) r pair
  lawful_by pair achieves (Lawful p) explained better first is_text =
      let s = road_setting network vehicle in
      let same = achieved_once s r legs p pair explained achieves in
      none_named s r legs pair achieves better (subst (λ (q : Pair). IsFirstBetter s r q better) same first) text
      (subst (λ (q : Pair). text ≡ explanation_text (Lawful q) better) same is_text)
  lawful_by pair achieves (Unlawful leg minute why) unlawful better first is_text =
      absurd (never_both network vehicle r legs leg minute why pair unlawful achieves)

  pub lawful_exactly : (pair : Pair) → IsExplainText network vehicle r legs text → Achieves (road_setting network vehicle) r legs pair
      → (text ≡ explanation_text (Lawful pair) None) ↔ IsUndominated (road_setting network vehicle) r pair
  lawful_exactly pair told achieves = lawful_by pair achieves told.explanation told.explained told.better told.is_better told.is_text

  unlawful_by : (leg minute : ℕ) (why : Why) → IsUnlawfulAt network vehicle r legs leg minute why → (explanation : Explanation)
      → IsExplained network vehicle r legs explanation → (better : Option Pair) → text ≡ explanation_text explanation better
      → text ≡ explanation_text (Unlawful leg minute why) None
  unlawful_by leg minute why unlawful (Lawful p) achieves better is_text =
      absurd (never_both network vehicle r legs leg minute why p unlawful achieves)
  unlawful_by leg minute why unlawful (Unlawful n t other) there better is_text =
      let one = one_explanation network vehicle r legs n leg t minute other why there unlawful in
      is_text ∙ ap (λ (k : ℕ). explanation_text (Unlawful k t other) None) one.0
      ∙ ap (λ (k : ℕ). explanation_text (Unlawful leg k other) None) one.1.0
      ∙ ap (λ (w : Why). explanation_text (Unlawful leg minute w) None) one.1.1

  pub unlawful_exactly : (leg minute : ℕ) (why : Why) → IsExplainText network vehicle r legs text
      → IsUnlawfulAt network vehicle r legs leg minute why → text ≡ explanation_text (Unlawful leg minute why) None
  unlawful_exactly leg minute why told unlawful = unlawful_by leg minute why unlawful told.explanation told.explained told.better told.is_text
