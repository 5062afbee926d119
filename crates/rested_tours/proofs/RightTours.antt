-- The tours that routes over the states of rested tours tell are right.
use Rattle.std.proofs.Common.{◌/◌, List, length, map, All, refl, sym, ◌∙◌, subst}
use Rattle.std.specs.Prelude.{reverse}
use Rattle.std.specs.List.{AllZip}
use Rattle.route_base.specs.Net.{Net, setting_of}
use Rattle.route_base.specs.declared.types.Pair.{Pair}
use Rattle.route_base.specs.declared.types.Request.{Request}
use Rattle.route_base.proofs.Arcs.{takes_time}
use Rattle.drive_breaks.specs.Rested.{IsGoodRule}
use Rattle.drive_states.specs.declared.rule.BreakRule.{BreakRule}
use Rattle.ruled_search.specs.Routes.{IsFirstRuled, IsPlanned}
use Rattle.ruled_search.specs.declared.routes.RuledRoute.{RuledRoute}
use Rattle.ruled_states.specs.Inside.Codes.{base}
use Rattle.state_dominance.specs.Inside.Product.{task_over}
use Rattle.stop_tour.specs.Tours.{TourStep, TourWalks, tour_start, tour_end, tour_steps_of}
use Rattle.stop_tour.specs.declared.stops.Stop.{Stop}
use Rattle.stop_tour.specs.declared.stops.TourRoute.{TourRoute}
use Rattle.rested_tours.specs.RestedTours.{IsRestedTour, IsRestedTourFront, AchievesRestedTour, AreRightRestedTours, IsFirstRestedTour}
use Rattle.rested_tours.specs.Inside.ToldLegs.{told, IsLegNumbered}
use Rattle.rested_tours.specs.Inside.ToldRoutes.{IsTellableRoute, IsToldBy}
use Rattle.rested_tours.specs.Inside.TourRuler.{tour_ruler}
use Rattle.rested_tours.proofs.Based.{based}
use Rattle.rested_tours.proofs.FirstTours.{told_before}
use Rattle.rested_tours.proofs.Fronts.{RestedWalk, found_to_goal, least_to_goal, rested_front, sound_walk}
use Rattle.rested_tours.proofs.Reading.{reads_told}
use Rattle.rested_tours.proofs.StopsBase.{IsAsked, long_stops, low_origin}
use Rattle.rested_tours.proofs.ToldRoutes.{told_pairs, zip_all}
use Rattle.rested_tours.proofs.ToldTours.{achieves_tour, tellable}

module _ (net : Net) (r : Request) (stops : List Stop) (rule : BreakRule) (asked : IsAsked net r stops) (good_rule : IsGoodRule rule)
    (routes : List RuledRoute) (planned : IsPlanned (setting_of net) (tour_ruler stops rule) base r routes) where
  -- the first walk of a pair that was planned
  abbrev IsPlannedFirst : RuledRoute → Type 0
  IsPlannedFirst = IsFirstRuled (task_over (setting_of net) (tour_ruler stops rule) base r.origin.0 r.goal.0 r.depart r.until planned.bound) base

  -- the steps that the legs tell are a rested tour
  walk_told : (route : RuledRoute) → IsPlannedFirst route → All IsLegNumbered route.legs.items
      → RestedWalk (setting_of net) r stops rule (told rule.rest route.legs.items) route.pair
  walk_told route f numbered = subst (λ (w : List TourStep). RestedWalk (setting_of net) r stops rule w route.pair)
      (reads_told rule.rest route.legs.items f.achieves.steps numbered f.achieves.tells)
      (sound_walk (setting_of net) r stops rule base planned.bound refl (long_stops net r stops asked) good_rule.rest.0 asked.count
      (based net r stops rule asked good_rule) (low_origin net r stops asked) asked.in_time f.achieves.node f.achieves.goal
      f.achieves.steps route.pair f.achieves.walk)

  is_tellable : (route : RuledRoute) → IsPlannedFirst route → IsTellableRoute rule.rest route
  is_tellable route f numbered = tellable net r stops asked rule.rest route (walk_told route f numbered).walk good_rule.rest.0

  pub are_tellable : All (IsTellableRoute rule.rest) routes
  are_tellable k d less = is_tellable _ (planned.first k d less)

  rested_legs : (route : RuledRoute) (tour : TourRoute) → IsToldBy rule.rest route tour → IsPlannedFirst route
      → AchievesRestedTour (setting_of net) r stops rule tour
  rested_legs route tour tells f =
      let is = walk_told route f tells.numbered in
      record {
        achieves = achieves_tour net r stops asked rule.rest route is.walk tour tells;
        rested = subst (IsRestedTour (setting_of net).road rule) (sym tells.legs.steps) is.rested;
      }

  -- they are the first of their pair
  first_tour : (route : RuledRoute) (tour : TourRoute) → IsToldBy rule.rest route tour → IsPlannedFirst route
      → IsFirstRestedTour (setting_of net) r stops rule tour
  first_tour route tour tells f steps walk rested =
      let same : TourWalks (setting_of net) stops r.until steps (tour_start r) (tour_end r (length stops) route.pair) =
      subst (λ (w : Pair). TourWalks (setting_of net) stops r.until steps (tour_start r) (tour_end r (length stops) w)) tells.pair walk in
      let least = least_to_goal (setting_of net) r stops rule base planned.bound refl (long_stops net r stops asked) good_rule.rest.0 asked.count
      (based net r stops rule asked good_rule) (low_origin net r stops asked) asked.in_time steps route.pair (record { walk = same; rested = rested }) in
      told_before (setting_of net) stops rule base r.until (tour_start r) (takes_time net asked.good) (long_stops net r stops asked) good_rule.rest.0
      f.achieves.steps least.zs (tour_steps_of tour.legs) steps (f.achieves.node / base) (least.node / base) (tour_end r (length stops) route.pair)
      (found_to_goal (setting_of net) r stops rule base planned.bound refl (long_stops net r stops asked) good_rule.rest.0 asked.count
      (based net r stops rule asked good_rule) (low_origin net r stops asked) asked.in_time f.achieves.node f.achieves.goal f.achieves.steps route.pair
      f.achieves.walk)
      least.traced (reads_told rule.rest route.legs.items f.achieves.steps tells.numbered f.achieves.tells ∙ sym tells.legs.steps) least.told
      (f.first least.node (reverse least.zs) least.goal least.walk)

  pub right_tours : (tours : List TourRoute) → AllZip (IsToldBy rule.rest) routes tours → AreRightRestedTours (setting_of net) r stops rule tours
  right_tours tours tells = record {
    front = subst (IsRestedTourFront (setting_of net) r stops rule) (sym (told_pairs rule.rest routes tours tells))
        (rested_front (setting_of net) r stops rule base planned.bound refl (long_stops net r stops asked) good_rule.rest.0 asked.count
        (based net r stops rule asked good_rule) (low_origin net r stops asked) asked.in_time (map (λ (x : RuledRoute). x.pair) routes) planned.front);
    legs = zip_all (IsToldBy rule.rest) IsPlannedFirst (AchievesRestedTour (setting_of net) r stops rule) rested_legs routes tours tells planned.first;
    first = zip_all (IsToldBy rule.rest) IsPlannedFirst (IsFirstRestedTour (setting_of net) r stops rule) first_tour routes tours tells planned.first;
  }
