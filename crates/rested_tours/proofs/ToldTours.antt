-- A tour that is told by a route over states, where the steps that the legs tell are a walk of all stops.
use Rattle.std.proofs.Common.{ℕ, suc, ◌≤◌, ◌<◌, ◌^◌, List, [], ◌∷◌, length, All, sym, subst, arith}
use Rattle.std.proofs.lemmas.List.Elements.{All-cons, All-nil}
use Rattle.route_base.specs.Setting.{Setting}
use Rattle.route_base.specs.Net.{Net, setting_of}
use Rattle.route_base.specs.declared.types.Pair.{Pair}
use Rattle.route_base.specs.declared.types.Request.{Request}
use Rattle.route_base.proofs.Arcs.{takes_time}
use Rattle.route_base.proofs.Numbered.{number_within}
use Rattle.ruled_search.specs.declared.routes.RuledLeg.{RuledLeg}
use Rattle.ruled_search.specs.declared.routes.RuledLeg.TheVariants.{Drive, Rest, Wait, Serve}
use Rattle.ruled_search.specs.declared.routes.RuledRoute.{RuledRoute}
use Rattle.stop_tour.specs.Tours.{TourPosition, TourStep, TourWalks, tour_start, tour_end, AchievesTour}
use Rattle.stop_tour.specs.declared.stops.Stop.{Stop}
use Rattle.stop_tour.specs.declared.stops.TourRoute.{TourRoute}
use Rattle.rested_tours.specs.Inside.ToldLegs.{told, told_by, IsServiceNumbered, AreTellable}
use Rattle.rested_tours.specs.Inside.ToldRoutes.{IsToldBy}
use Rattle.rested_tours.proofs.StopsBase.{IsAsked, long_stops}
use Rattle.rested_tours.proofs.TourWalking.{short_tour, tour_parts}

module _ (s : Setting) (stops : List Stop) (until : ℕ) where
  -- a stop that is served on the way has a number
  served_numbers : length stops < 2 ^ 32 → (rest : ℕ) (legs : List RuledLeg) (p q : TourPosition) → TourWalks s stops until (told rest legs) p q
      → All IsServiceNumbered legs
  served_numbers few rest [] p q walk = All-nil IsServiceNumbered
  served_numbers few rest (leg ∷ legs) p q walk =
      let parts = tour_parts s stops until (told_by rest leg) (told rest legs) p q walk in
      All-cons IsServiceNumbered leg legs (one leg p parts.0 parts.1) (served_numbers few rest legs parts.0 q parts.2)
    where
      one : (leg : RuledLeg) (p q : TourPosition) → TourWalks s stops until (told_by rest leg) p q → IsServiceNumbered leg
      one (Drive a) p q walk = tt
      one (Rest place) p q walk = tt
      one (Wait minutes) p q walk = tt
      one (Serve place) p q walk = omega (arith, few, number_within stops (suc place) walk.1.stop walk.1.is)

module _ (net : Net) (r : Request) (stops : List Stop) (asked : IsAsked net r stops) (rest : ℕ) (route : RuledRoute)
    (walk : TourWalks (setting_of net) stops r.until (told rest route.legs.items) (tour_start r) (tour_end r (length stops) route.pair)) where
  -- its legs can be told
  pub tellable : 1 ≤ rest → AreTellable rest route.legs.items
  tellable some =
      let short = short_tour (setting_of net) stops r.until (takes_time net asked.good) (long_stops net r stops asked) (told rest route.legs.items)
      (tour_start r) (tour_end r (length stops) route.pair) asked.in_time walk in
      record {
        some = some;
        short = omega (arith, short, asked.ends.until);
        stops = served_numbers (setting_of net) stops r.until asked.count rest route.legs.items (tour_start r) (tour_end r (length stops) route.pair) walk;
      }

  -- it achieves its pair
  pub achieves_tour : (tour : TourRoute) → IsToldBy rest route tour → AchievesTour (setting_of net) r stops tour
  achieves_tour tour tells = record {
    in_time = asked.in_time;
    no_empty_wait = tells.legs.no_empty_wait;
    walk = subst (λ (w : List TourStep). TourWalks (setting_of net) stops r.until w (tour_start r) (tour_end r (length stops) tour.pair))
        (sym tells.legs.steps)
        (subst (λ (w : Pair). TourWalks (setting_of net) stops r.until (told rest route.legs.items) (tour_start r) (tour_end r (length stops) w))
        (sym tells.pair) walk);
    apart = tells.legs.apart;
  }
