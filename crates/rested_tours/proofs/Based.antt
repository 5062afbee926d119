-- The base of the states of rested tours, and cheap roads.
use Rattle.std.proofs.Common.{◌≡◌, ℕ, zero, suc, ◌*◌, ◌≤◌, Some, None, [], ◌∷◌, List, refl, sym, subst, arith}
use Rattle.std.specs.Prelude.{slice_get}
use Rattle.std.proofs.lemmas.Option.{same_Some}
use Rattle.route_base.specs.Setting.{Road}
use Rattle.route_base.specs.Net.{Net, road_of, at_number, setting_of}
use Rattle.route_base.specs.declared.limits.TheConstants.{DEAREST_MINUTE}
use Rattle.route_base.specs.declared.types.Request.{Request}
use Rattle.route_base.proofs.Logic.{map_some}
use Rattle.route_base.proofs.Numbered.{at_number-all}
use Rattle.drive_breaks.specs.Rested.{IsGoodRule}
use Rattle.drive_states.specs.declared.rule.BreakRule.{BreakRule}
use Rattle.front_transport.specs.CheapArcs.{HasCheapArcs}
use Rattle.ruled_states.specs.Inside.Codes.{base}
use Rattle.state_dominance.specs.Inside.Product.{IsBase}
use Rattle.state_dominance.specs.OneRule.{one_rule}
use Rattle.stop_tour.specs.declared.stops.Stop.{Stop}
use Rattle.rested_tours.specs.Inside.TourRuler.{tour_ruler}
use Rattle.rested_tours.proofs.StopsBase.{IsAsked, stops_base}

-- no cost of an arc is too dear where none in the list is
pub cheap_roads : (net : Net) → HasCheapArcs net → (a : ℕ) (road : Road) → (setting_of net).road a ≡ Some road → road.cost ≤ DEAREST_MINUTE * road.minutes
cheap_roads net cheap a road is =
    let arc = map_some (at_number net.arcs a) road_of road is in
    subst (λ (w : Road). w.cost ≤ DEAREST_MINUTE * w.minutes) arc.2
    (at_number-all (λ b. b.cost ≤ DEAREST_MINUTE * b.minutes) net.arcs a arc.0 cheap arc.1)

module _ (net : Net) (r : Request) (stops : List Stop) (rule : BreakRule) (asked : IsAsked net r stops) (good_rule : IsGoodRule rule) where
  one_rest : (i minutes : ℕ) → slice_get (rule.rest ∷ []) i ≡ Some minutes → (i ≡ 0) × (minutes ≡ rule.rest)
  one_rest zero minutes is = (refl, sym (same_Some rule.rest minutes is))
  one_rest (suc i) minutes is = let bad : None ≡ Some minutes = is in absurd (cc)

  pub based : IsBase (setting_of net) (tour_ruler stops rule) base
  based = stops_base net r stops asked (one_rule rule.drive rule.rest)
      (λ i minutes is. (omega (arith, (one_rest i minutes is).0), omega (arith, (one_rest i minutes is).1, good_rule.rest.0)))
