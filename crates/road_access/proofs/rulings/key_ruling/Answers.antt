use Rattle.std.proofs.Common.{◌≡◌, Bool, true, false, Option, List, option_and_then, option_map, ap, sym, subst, ◌∙◌, arith}
use Rattle.std.specs.Option.{option_or}
use Rattle.opening_hours.specs.Holidays.{HolidayLists}
use Rattle.vehicle_classes.specs.VehicleModel.{VehicleModel}
use Rattle.vehicle_classes.specs.declared.classes.Key.{Key}
use Rattle.zone_rules.specs.Zones.{wall_at}
use Rattle.zone_rules.specs.declared.rows.Wall.{Wall}
use Rattle.conditional_rules.specs.Decisions.{deciding_place}
use Rattle.conditional_rules.specs.declared.conditional.Clause.{Clause}
use Rattle.network_tables.specs.Access.{area_at}
use Rattle.network_tables.specs.NetworkModel.{Area}
use Rattle.network_tables.specs.Rules.{conditional_at}
use Rattle.network_tables.specs.declared.rules.place.Scope.TheVariants as scopes
use Rattle.road_access.specs.declared.rulings.Ruling.{Ruling}
use Rattle.road_access.specs.Rulings.{clause_ruling, plain_ruling}
use Rattle.network_tables.proofs.ArcPlaces.{holidays_there}
use Rattle.road_access.specs.Inside.{DecidesSteadily}
use Rattle.road_access.proofs.SteadyRulings.{same_key}
use Rattle.road_access.proofs.ShownWalls.{shown_there}
use Rattle.road_access.proofs.rulings.key_ruling.Goals as goal

abbrev by_wall : Bool → Key → VehicleModel → HolidayLists → Wall → Option (List Clause) → Option Ruling
by_wall of_arc key vehicle holidays wall o =
    option_and_then (λ clauses. option_and_then (clause_ruling of_arc key clauses)
    (deciding_place vehicle holidays wall.day wall.minute clauses)) o

pub returns-clause-ruling : goal.returns-clause-ruling
returns-clause-ruling c =
    let network = c.args.network.now in
    let rules = network.rules in
    let vehicle = c.args.vehicle.now in
    let key = c.args.key in
    let area : Area = area_at network c.args.area in
    let wall = c.wall-wall.result in
    let holidays = c.holidays_of-holidays.result.now in
    let holidays_are : area.holidays ≡ holidays = holidays_there network c.args.area _ c.holidays_of-holidays.ensures in
    let shown : wall ≡ wall_at area.zone c.args.t =
    shown_there network c.args.area c.args.t c.zone_of.result.now wall c.zone_of.ensures c.wall-wall.ensures.value in
    let decides : (of_arc : Bool) (o : Option (List Clause)) → by_wall of_arc key vehicle holidays wall o
    ≡ by_wall of_arc key vehicle area.holidays (wall_at area.zone c.args.t) o =
    λ of_arc o. ap (λ (w : Wall). by_wall of_arc key vehicle holidays w o) shown
    ∙ ap (λ (h : HolidayLists). by_wall of_arc key vehicle h (wall_at area.zone c.args.t) o) (sym holidays_are) in
    let arc = c.decided.ensures
    ∙ ap (by_wall true key vehicle holidays wall) c.arc_conditional-special.ensures
    ∙ decides true (conditional_at rules (scopes.Arc c.args.a.0) key) in
    let special = c.plain.ensures ∙ ap (option_map (plain_ruling true key)) c.arc_plain.ensures in
    let general = c.decided-2.ensures
    ∙ ap (by_wall false key vehicle holidays wall) c.area_conditional-general.ensures
    ∙ decides false (conditional_at rules (scopes.Area c.args.area) key) in
    let first = c.plain-2.ensures ∙ ap (option_map (plain_ruling false key)) c.area_plain.ensures in
    c.or-ruling.ensures
    ∙ ap (λ (o : Option Ruling). option_or o c.plain-2.result)
    (c.or-2.ensures ∙ ap (λ (o : Option Ruling). option_or o c.decided-2.result) c.or.ensures)
    ∙ (λ i. option_or (option_or (option_or (arc i) (special i)) (general i)) (first i))

pub returns-clause-same : goal.returns-clause-same
returns-clause-same c =
    let network = c.args.network.now in
    let minutes = c.value_steady.result in
    let shown : c.wall-wall.result ≡ wall_at (area_at network c.args.area).zone c.args.t =
    shown_there network c.args.area c.args.t c.zone_of.result.now c.wall-wall.result c.zone_of.ensures c.wall-wall.ensures.value in
    let there : (clauses : List Clause) → DecidesSteadily clauses c.wall-wall.result.minute minutes
    → DecidesSteadily clauses (wall_at (area_at network c.args.area).zone c.args.t).minute minutes =
    λ clauses. subst (λ (w : Wall). DecidesSteadily clauses w.minute minutes) shown in
    same_key network c.args.vehicle.now c.args.area c.args.a.0 c.args.key c.args.t minutes
    (λ clauses is. there clauses (λ lorry holidays day k low.
    c.value_steady-minutes.ensures.same clauses (c.area_conditional-general.ensures ∙ is) lorry holidays day k
    (omega (arith, low, c.value_steady.ensures.most))))
    (λ clauses is. there clauses (c.value_steady.ensures.same clauses (c.arc_conditional-special.ensures ∙ is)))
