use Rattle.std.proofs.Common.{◌≡◌, ℕ, Option, List, option_map, option_and_then, ap, ◌∙◌}
use Rattle.std.specs.Option.{option_or}
use Rattle.conditional_rules.specs.declared.access.Access.{Access}
use Rattle.conditional_rules.specs.declared.conditional.Clause.{Clause}
use Rattle.network_tables.specs.Access.{area_at, decision_at}
use Rattle.network_tables.specs.Rules.{conditional_at}
use Rattle.network_tables.specs.declared.rules.place.Scope.TheVariants as scopes
use Rattle.ban_expansion.proofs.BarredLayers.{lays_as, lays_more}
use Rattle.ban_expansion.proofs.Places.{decided_there}
use Rattle.ban_expansion.proofs.closed_sets.lay_key.Goals as goal

pub returns : goal.returns
returns c =
    let network = c.args.network.now in
    let vehicle = c.args.vehicle.now in
    let purpose = vehicle.purpose in
    let window = c.args.window in
    let held : ℕ → Option (List Clause) → Option Access = λ t o. option_and_then (decision_at vehicle c.zone_of.result.now c.holidays_of.result.now t) o in
    let decides : (t : ℕ) (o : Option (List Clause)) → held t o
    ≡ option_and_then (decision_at vehicle (area_at network c.args.area).zone (area_at network c.args.area).holidays t) o =
    λ t o. decided_there network vehicle c.args.area t c.zone_of.ensures c.holidays_of.ensures o in
    let general : ℕ → Option Access = λ t. held t (option_map (λ x. x.now) c.area_conditional.result) in
    let special : ℕ → Option Access = λ t. held t (option_map (λ x. x.now) c.arc_conditional.result) in
    let area_plain : ℕ → Option Access = λ t. c.area_plain.result in
    let arc_plain : ℕ → Option Access = λ t. c.arc_plain.result in
    let general_is = λ (t : ℕ). ap (held t) c.area_conditional.ensures ∙ decides t (conditional_at network.rules (scopes.Area c.args.area) c.args.key) in
    let special_is = λ (t : ℕ). ap (held t) c.arc_conditional.ensures ∙ decides t (conditional_at network.rules (scopes.Arc c.args.a.0) c.args.key) in
    let arc_values = lays_more purpose window arc_plain special c.in_ok-closed-2.closed c.in_ok-closed-3.closed c.in_ok-closed-4.closed
    c.in_ok-closed-3.ensures c.in_ok-closed-4.ensures in
    let arc_over = lays_more purpose window general (λ t. option_or (special t) (arc_plain t))
    c.in_ok-closed.closed c.in_ok-closed-2.closed c.in_ok-closed-4.closed c.in_ok-closed-2.ensures arc_values in
    let all = lays_more purpose window area_plain (λ t. option_or (option_or (special t) (arc_plain t)) (general t))
    c.args.closed c.in_ok-closed.closed c.in_ok-closed-4.closed c.in_ok-closed.ensures arc_over in
    lays_as purpose window (λ t. option_or (option_or (option_or (special t) (arc_plain t)) (general t)) (area_plain t)) _ c.args.closed c.in_ok-closed-4.closed
    (λ t i. option_or (option_or (option_or (special_is t i) (c.arc_plain.ensures i)) (general_is t i)) (c.area_plain.ensures i)) all
