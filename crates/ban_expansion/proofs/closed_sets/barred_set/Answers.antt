use Rattle.std.proofs.Common.{ℕ, false, Some, None, Option, [], List, take, unwrap_or, ap, sym, ◌∙◌, arith}
use Rattle.std.specs.Option.{option_or}
use Rattle.std.proofs.lemmas.Option.{slice_get_within}
use Rattle.route_base.specs.Runs.{has_minute}
use Rattle.vehicle_classes.specs.Classes.{keys_of}
use Rattle.vehicle_classes.specs.declared.classes.Key.{Key}
use Rattle.conditional_rules.specs.declared.access.Access.{Access}
use Rattle.conditional_rules.specs.Decisions.{last_given}
use Rattle.network_tables.specs.Access.{access_given, area_at, given_at, places_of_key}
use Rattle.network_tables.proofs.ArcPlaces.{take_none}
use Rattle.road_access.proofs.KeyPlaces.{key_there}
use Rattle.ban_expansion.specs.Bans.{barred_by, given_within}
use Rattle.ban_expansion.proofs.BarredLayers.{lays_as, lays_more, barred_at_last}
use Rattle.ban_expansion.proofs.Places.{next_access}
use Rattle.ban_expansion.proofs.closed_sets.barred_set.Goals as goal

pub keys-preserved : goal.keys-preserved
keys-preserved c =
    let network = c.args.network.now in
    let vehicle = c.args.vehicle.now in
    let area = c.area_of-area.result in
    let there = key_there c.keys.k (Some c.in-Some.key) c.class.ensures c.chain_at.ensures c.in-Some.is in
    let place = ap (λ (o : Option ℕ). unwrap_or o 0) c.area_of-area.ensures.value in
    let of_key : ℕ → Option Access = λ t. last_given (given_at network (area_at network area) vehicle t) (places_of_key area c.args.a.0 c.in-Some.key) in
    let before : ℕ → Option Access = λ t. access_given network vehicle c.args.a.0 t (take c.keys.k (keys_of vehicle.class)) in
    record {
      upto = omega (arith, slice_get_within (keys_of vehicle.class) c.keys.k c.in-Some.key there);
      laid = lays_as vehicle.purpose c.args.window (λ t. option_or (of_key t) (before t)) _ [] c.in_ok-closed.closed
          (λ t. sym (next_access network vehicle c.args.a.0 t c.keys.k c.in-Some.key area place there))
          (lays_more vehicle.purpose c.args.window before of_key [] c.keys.closed c.in_ok-closed.closed c.keys.invariant.laid c.in_ok-closed.ensures);
    }

pub returns : goal.returns
returns c = λ t.
    let network = c.args.network.now in
    let vehicle = c.args.vehicle.now in
    let keys = keys_of vehicle.class in
    let a = c.args.a.0 in
    let none = key_there c.keys.k None c.class.ensures c.chain_at.ensures c.in_default.is in
    c.keys.invariant.laid t
    ∙ ap (λ (ks : List Key). barred_by vehicle.purpose (given_within c.args.window t (access_given network vehicle a t ks)) false)
    (take_none keys c.keys.k none)
    ∙ barred_at_last vehicle.purpose (has_minute t c.args.window) (access_given network vehicle a t keys)
