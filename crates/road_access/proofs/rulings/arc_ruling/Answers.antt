use Rattle.std.proofs.Common.{◌≡◌, ℕ, Some, None, Option, unwrap_or, ap, sym, subst, refl, ◌∙◌, arith}
use Rattle.std.specs.Option.{option_or}
use Rattle.std.proofs.lemmas.Option.{slice_get_within}
use Rattle.vehicle_classes.specs.Classes.{keys_of}
use Rattle.conditional_rules.specs.Decisions.{last_given}
use Rattle.network_tables.specs.Access.{area_at, area_place, places_of_key}
use Rattle.network_tables.proofs.ArcPlaces.{given_next}
use Rattle.road_access.specs.Inside.{PlacesSteadily}
use Rattle.road_access.specs.Rulings.{ruling_at}
use Rattle.road_access.proofs.KeyPlaces.{key_there}
use Rattle.road_access.proofs.SteadyRulings.{all_keys, one_key_more}
use Rattle.road_access.proofs.rulings.arc_ruling.Goals as goal

pub keys-init : goal.keys-init
keys-init c = record {
  upto = omega arith;
  ruling = refl;
  some = omega arith;
  within = omega arith;
  same = λ u soon. refl;
}

pub keys-preserved : goal.keys-preserved
keys-preserved c =
    let network = c.args.network.now in
    let vehicle = c.args.vehicle.now in
    let keys = keys_of vehicle.class in
    let k = c.keys.k in
    let key = c.in-Some.key in
    let there = key_there k (Some key) c.class.ensures c.chain_at.ensures c.in-Some.is in
    let area = area_place network c.args.a.0 in
    let place : area ≡ c.area_of-area.result = ap (λ (o : Option ℕ). unwrap_or o 0) c.area_of-area.ensures.value in
    let within = slice_get_within keys k key there in
    let given = c.key_ruling-here.ensures in
    let f = ruling_at network (area_at network area) vehicle c.args.t in
    let here : c.key_ruling-here.result.ruling ≡ last_given f (places_of_key area c.args.a.0 key) =
    given.ruling
    ∙ ap (λ (n : ℕ). last_given (ruling_at network (area_at network n) vehicle c.args.t) (places_of_key n c.args.a.0 key)) (sym place) in
    record {
      upto = omega (arith, within);
      ruling = c.or-ruling.ensures
          ∙ (λ i. option_or (here i) (c.keys.invariant.ruling i))
          ∙ sym (given_next f area c.args.a.0 keys k key there);
      some = given.some;
      within = omega (arith, given.most, c.keys.invariant.within);
      same = one_key_more network vehicle area c.args.a.0 keys k key c.args.t c.keys.minutes c.key_ruling-here.result.minutes
          there given.most c.keys.invariant.same
          (subst (λ (n : ℕ). PlacesSteadily network (area_at network n) vehicle c.args.t (places_of_key n c.args.a.0 key)
          c.key_ruling-here.result.minutes)
          (sym place) given.same);
    }

pub returns-clause-same : goal.returns-clause-same
returns-clause-same c =
    let vehicle = c.args.vehicle.now in
    let none = key_there c.keys.k None c.class.ensures c.chain_at.ensures c.in_default.is in
    all_keys c.args.network.now vehicle (area_place c.args.network.now c.args.a.0) c.args.a.0 (keys_of vehicle.class) c.keys.k c.args.t
    c.keys.minutes none c.keys.invariant.same
