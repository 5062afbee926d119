-- Arcs of one area with the same closures and the same rules of their own are closed at the same minutes.
use Rattle.std.proofs.Common.{◌≡◌, ℕ, ◌||◌, Bool, true, false, not, Option, None, unwrap_or, option_and_then, ltb}
use Rattle.std.proofs.Common.{List, [], ◌∷◌, All, get_or, length, refl, sym, ◌∙◌, ap, arith}
use Rattle.std.specs.List.{list_any}
use Rattle.std.specs.Option.{option_or}
use Rattle.std.proofs.lemmas.Bool.{or_parts}
use Rattle.route_base.specs.Runs.{any_has}
use Rattle.vehicle_classes.specs.Classes.{keys_of}
use Rattle.vehicle_classes.specs.Keys.{every_key}
use Rattle.vehicle_classes.specs.VehicleModel.{VehicleModel}
use Rattle.vehicle_classes.specs.declared.classes.Key.{Key}
use Rattle.vehicle_classes.specs.declared.classes.Key.TheVariants as keys
use Rattle.conditional_rules.specs.Accesses.{lets_purpose_in}
use Rattle.conditional_rules.specs.Decisions.{last_given}
use Rattle.conditional_rules.specs.declared.access.Access.{Access}
use Rattle.conditional_rules.specs.declared.access.Access.TheVariants.{Free}
use Rattle.conditional_rules.specs.declared.conditional.Clause.{Clause}
use Rattle.network_tables.specs.Access.{access_given, area_at, area_place, decision_at, given_at, is_closed, is_let_in, places_of}
use Rattle.network_tables.specs.NetworkModel.{NetworkModel, closures_of}
use Rattle.network_tables.specs.Rules.{access_in, clauses_in, conditional_at, has_arc_rules, has_own_rule, has_own_rules, plain_at, rule_value_at}
use Rattle.network_tables.specs.declared.rules.place.RulePlace.{RulePlace}
use Rattle.network_tables.specs.declared.rules.place.Scope.TheVariants as scopes
use Rattle.network_tables.proofs.ArcRules.{at_arc, no_arc_value, no_own_value}
use Rattle.ban_expansion.specs.Inside.AreaBans.{IsPlainIn}
use Rattle.ban_expansion.specs.Inside.Grouping.{AreAlike, HaveSameRules, has_own}
use Rattle.ban_expansion.proofs.ItemLists.{got_fails}

no_items : {A : Type 0} (xs : List A) → ltb 0 (length xs) ≡ false → xs ≡ []
no_items [] h = refl
no_items (x ∷ xs) h = absurd (grind (arith, h))

-- what no key passes, this one doesn't
no_key : (p : Key → Bool) → list_any p every_key ≡ false → (key : Key) → p key ≡ false
no_key p none keys.Access = got_fails p every_key 0 keys.Access refl none
no_key p none keys.Vehicle = got_fails p every_key 1 keys.Vehicle refl none
no_key p none keys.MotorVehicle = got_fails p every_key 2 keys.MotorVehicle refl none
no_key p none keys.Hgv = got_fails p every_key 3 keys.Hgv refl none
no_key p none keys.HgvArticulated = got_fails p every_key 4 keys.HgvArticulated refl none
no_key p none keys.Goods = got_fails p every_key 5 keys.Goods refl none
no_key p none keys.Bus = got_fails p every_key 6 keys.Bus refl none

-- what holds of the list of all keys holds of each key
of_key : (P : Key → Type 0) → All P every_key → (key : Key) → P key
of_key P all keys.Access = all 0 keys.Access (omega arith)
of_key P all keys.Vehicle = all 1 keys.Access (omega arith)
of_key P all keys.MotorVehicle = all 2 keys.Access (omega arith)
of_key P all keys.Hgv = all 3 keys.Access (omega arith)
of_key P all keys.HgvArticulated = all 4 keys.Access (omega arith)
of_key P all keys.Goods = all 5 keys.Access (omega arith)
of_key P all keys.Bus = all 6 keys.Access (omega arith)

pub alike_by_keys : (network : NetworkModel) (a b : ℕ) → area_place network a ≡ area_place network b → closures_of network a ≡ closures_of network b
    → All (HaveSameRules network a b) every_key → AreAlike network a b
alike_by_keys network a b area closures rules = record {
  area = area;
  closures = closures;
  plain = λ key. (of_key (HaveSameRules network a b) rules key).plain;
  conditional = λ key. (of_key (HaveSameRules network a b) rules key).conditional;
}

module _ (network : NetworkModel) (vehicle : VehicleModel) (a b t : ℕ) where
  abbrev given : ℕ → RulePlace → Option Access
  given n = given_at network (area_at network n) vehicle t

  abbrev decides : ℕ → Option (List Clause) → Option Access
  decides n = option_and_then (decision_at vehicle (area_at network n).zone (area_at network n).holidays t)

  same_given : (n : ℕ) (chain : List Key) → ((key : Key) → HaveSameRules network a b key)
      → last_given (given n) (places_of n a chain) ≡ last_given (given n) (places_of n b chain)
  same_given n [] same = refl
  same_given n (key ∷ chain) same =
      let rest = same_given n chain same in
      λ i. option_or (option_or (option_or (option_or (rest i) (decides n ((same key).conditional i))) ((same key).plain i))
      (decides n (conditional_at network.rules (scopes.Area n) key))) (plain_at network.rules (scopes.Area n) key)

  pub let_in_alike : area_place network a ≡ area_place network b → ((key : Key) → HaveSameRules network a b key)
      → is_let_in network vehicle a t ≡ is_let_in network vehicle b t
  let_in_alike area same =
      let chain = keys_of vehicle.class in
      let access : access_given network vehicle a t chain ≡ access_given network vehicle b t chain =
      ap (λ (n : ℕ). last_given (given n) (places_of n a chain)) area ∙ same_given (area_place network b) chain same in
      λ i. lets_purpose_in (unwrap_or (access i) Free) vehicle.purpose

  pub closed_alike : AreAlike network a b → is_closed network vehicle a t ≡ is_closed network vehicle b t
  closed_alike same =
      let inside = let_in_alike same.area (λ key. record { plain = same.plain key; conditional = same.conditional key }) in
      λ i. not (inside i) || any_has (same.closures i) t

module _ (network : NetworkModel) where
  -- arcs without a value for a key have the same rules of their own for it
  same_values : (a b : ℕ) (key : Key) → ((kind : Bool) → rule_value_at network.rules (at_arc a key kind) ≡ None)
      → ((kind : Bool) → rule_value_at network.rules (at_arc b key kind) ≡ None) → HaveSameRules network a b key
  same_values a b key none_a none_b = record {
    plain = ap (option_and_then access_in) (none_a false ∙ sym (none_b false));
    conditional = ap (option_and_then clauses_in) (none_a true ∙ sym (none_b true));
  }

  -- arcs without rules of their own have the same ones
  same_without : (a b : ℕ) → has_own_rules network.rules a ≡ false → has_own_rules network.rules b ≡ false → (key : Key) → HaveSameRules network a b key
  same_without a b none_a none_b key =
      same_values a b key
      (λ kind. no_own_value network.rules a key kind (no_key (has_own_rule network.rules a) none_a key))
      (λ kind. no_own_value network.rules b key kind (no_key (has_own_rule network.rules b) none_b key))

  pub same_if_none : (a b : ℕ) → has_arc_rules network.rules ≡ false → All (HaveSameRules network a b) every_key
  same_if_none a b none = λ i key within.
      let k : Key = get_or every_key i key in
      same_values a b k (λ kind. no_arc_value network.rules a k kind none) (λ kind. no_arc_value network.rules b k kind none)

  -- arcs of one area without rules of their own let a vehicle in at the same minutes
  pub let_in_same : (vehicle : VehicleModel) (area a b t : ℕ) → IsPlainIn network area a → IsPlainIn network area b
      → is_let_in network vehicle a t ≡ is_let_in network vehicle b t
  let_in_same vehicle area a b t one two = let_in_alike network vehicle a b t (one.place ∙ sym two.place) (same_without a b one.rules two.rules)

  pub nothing_own : (a b : ℕ) → area_place network a ≡ area_place network b → has_own network a ≡ false → has_own network b ≡ false → AreAlike network a b
  nothing_own a b area none_a none_b =
      let of_a = or_parts (ltb 0 (length (closures_of network a))) (has_own_rules network.rules a) none_a in
      let of_b = or_parts (ltb 0 (length (closures_of network b))) (has_own_rules network.rules b) none_b in
      let rules = same_without a b of_a.1 of_b.1 in
      record {
        area = area;
        closures = no_items (closures_of network a) of_a.0 ∙ sym (no_items (closures_of network b) of_b.0);
        plain = λ key. (rules key).plain;
        conditional = λ key. (rules key).conditional;
      }
