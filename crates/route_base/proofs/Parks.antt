-- What is known of the parks of a well-formed net.
use Rattle.std.proofs.Common.{◌≡◌, ℕ, ◌≤◌, Option, Some, None, refl, ap, arith}
use Rattle.std.specs.Option.{option_map, option_flatten, ForSome}
use Rattle.route_base.specs.Net.{Net, IsGoodNet, IsGoodPark, park_at, setting_of, at_number}
use Rattle.route_base.specs.declared.limits.TheConstants.{HEAVIEST_WEIGHT}
use Rattle.route_base.specs.declared.types.Park.{Park}
use Rattle.route_base.proofs.Logic.{flat_some}
use Rattle.route_base.proofs.Numbered.{at_number-all}

told : (o : Option (Option Park)) (w : ℕ) → option_map (λ park. park.weight) (option_flatten o) ≡ Some w
    → (park : Park) × (o ≡ Some (Some park)) × (park.weight ≡ w)
told None w is = absurd cc
told (Some None) w is = absurd cc
told (Some (Some park)) w is = (park, refl, cc)

module _ (net : Net) (good : IsGoodNet net) where
  -- the park of a node is well-formed
  pub good_park : (v : ℕ) (park : Park) → park_at net v ≡ Some park → IsGoodPark net park
  good_park v park is = let at = flat_some (at_number net.parks v) park is in
      at_number-all (λ o. ForSome o (IsGoodPark net)) net.parks v (Some park) good.each_park at park refl

  -- a rated node has a park, which is well-formed
  pub rated_park : (v w : ℕ) → (setting_of net).weight v ≡ Some w → (park : Park) × (park_at net v ≡ Some park) × (park.weight ≡ w) × IsGoodPark net park
  rated_park v w rated =
      let t = told (at_number net.parks v) w rated in
      (t.0, ap option_flatten t.1, t.2, good_park v t.0 (ap option_flatten t.1))

  pub weight_small : (v w : ℕ) → (setting_of net).weight v ≡ Some w → w ≤ HEAVIEST_WEIGHT
  weight_small v w rated = let p = rated_park v w rated in omega (arith, p.3.weight, p.2)
