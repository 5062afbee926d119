-- Arcs of a net, and where they end.
use Rattle.std.proofs.Common.{◌≡◌, inl, ⊎_elim, ℕ, zero, suc, ◌+◌, ◌-◌, ◌*◌, ◌^◌, ◌≤◌, ◌<◌, Option, Some, None, List, [], length, sym, ◌∙◌, ap, arith}
use Rattle.std.specs.Option.{option_map}
use Rattle.std.proofs.lemmas.Bool.{cases_eq}
use Rattle.std.proofs.Math.Nat.{mul-le-mul_left}
use Rattle.route_base.specs.Setting.{Road}
use Rattle.route_base.specs.Net.{Net, IsGoodNet, IsGoodArc, road_of, setting_of, at_number}
use Rattle.route_base.specs.declared.limits.TheConstants.{MOST_NET_NODES}
use Rattle.route_base.specs.declared.types.TimedArc.{TimedArc}
use Rattle.label_queue.specs.Keys.{key_at, IsOneOfLeastTaken}
use Rattle.potentials.specs.Inside.Summing.{IsSumming, IsSummed, unsettled, counted_on, most_on, WorksAt, unsettled_at}
use Rattle.potentials.specs.Inside.Totals.{total}
use Rattle.node_arcs.specs.Stars.{EndsAt}
use Rattle.node_arcs.specs.declared.links.End.TheVariants.{Head}
use Rattle.route_base.proofs.Logic.{map_some}
use Rattle.route_base.proofs.Arcs.{good_arc}
use Rattle.potentials.specs.declared.sums.Counted.{Counted}
use Rattle.potentials.specs.declared.sums.Counted.TheVariants.{Minutes, Cost}
use Rattle.potentials.proofs.Summing.{takes_least}

pub cheap : (net : Net) (counted : Counted) (arc : TimedArc) → IsGoodArc net arc → counted_on counted (road_of arc) ≤ most_on counted
cheap net Minutes arc good = good.minutes.1
cheap net Cost arc good = good.cost

-- a sum over an arc fits its type, below the highest number
pub sum_fits : (counted : Counted) (n x nodes : ℕ) → n ≤ most_on counted → x + most_on counted ≤ most_on counted * (nodes + 1) → nodes ≤ MOST_NET_NODES
    → n + x < 2 ^ 64 - 1
sum_fits Minutes n x nodes cheap room few = omega (arith, cheap, room, few)
sum_fits Cost n x nodes cheap room few = omega (arith, cheap, room, few)

pub head_of : (o : Option TimedArc) (arc : TimedArc) (v : ℕ) → o ≡ Some arc → option_map (λ w. w.head.0) o ≡ Some v → arc.head.0 ≡ v
head_of None arc v is ends = cc
head_of (Some w) arc v is ends = let e : w ≡ arc = cc in let f : w.head.0 ≡ v = cc in ap (λ (z : TimedArc). z.head.0) (sym e) ∙ f

road_head : (o : Option TimedArc) (road : Road) (v : ℕ) → option_map road_of o ≡ Some road → road.head ≡ v → option_map (λ w. w.head.0) o ≡ Some v
road_head None road v is head = cc
road_head (Some w) road v is head = let e : road_of w ≡ road = cc in ap (λ n. Some n) (ap (λ (z : Road). z.head) e ∙ head)

pub ends_of : (net : Net) (a v : ℕ) (road : Road) → (setting_of net).road a ≡ Some road → road.head ≡ v → EndsAt net Head v a
ends_of net a v road is head = road_head (at_number net.arcs a) road v is head

-- no arc ends at node 0
pub no_zero : (net : Net) → IsGoodNet net → (a : ℕ) (road : Road) → (setting_of net).road a ≡ Some road → road.head ≡ 0 → ⊥
no_zero net good a road is none =
    let arc = map_some (at_number net.arcs a) road_of road is in
    omega (arith, (good_arc net good a arc.0 arc.1).head, none, ap (λ (z : Road). z.head) arc.2)

pub few_by : (n : ℕ) (f : ℕ → ℕ) → ((v : ℕ) → f v ≤ 1) → total n f ≤ n
unfolding total
few_by zero f le = omega arith
few_by (suc n) f le = omega (arith, few_by n f le, le n)

-- the goal alone is known, and waits
pub begins : (roads : ℕ → Option Road) (count : Road → ℕ) (goal nodes most cap : ℕ) (known keys : ℕ → Option ℕ) → known goal ≡ Some 0
    → ((v : ℕ) → (v ≡ goal → ⊥) → known v ≡ None) → keys goal ≡ Some 0 → ((v : ℕ) → (v ≡ goal → ⊥) → keys v ≡ None)
    → IsSumming roads count goal nodes most cap 0 known keys
begins roads count goal nodes most cap known keys here others key no_keys = record {
  at_goal = record { least = 0; is = here; within = omega arith };
  sound = λ v x is. let o = only known here others v x is in ([], (o.0, o.1));
  waits = λ v x is. let o = only keys key no_keys v x is in ap known o.0 ∙ (here ∙ ap (λ n. Some n) (sym o.1));
  before = λ u v x y is gone waiting. let o = only known here others u x is in let bad : None ≡ Some 0 = sym gone ∙ (ap keys o.0 ∙ key) in cc;
  relaxed = λ a x road is known_x. let o = only known here others road.head x known_x in inl (0, ap keys o.0 ∙ key);
  small = λ v x is. let o = only known here others v x is in omega (arith, o.1, mul-le-mul_left most (few (suc nodes)));
}
  where
    only : (f : ℕ → Option ℕ) → f goal ≡ Some 0 → ((v : ℕ) → (v ≡ goal → ⊥) → f v ≡ None) → (v x : ℕ) → f v ≡ Some x → (v ≡ goal) × (x ≡ 0)
    only f at none v x is = ⊎_elim
        (λ (same : v ≡ goal). let e : Some x ≡ Some 0 = sym is ∙ (ap f same ∙ at) in (same, cc))
        (λ (other : v ≡ goal → ⊥). let bad : None ≡ Some x = sym (none v other) ∙ is in cc)
        (cases_eq v goal)

    one : (a b : Option ℕ) → unsettled a b ≤ 1
    one None b = omega arith
    one (Some y) None = omega arith
    one (Some y) (Some k) = omega arith

    few : (n : ℕ) → total n (λ v. unsettled (known v) (keys v)) ≤ n
    few n = few_by n (λ v. unsettled (known v) (keys v)) (λ v. one (known v) (keys v))

-- the least node is taken out to work
pub goes_to_work : (net : Net) (counted : Counted) (goal cap v x : ℕ) (known old_keys new_keys : List (Option ℕ)) → IsGoodNet net → length old_keys ≡ net.nodes
    → IsSummed net counted goal cap 0 known old_keys → IsOneOfLeastTaken old_keys new_keys v x
    → IsSummed net counted goal cap v known new_keys × WorksAt net counted v x known new_keys × (unsettled_at net known new_keys + 1 ≤ unsettled_at
    net known old_keys)
goes_to_work net counted goal cap v x known old_keys new_keys good room facts taken =
    takes_least (setting_of net).road (counted_on counted) goal net.nodes (most_on counted) cap v x (key_at known) (key_at old_keys) (key_at new_keys)
    (no_zero net good) (omega (arith, taken.node, room)) facts taken.was
    taken.least taken.now.here taken.now.others
