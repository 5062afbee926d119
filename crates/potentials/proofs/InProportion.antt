-- Sums up to caps; where costs are in proportion to minutes, the least costs follow from the least minutes.
use Rattle.std.proofs.Common.{◌≡◌, inl, inr, ⊎_elim, ℕ, ◌+◌, ◌-◌, ◌*◌, ◌^◌, ◌≤◌, Option, Some, None, List, [], ◌∷◌, map, refl, sym}
use Rattle.std.proofs.Common.{subst, arith}
use Rattle.std.specs.Option.{option_map}
use Rattle.route_base.specs.Setting.{Road}
use Rattle.route_base.specs.Net.{Net, IsGoodNet, setting_of}
use Rattle.route_base.specs.declared.types.Bound.{Bound}
use Rattle.route_base.specs.declared.limits.TheConstants.{COST_OF_MINUTE}
use Rattle.label_queue.specs.Keys.{key_at}
use Rattle.label_queue.proofs.Viewing.{key_at-map}
use Rattle.potentials.specs.Sums.{Leads}
use Rattle.potentials.specs.Proportion.{IsProportional, AreProportional}
use Rattle.potentials.specs.Inside.Caps.{AreSumsUpTo, HaveCosts, IsCapForBoth, IsPastCap}
use Rattle.potentials.specs.Inside.Summing.{IsPastAt, IsSumBelow, AreSmall, AreSumsBelow, counted_on}
use Rattle.potentials.specs.declared.sums.Counted.{Counted}
use Rattle.potentials.specs.declared.sums.Counted.TheVariants.{Minutes, Cost}

-- where each sum that is past one end is past another
past_weaker : (roads : ℕ → Option Road) (count : Road → ℕ) (goal : ℕ) (past other : ℕ → Type 0) → ((sum : ℕ) → past sum → other sum) → (v : ℕ) (o : Option ℕ)
    → IsSumBelow roads count goal past v o → IsSumBelow roads count goal other v o
past_weaker roads count goal past other weaker v None below = λ arcs sum leads. weaker sum (below arcs sum leads)
past_weaker roads count goal past other weaker v (Some x) below = (
  below.0,
  λ arcs sum leads. ⊎_elim (λ (le : x ≤ sum). inl le) (λ (end : past sum). inr (weaker sum end)) (below.1 arcs sum leads),
)

module _ (roads : ℕ → Option Road) (goal : ℕ) (all : AreProportional roads) where
  rate : (a : ℕ) (road : Road) → roads a ≡ Some road → road.cost ≡ COST_OF_MINUTE * road.minutes
  rate a road is = subst IsProportional is (all a)

  in_minutes : (arcs : List ℕ) (v x : ℕ) → Leads roads (λ r. r.cost) goal arcs v x
      → (m : ℕ) × Leads roads (λ r. r.minutes) goal arcs v m × (x ≡ COST_OF_MINUTE * m)
  in_minutes [] v x leads = (0, (leads.0, refl), omega (arith, leads.1))
  in_minutes (a ∷ arcs) v x leads =
      let road = leads.0 in
      let rest = in_minutes arcs road.head leads.1 leads.4 in
      (road.minutes + rest.0, (road, rest.0, leads.2, leads.3, rest.1, refl), omega (arith, rate a road leads.2, rest.2, leads.5))

  in_cost : (arcs : List ℕ) (v m : ℕ) → Leads roads (λ r. r.minutes) goal arcs v m → Leads roads (λ r. r.cost) goal arcs v (COST_OF_MINUTE * m)
  in_cost [] v m leads = (leads.0, omega (arith, leads.1))
  in_cost (a ∷ arcs) v m leads =
      let road = leads.0 in (
        road,
        COST_OF_MINUTE * leads.1,
        leads.2,
        leads.3,
        in_cost arcs road.head leads.1 leads.4,
        omega (arith, rate a road leads.2, leads.5),
      )

  -- each sum of costs that is past the end is one whose minutes are
  pub costs_below : (past : ℕ → Type 0) (v : ℕ) (o : Option ℕ) → IsSumBelow roads (λ r. r.minutes) goal past v o
      → IsSumBelow roads (λ r. r.cost) goal (λ x. (m : ℕ) × (x ≡ COST_OF_MINUTE * m) × past m) v (option_map (λ m. COST_OF_MINUTE * m) o)
  costs_below past v None none = λ arcs x leads. let walk = in_minutes arcs v x leads in (walk.0, walk.2, none arcs walk.0 walk.1)
  costs_below past v (Some least) below = (
    (below.0.0, in_cost below.0.0 v least below.0.1),
    λ arcs x leads.
        let walk = in_minutes arcs v x leads in
        ⊎_elim
        (λ (le : least ≤ walk.0). inl (omega (arith, le, walk.2)))
        (λ (end : past walk.0). inr (walk.0, walk.2, end))
        (below.1 arcs walk.0 walk.1),
  )

-- a search has no end below the highest number
never_past : (net : Net) (counted : Counted) (sum : ℕ) → IsGoodNet net → IsPastAt net counted (2 ^ 64 - 1) sum → ⊥
never_past net Minutes sum good end = omega (arith, end.added, good.nodes)
never_past net Cost sum good end = omega (arith, end.added, good.nodes)

-- the cap that a search is given: the highest number where there is none
abbrev pub cap_or_last : Option ℕ → ℕ
cap_or_last None = 2 ^ 64 - 1
cap_or_last (Some cap) = cap

-- what a search finds below a cap it finds up to it
pub up_to_cap : (net : Net) (counted : Counted) (goal : ℕ) (most : Option ℕ) (sums : List (Option ℕ)) → IsGoodNet net
    → AreSumsBelow net counted goal (cap_or_last most) sums → AreSumsUpTo net counted goal most sums
up_to_cap net counted goal None sums good below v =
    past_weaker (setting_of net).road (counted_on counted) goal (IsPastAt net counted (2 ^ 64 - 1)) (IsPastCap None)
    (λ sum end. never_past net counted sum good end) v (key_at sums v) (below v)
up_to_cap net counted goal (Some most) sums good below v =
    past_weaker (setting_of net).road (counted_on counted) goal (IsPastAt net counted most) (IsPastCap (Some most))
    (λ sum end. end.within) v (key_at sums v) (below v)

-- up to a cap for both it finds minutes up to their cap, and costs up to theirs
module _ (net : Net) (goal : ℕ) (good : IsGoodNet net) (cap : ℕ) (minutes : List (Option ℕ)) (below : AreSumsBelow net Minutes goal cap minutes) where
  pub minutes_to : (caps : Option Bound) → IsCapForBoth caps cap → AreSumsUpTo net Minutes goal (option_map (λ b. b.minutes) caps) minutes
  minutes_to None is v =
      past_weaker (setting_of net).road (λ r. r.minutes) goal (IsPastAt net Minutes cap) (IsPastCap None)
      (λ sum end. omega (arith, end.added, good.nodes, is)) v (key_at minutes v) (below v)
  minutes_to (Some most) is v =
      past_weaker (setting_of net).road (λ r. r.minutes) goal (IsPastAt net Minutes cap) (IsPastCap (Some most.minutes))
      (λ sum end. omega (arith, end.within, is.0)) v (key_at minutes v) (below v)

  costs_at : AreProportional (setting_of net).road → (v : ℕ) → IsSumBelow (setting_of net).road (λ r. r.cost) goal
      (λ x. (m : ℕ) × (x ≡ COST_OF_MINUTE * m) × IsPastAt net Minutes cap m) v (key_at (map (option_map (λ m. COST_OF_MINUTE * m)) minutes) v)
  costs_at all v = subst (IsSumBelow (setting_of net).road (λ r. r.cost) goal (λ x. (m : ℕ) × (x ≡ COST_OF_MINUTE * m) × IsPastAt net Minutes cap m) v)
      (sym (key_at-map (λ m. COST_OF_MINUTE * m) minutes v))
      (costs_below (setting_of net).road goal all (IsPastAt net Minutes cap) v (key_at minutes v) (below v))

  pub costs_to : AreProportional (setting_of net).road → (caps : Option Bound) → IsCapForBoth caps cap
      → AreSumsUpTo net Cost goal (option_map (λ b. b.cost) caps) (map (option_map (λ m. COST_OF_MINUTE * m)) minutes)
  costs_to all None is v =
      past_weaker (setting_of net).road (λ r. r.cost) goal (λ x. (m : ℕ) × (x ≡ COST_OF_MINUTE * m) × IsPastAt net Minutes cap m) (IsPastCap None)
      (λ x end. omega (arith, end.2.added, good.nodes, is)) v (key_at (map (option_map (λ m. COST_OF_MINUTE * m)) minutes) v) (costs_at all v)
  costs_to all (Some most) is v =
      past_weaker (setting_of net).road (λ r. r.cost) goal (λ x. (m : ℕ) × (x ≡ COST_OF_MINUTE * m) × IsPastAt net Minutes cap m)
      (IsPastCap (Some most.cost)) (λ x end. omega (arith, end.1, end.2.within, is.1)) v (key_at (map (option_map (λ m. COST_OF_MINUTE * m)) minutes) v)
      (costs_at all v)

-- the cost of each sum of minutes fits its type
pub have_costs : (net : Net) (minutes : List (Option ℕ)) → IsGoodNet net → AreSmall net Minutes minutes → HaveCosts minutes
have_costs net minutes good small v x is = omega (arith, small v x is, good.nodes)
