-- Least sums as bounds.
use Rattle.std.specs.Option.{option_flatten}
use Rattle.std.proofs.Common.{◌≡◌, ⊎_elim, ℕ, suc, ◌+◌, ◌-◌, ◌≤◌, ◌<◌, Option, Some, None, List, [], ◌∷◌, ◌++◌, length, refl, sym, ◌∙◌, ap, subst, arith}
use Rattle.std.specs.Prelude.{slice_get}
use Rattle.std.proofs.lemmas.Bool.{cases_lt}
use Rattle.route_base.specs.Net.{Net, at_number, setting_of}
use Rattle.label_queue.specs.Keys.{key_at}
use Rattle.label_queue.proofs.Places.{key_past, key_zero}
use Rattle.std.specs.Option.{option_map}
use Rattle.route_base.specs.Setting.{Setting, Road}
use Rattle.route_base.specs.Relaxing.{AreBounds, IsBoundThrough}
use Rattle.route_base.specs.declared.types.Bound.{Bound}
use Rattle.route_base.proofs.Numbered.{number_past}
use Rattle.route_base.proofs.Items.{slice_get-append_left, slice_get-push_end}
use Rattle.potentials.specs.Sums.{Leads, IsLeastSum, AreLeastBounds, AreBoundsTo, bound_at}
use Rattle.potentials.specs.Inside.Caps.{AreBoundsIn, AreSumsTo, IsPastCap, bound_of_sums, costs_of}
use Rattle.potentials.specs.Inside.Summing.{IsSumBelow}
use Rattle.potentials.specs.declared.bounds.Sums.{Sums}

-- the same arcs, with another count
pub counted_too : (roads : ℕ → Option Road) (one two : Road → ℕ) (goal : ℕ) (arcs : List ℕ) (v sum : ℕ) → Leads roads one goal arcs v sum → (other : ℕ)
    × Leads roads two goal arcs v other
counted_too roads one two goal [] v sum leads = (0, (leads.0, refl))
counted_too roads one two goal (a ∷ arcs) v sum leads =
    let rest = counted_too roads one two goal arcs leads.0.head leads.1 leads.4 in
    (two leads.0 + rest.0, (leads.0, rest.0, leads.2, leads.3, rest.1, refl))

-- a node has both bounds or none
pub both_least : (roads : ℕ → Option Road) (one two : Road → ℕ) (goal v : ℕ) (x y : Option ℕ) → IsLeastSum roads one goal v x → IsLeastSum roads two goal v y
    → IsLeastSum roads one goal v (option_map (λ b. b.minutes) (bound_of_sums x y)) × IsLeastSum roads two goal v (option_map (λ b. b.cost) (bound_of_sums x y))
both_least roads one two goal v None y p q = (p, λ arcs sum leads. let other = counted_too roads two one goal arcs v sum leads in p arcs other.0 other.1)
both_least roads one two goal v (Some x) None p q =
    ((λ arcs sum leads. let other = counted_too roads one two goal arcs v sum leads in q arcs other.0 other.1), q)
both_least roads one two goal v (Some x) (Some y) p q = (p, q)

pub no_bound : (b : Bound) → b.minutes ≡ 0 → b.cost ≡ 0 → Some b ≡ Some (record { minutes = 0; cost = 0 })
no_bound b m c = ap (λ (n : ℕ). Some (record { minutes = n; cost = b.cost })) m ∙ ap (λ (n : ℕ). Some (record { minutes = 0; cost = n })) c

module _ (s : Setting) (goal : ℕ) (bounds : ℕ → Option Bound) (least : AreLeastBounds s goal bounds) where
  at_goal : (o : Option Bound) → IsLeastSum s.road (λ r. r.minutes) goal goal (option_map (λ b. b.minutes) o)
      → IsLeastSum s.road (λ r. r.cost) goal goal (option_map (λ b. b.cost) o) → o ≡ Some (record { minutes = 0; cost = 0 })
  at_goal None p q = absurd (p [] 0 (refl, refl))
  at_goal (Some b) p q = no_bound b (omega (arith, p.1 [] 0 (refl, refl))) (omega (arith, q.1 [] 0 (refl, refl)))

  through : (a : ℕ) (road : Road) (h : Bound) → s.road a ≡ Some road → (o o' : Option Bound) → o ≡ Some h
      → IsLeastSum s.road (λ r. r.minutes) goal road.head (option_map (λ b. b.minutes) o)
      × IsLeastSum s.road (λ r. r.cost) goal road.head (option_map (λ b. b.cost) o)
      → IsLeastSum s.road (λ r. r.minutes) goal road.tail (option_map (λ b. b.minutes) o')
      × IsLeastSum s.road (λ r. r.cost) goal road.tail (option_map (λ b. b.cost) o')
      → (b : Bound) × (o' ≡ Some b) × IsBoundThrough road h b
  through a road h is None o' there far near = cc
  through a road h is (Some g) None there far near = absurd (near.0 (a ∷ far.0.0.0) (road.minutes + g.minutes) (road, g.minutes, is, refl, far.0.0.1, refl))
  through a road h is (Some g) (Some b) there far near =
      let e : g ≡ h = cc in (
        b,
        refl,
        record {
          minutes = omega (
            arith,
            near.0.1 (a ∷ far.0.0.0) (road.minutes + g.minutes) (road, g.minutes, is, refl, far.0.0.1, refl),
            ap (λ (w : Bound). w.minutes) e,
          );
          cost = omega (arith, near.1.1 (a ∷ far.1.0.0) (road.cost + g.cost) (road, g.cost, is, refl, far.1.0.1, refl), ap (λ (w : Bound). w.cost) e);
        },
      )

  -- least bounds are bounds
  bounds_hold : AreBounds s goal bounds
  bounds_hold = record {
    goal = at_goal (bounds goal) (least goal).0 (least goal).1;
    each = λ a road h is there. through a road h is (bounds road.head) (bounds road.tail) there (least road.head) (least road.tail);
  }

at_next : {A : Type 0} (xs : List A) (k : ℕ) → at_number xs (k + 1) ≡ slice_get xs k
at_next xs k = let e : k + 1 ≡ suc k = omega arith in ap (at_number xs) e

pub bound_pushed : (bounds : List (Option Bound)) (b : Option Bound) (place : ℕ) (f : ℕ → Option Bound) → length bounds ≡ place
    → ((k : ℕ) → k < place → bound_at bounds (k + 1) ≡ f k) → b ≡ f place → (k : ℕ) → k < place + 1 → bound_at (bounds ++ b ∷ []) (k + 1) ≡ f k
bound_pushed bounds b place f long each new k below = ⊎_elim
    (λ (before : k < place). ap option_flatten (at_next (bounds ++ b ∷ []) k
    ∙ (slice_get-append_left bounds (b ∷ []) k (omega (arith, before, long)) ∙ sym (at_next bounds k)))
    ∙ each k before)
    (λ (here : place ≤ k). let same : k ≡ length bounds = omega (arith, here, below, long) in
    ap option_flatten (at_next (bounds ++ b ∷ []) k
    ∙ (ap (slice_get (bounds ++ b ∷ [])) same ∙ slice_get-push_end bounds b)) ∙ (new ∙ ap f (omega (arith, same, long))))
    (cases_lt k place)

bound_all : (bounds : List (Option Bound)) (minutes costs : List (Option ℕ)) (n : ℕ) → length bounds ≡ n → length minutes ≡ n
    → ((k : ℕ) → k < n → bound_at bounds (k + 1) ≡ bound_of_sums (key_at minutes (k + 1)) (key_at costs (k + 1))) → (v : ℕ)
    → bound_at bounds v ≡ bound_of_sums (key_at minutes v) (key_at costs v)
bound_all bounds minutes costs n long long' each v = ⊎_elim
    (λ (some : 0 < v). ⊎_elim
    (λ (past : n < v). ap option_flatten (number_past bounds v (omega (arith, past, long)))
    ∙ sym (ap (λ o. bound_of_sums o (key_at costs v)) (key_past minutes v (omega (arith, past, long')))))
    (λ (within : v ≤ n). let e : v - 1 + 1 ≡ v = omega (arith, some)
    in subst (λ u. bound_at bounds u ≡ bound_of_sums (key_at minutes u) (key_at costs u)) e (each (v - 1) (omega (arith, some, within))))
    (cases_lt n v))
    (λ (none : v ≤ 0). let e : 0 ≡ v = omega (arith, none)
    in subst (λ u. bound_at bounds u ≡ bound_of_sums (key_at minutes u) (key_at costs u)) e
    (sym (ap (λ o. bound_of_sums o (key_at costs 0)) (key_zero minutes))))
    (cases_lt 0 v)

least_all : (s : Setting) (goal : ℕ) (bounds : List (Option Bound)) (minutes costs : List (Option ℕ))
    → ((v : ℕ) → bound_at bounds v ≡ bound_of_sums (key_at minutes v) (key_at costs v))
    → ((v : ℕ) → IsLeastSum s.road (λ r. r.minutes) goal v (key_at minutes v)) → ((v : ℕ) → IsLeastSum s.road (λ r. r.cost) goal v (key_at costs v))
    → AreLeastBounds s goal (bound_at bounds)
least_all s goal bounds minutes costs all p q v =
    subst (λ o. IsLeastSum s.road (λ r. r.minutes) goal v (option_map (λ b. b.minutes) o)
    × IsLeastSum s.road (λ r. r.cost) goal v (option_map (λ b. b.cost) o)) (sym (all v))
    (both_least s.road (λ r. r.minutes) (λ r. r.cost) goal v (key_at minutes v) (key_at costs v) (p v) (q v))

-- sums that a search finds are the least where it has no cap
least_of : (roads : ℕ → Option Road) (count : Road → ℕ) (goal v : ℕ) (o : Option ℕ) → IsSumBelow roads count goal (IsPastCap None) v o
    → IsLeastSum roads count goal v o
least_of roads count goal v None below = below
least_of roads count goal v (Some x) below =
    (below.0, λ arcs sum leads. ⊎_elim (λ (le : x ≤ sum). le) (λ (end : ⊥). absurd end) (below.1 arcs sum leads))

pub least_bounds : (net : Net) (goal : ℕ) (sums : Sums) → AreSumsTo net goal None sums → (list : List (Option Bound))
    → AreBoundsIn None sums.minutes.items (costs_of sums) list → AreBoundsTo net goal list
least_bounds net goal sums found list made =
    let s = setting_of net in
    let minutes = sums.minutes.items in
    let costs = costs_of sums in
    let each = bound_all list minutes costs (length costs) made.nodes (found.minutes_nodes ∙ sym found.costs_nodes) made.each in
    let least = least_all s goal list minutes costs each
    (λ v. least_of s.road (λ r. r.minutes) goal v (key_at minutes v) (found.minutes v))
    (λ v. least_of s.road (λ r. r.cost) goal v (key_at costs v) (found.costs v)) in
    record { least = least; bounds = bounds_hold s goal (bound_at list) least; nodes = made.nodes ∙ found.costs_nodes }
