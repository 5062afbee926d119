-- Back from a pair to the start, over falling minutes.
use Rattle.std.proofs.Common.{◌≡◌, ⊎_elim, ℕ, ◌≤◌, ◌<◌, Option, Some, None, List, [], ◌∷◌, ◌++◌, length, refl, sym, ◌∙◌, ap, subst}
use Rattle.std.proofs.Common.{arith}
use Rattle.std.specs.Prelude.{Contains, unwrap_or}
use Rattle.std.proofs.lemmas.Bool.{cases_lt}
use Rattle.route_base.specs.Setting.{Setting}
use Rattle.route_base.specs.Itinerary.{Position, Step, Walks}
use Rattle.route_base.specs.Legs.{steps_of_leg, start_of, end_of, CostsFit, IsReachable}
use Rattle.route_base.specs.Net.{Net, setting_of, at_number}
use Rattle.route_base.specs.declared.limits.TheConstants.{HIGHEST_COST}
use Rattle.route_base.specs.declared.types.Pair.{Pair}
use Rattle.route_base.specs.declared.types.Request.{Request}
use Rattle.route_base.proofs.Walking.{along, moves_later}
use Rattle.route_base.proofs.Arcs.{TakesTime, takes_time}
use Rattle.route_base.proofs.Numbered.{number_past}
use Rattle.route_base.specs.StepsBack.{HasWaysTo, HasSource, LeadsFirst}
use Rattle.route_base.proofs.GoingBack.{leads_at_end, leads_before_leg, has_source}
use Rattle.cost_functions.specs.Pieces.{value_at, value_in}
use Rattle.cost_functions.specs.declared.pieces.Piece.{Piece}
use Rattle.propagation.specs.Found.{cost_at, Finding, IsFoundFor}
use Rattle.propagation.specs.Inside.Invariants.{point}
use Rattle.itinerary_unpack.specs.Inside.Sources.{ComesFirst}
use Rattle.itinerary_unpack.specs.Inside.Ways.{LeadsToPair}
use Rattle.itinerary_unpack.specs.declared.sources.Source.{Source}

-- what is reached at the start's node and minute costs nothing
start_free : (s : Setting) (r : Request) (y : ℕ) → TakesTime s → IsReachable s r (point r.origin.0 r.depart y) → y ≡ 0
start_free s r y takes ([], walk) = ap (λ (w : Position). w.cost) (sym walk)
start_free s r y takes (x ∷ xs, walk) =
    let first = moves_later s r.until takes x (start_of r) walk.0 walk.1 in
    let last = along s r.until (λ w. walk.0.minute ≤ w.minute) (λ z p q le move. omega (arith, le, moves_later s r.until takes z p q move)) xs walk.0
    (point r.origin.0 r.depart y) (omega arith) walk.2 in
    absurd (omega (arith, first, last))

-- a node at which a cost is known is one of the nodes
pub node_within : (functions : List (List Piece)) (u t z : ℕ) → cost_at functions u t ≡ Some z → (1 ≤ u) × (u ≤ length functions)
node_within functions u t z is = ⊎_elim
    (λ (some : 0 < u). ⊎_elim
    (λ (past : length functions < u). let bad : None ≡ Some z = sym (ap (λ o. value_in o t) (number_past functions u past)) ∙ is in cc)
    (λ (within : u ≤ length functions). (omega (arith, some), within))
    (cases_lt (length functions) u))
    (λ (none : u ≤ 0). let e : u ≡ 0 = omega (arith, none) in let bad : None ≡ Some z = ap (λ n. cost_at functions n t) (sym e) ∙ is in cc)
    (cases_lt 0 u)

-- the cost at a node and minute is that of the node's function
pub cost_is : (functions : List (List Piece)) (v t : ℕ) (own : List Piece) → at_number functions v ≡ Some own → cost_at functions v t ≡ value_in (Some own) t
cost_is functions v t own is = ap (λ o. value_in o t) is

-- the cost that is read at a node and minute
pub read_known : (functions : List (List Piece)) (v t here : ℕ) (own : List Piece) (at : Option ℕ) (x : ℕ) → at_number functions v ≡ Some own
    → at ≡ value_at own t → x ≡ unwrap_or at 0 → cost_at functions v t ≡ Some here → cost_at functions v t ≡ Some x
read_known functions v t here own at x is read or_zero known =
    let same : at ≡ Some here = read ∙ (sym (cost_is functions v t own is) ∙ known) in
    known ∙ ap (λ n. Some n) (sym (or_zero ∙ ap (λ o. unwrap_or o 0) same))

-- costs that are found are small
pub small_cost : (net : Net) (r : Request) (found : Finding) → CostsFit (setting_of net) r → IsFoundFor net r found → (v t x : ℕ)
    → cost_at found.functions v t ≡ Some x → x ≤ HIGHEST_COST
small_cost net r found fit good v t x is = let steps = good.justified.reachable (point v t x) is in fit steps.0 (point v t x) steps.1

-- one leg more, before the others
pub leads_before : (s : Setting) (r : Request) (cost : ℕ → ℕ → Option ℕ) (pair : Pair) (v t x : ℕ) (steps : List Step) (from : Source)
    → TakesTime s → HasWaysTo s r pair cost → r.depart ≤ from.minute
    → LeadsToPair s r cost pair v t steps → cost v t ≡ Some x → ComesFirst s r.until cost v t x from
    → LeadsToPair s r cost pair from.node.0 from.minute (steps_of_leg from.leg ++ steps)
leads_before s r cost pair v t x steps from takes ways begun leads at first =
    let same : Some leads.here ≡ Some x = sym leads.known ∙ at in
    let e : leads.here ≡ x = cc in
    record {
      here = first.comes.before;
      known = first.comes.known;
      leads = leads_before_leg s r pair takes cost ways steps from.leg (point from.node.0 from.minute first.comes.before) (point v t x) begun first.comes.walk
          first.first (subst (λ n. LeadsFirst s r pair (point v t n) steps) e leads.leads);
    }

module _ (net : Net) (r : Request) (found : Finding) (good : IsFoundFor net r found) (pair : Pair) (one : Contains found.pairs pair) where
  pub ways_to : HasWaysTo (setting_of net) r pair (cost_at found.functions)
  ways_to before after p from to = good.optimal.ways pair before after p one from to

  -- at the pair
  pub at_pair : LeadsToPair (setting_of net) r (cost_at found.functions) pair r.goal.0 pair.arrival []
  at_pair =
      let can = ((good.optimal.front.each pair).0 one).0 in record {
        here = pair.cost;
        known = ways_to can.steps [] (end_of r pair) can.walk refl;
        leads = leads_at_end (setting_of net) r pair;
      }

  -- at the start
  pub leads_from_start : (steps : List Step) → LeadsToPair (setting_of net) r (cost_at found.functions) pair r.origin.0 r.depart steps
      → LeadsFirst (setting_of net) r pair (start_of r) steps
  leads_from_start steps leads =
      let free = start_free (setting_of net) r leads.here (takes_time net good.good)
      (good.justified.reachable (point r.origin.0 r.depart leads.here) leads.known) in
      subst (λ n. LeadsFirst (setting_of net) r pair (point r.origin.0 r.depart n) steps) free leads.leads

  -- elsewhere the cost comes by a step
  pub comes_by_step : (v t x : ℕ) (steps : List Step) → LeadsToPair (setting_of net) r (cost_at found.functions) pair v t steps
      → cost_at found.functions v t ≡ Some x → (v ≡ r.origin.0 → t ≡ r.depart → ⊥)
      → HasSource (setting_of net) r.until (cost_at found.functions) (point v t x)
  comes_by_step v t x steps leads at later =
      let same : Some leads.here ≡ Some x = sym leads.known ∙ at in
      let e : leads.here ≡ x = cc in
      ⊎_elim
      (λ (start : start_of r ≡ point v t x). absurd (later (sym (ap (λ (w : Position). w.node) start)) (sym (ap (λ (w : Position). w.minute) start))))
      (λ (source : HasSource (setting_of net) r.until (cost_at found.functions) (point v t x)). source)
      (has_source (setting_of net) r pair (takes_time net good.good) (cost_at found.functions) ways_to (point v t x) steps
      (good.justified.reachable (point v t x) at)
      (subst (λ n. Walks (setting_of net) r.until steps (point v t n) (end_of r pair)) e leads.leads.walk))
