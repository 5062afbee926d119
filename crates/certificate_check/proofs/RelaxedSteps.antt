-- Steps that pass from all values of a function, as itineraries have them.
use Rattle.std.proofs.Common.{◌≡◌, ◌⊎◌, inl, inr, ⊎_elim, ℕ, ◌+◌, ◌*◌, ◌-◌, ◌≤◌, Option, Some, List, [], ◌∷◌, length, refl, sym, ◌∙◌, ap, subst, arith}
use Rattle.std.proofs.lemmas.Option.{same_Some}
use Rattle.route_base.specs.Setting.{Setting, Road}
use Rattle.route_base.specs.Itinerary.{Position, Step, drive, wait, Moves}
use Rattle.route_base.specs.Relaxing.{HasWithin, IsDominatedOrLate, IsRelaxed}
use Rattle.route_base.specs.Runs.{any_has, IsFree}
use Rattle.route_base.specs.declared.types.Bound.{Bound}
use Rattle.route_base.specs.declared.types.Pair.{Pair}
use Rattle.cost_functions.specs.Lines.{line_at}
use Rattle.cost_functions.specs.Pieces.{value_at}
use Rattle.cost_functions.specs.declared.pieces.Piece.{Piece}
use Rattle.cost_functions.proofs.Slopes.{further}
use Rattle.certificate_check.specs.Conditions.{AreStepsRelaxed}
use Rattle.certificate_check.specs.Inside.Passing.{goal_point, HasValueWithin, Passes, Link}
use Rattle.certificate_check.specs.Inside.Steps.{AreDrivesRelaxed, AreWaitsRelaxed}
use Rattle.certificate_check.proofs.Dominated.{dominated_later, dominated_or_not}
use Rattle.certificate_check.proofs.PieceValues.{none_some, no_value}

pub line_rises : (p : Piece) (t s : ℕ) → p.lo ≤ t → t ≤ s → line_at p t ≤ line_at p s
line_rises p t s from later = let on = further p.cost p.slope p.lo t s from later in omega (arith, on)

-- a line that is shifted by a step stays above the values
pub within_shifted : (values : List Piece) (p : Piece) (t s minutes cost : ℕ) → p.lo ≤ t → t ≤ s
    → HasValueWithin values (s + minutes) ((line_at p t + cost) + p.slope * ((s + minutes) - (t + minutes)))
    → HasValueWithin values (s + minutes) (line_at p s + cost)
within_shifted values p t s minutes cost from later h =
    let on = further p.cost p.slope p.lo t s from later in
    let parts : (s + minutes) - (t + minutes) ≡ s - t = omega (arith, later) in
    let same = ap (λ n. p.slope * n) parts in
    let within = h.within in
    record { least = h.least; is = h.is; within = omega (arith, within, same, on) }

module _ (until : ℕ) (pairs : List Pair) (bounds : ℕ → Option Bound) (value : ℕ → ℕ → Option ℕ) where
  -- between a position and the same at no node
  pub at_node : (o : Option Bound) (p : Position) → o ≡ bounds p.node → IsDominatedOrLate until pairs o (goal_point p.minute p.cost)
      → IsDominatedOrLate until pairs (bounds p.node) p
  at_node o p is h = subst (λ (w : Option Bound). IsDominatedOrLate until pairs w p) is
      (dominated_later until pairs o (goal_point p.minute p.cost) p (omega arith) (omega arith) h)

  pub at_point : (o : Option Bound) (p : Position) → o ≡ bounds p.node → IsDominatedOrLate until pairs (bounds p.node) p
      → IsDominatedOrLate until pairs o (goal_point p.minute p.cost)
  at_point o p is h = dominated_later until pairs o p (goal_point p.minute p.cost) (omega arith) (omega arith)
      (subst (λ (w : Option Bound). IsDominatedOrLate until pairs w p) (sym is) h)

  module _ (o : Option Bound) (pieces : List Piece) (p : Position) (is : o ≡ bounds p.node)
      (values : (t : ℕ) → value_at pieces t ≡ value p.node t) where
    abbrev pub IsPointRelaxed : Type 0
    IsPointRelaxed = IsRelaxed until pairs (λ _. o) (λ _. value_at pieces) (goal_point p.minute p.cost)

    pub relaxed_at_node : IsPointRelaxed → IsRelaxed until pairs bounds value p
    relaxed_at_node h = ⊎_elim
        (λ (w : HasValueWithin pieces p.minute p.cost). inl (record { least = w.least; is = sym (values p.minute) ∙ w.is; within = w.within }))
        (λ (e : IsDominatedOrLate until pairs o (goal_point p.minute p.cost)). inr (at_node o p is e))
        h

    pub relaxed_at_point : IsRelaxed until pairs bounds value p → IsPointRelaxed
    relaxed_at_point h = ⊎_elim
        (λ (w : HasWithin value p). inl (record { least = w.least; is = values p.minute ∙ w.is; within = w.within }))
        (λ (e : IsDominatedOrLate until pairs (bounds p.node) p). inr (at_point o p is e))
        h

  module _ (link : Link) (p q : Position) (from : link.from ≡ bounds p.node) (to : link.to ≡ bounds q.node)
      (values : (t : ℕ) → value_at link.values t ≡ value q.node t) where
    pub relaxed_of_passes : q.minute ≡ p.minute + link.minutes → q.cost ≡ p.cost + link.cost → q.minute ≤ until
        → IsFree link.closed p.minute link.minutes → Passes until pairs link p.minute p.cost
        → IsDominatedOrLate until pairs (bounds p.node) p ⊎ IsRelaxed until pairs bounds value q
    relaxed_of_passes minute cost in_time free passes =
        ⊎_elim
        (λ (e : IsDominatedOrLate until pairs link.from (goal_point p.minute p.cost)). inl (at_node link.from p from e))
        (λ (rest : p.minute + link.minutes ≤ until → IsFree link.closed p.minute link.minutes
        → IsRelaxed until pairs (λ _. link.to) (λ _. value_at link.values) (goal_point (p.minute + link.minutes) (p.cost + link.cost))).
        inr (relaxed_at_node link.to link.values q to values
        (subst (λ (t : ℕ). IsRelaxed until pairs (λ _. link.to) (λ _. value_at link.values) (goal_point t q.cost)) (sym minute)
        (subst (λ (x : ℕ). IsRelaxed until pairs (λ _. link.to) (λ _. value_at link.values) (goal_point (p.minute + link.minutes) x)) (sym cost)
        (rest (omega (arith, minute, in_time)) free)))))
        passes

    pub passes_of_relaxed : q.minute ≡ p.minute + link.minutes → q.cost ≡ p.cost + link.cost
        → (p.minute + link.minutes ≤ until → IsFree link.closed p.minute link.minutes
        → IsDominatedOrLate until pairs (bounds p.node) p ⊎ IsRelaxed until pairs bounds value q)
        → Passes until pairs link p.minute p.cost
    passes_of_relaxed minute cost here =
        ⊎_elim
        (λ (e : IsDominatedOrLate until pairs link.from (goal_point p.minute p.cost)). inl e)
        (λ (not : IsDominatedOrLate until pairs link.from (goal_point p.minute p.cost) → ⊥). inr (λ in_time free.
        ⊎_elim
        (λ (e : IsDominatedOrLate until pairs (bounds p.node) p). absurd (not (at_point link.from p from e)))
        (λ (relaxed : IsRelaxed until pairs bounds value q).
        subst (λ (t : ℕ). IsRelaxed until pairs (λ _. link.to) (λ _. value_at link.values) (goal_point t (p.cost + link.cost))) minute
        (subst (λ (x : ℕ). IsRelaxed until pairs (λ _. link.to) (λ _. value_at link.values) (goal_point q.minute x)) cost
        (relaxed_at_point link.to link.values q to values relaxed)))
        (here in_time free)))
        (dominated_or_not until pairs link.from (goal_point p.minute p.cost))

module _ (s : Setting) (until : ℕ) (pairs : List Pair) (bounds : ℕ → Option Bound) (value : ℕ → ℕ → Option ℕ) (link : Link) (pieces : List Piece) where
  module _ (a : ℕ) (road : Road) (is : s.road a ≡ Some road) (minutes : link.minutes ≡ road.minutes) (cost : link.cost ≡ road.cost)
      (shut : (t : ℕ) → any_has link.closed t ≡ s.shut a t) (from : link.from ≡ bounds road.tail) (to : link.to ≡ bounds road.head)
      (head : (t : ℕ) → value_at link.values t ≡ value road.head t) (tail : (t : ℕ) → value_at pieces t ≡ value road.tail t) where
    pub drives_relaxed : ((t x : ℕ) → value_at pieces t ≡ Some x → Passes until pairs link t x) → AreDrivesRelaxed s until pairs bounds value a
    drives_relaxed all p q stands drives =
        let same : drives.road ≡ road = same_Some drives.road road (sym drives.is ∙ is) in
        let at_tail : road.tail ≡ p.node = sym (ap (λ (w : Road). w.tail) same) ∙ drives.tail in
        let at_head : road.head ≡ q.node = sym (ap (λ (w : Road). w.head) same) ∙ sym drives.node in
        let takes : drives.road.minutes ≡ link.minutes = ap (λ (w : Road). w.minutes) same ∙ sym minutes in
        let pays : drives.road.cost ≡ link.cost = ap (λ (w : Road). w.cost) same ∙ sym cost in
        relaxed_of_passes until pairs bounds value link p q (from ∙ ap bounds at_tail) (to ∙ ap bounds at_head)
        (λ t. head t ∙ ap (λ v. value v t) at_head)
        (omega (arith, drives.minute, takes)) (omega (arith, drives.cost, pays)) (omega (arith, drives.minute, drives.in_time))
        (λ u late early. shut u ∙ drives.is_open u late (omega (arith, early, takes)))
        (all p.minute p.cost (tail p.minute ∙ ap (λ v. value v p.minute) at_tail ∙ stands))

    pub drives_pass : AreDrivesRelaxed s until pairs bounds value a → (t x : ℕ) → value_at pieces t ≡ Some x → Passes until pairs link t x
    drives_pass all t x has =
        let p : Position = record { node = road.tail; minute = t; cost = x } in
        let q : Position = record { node = road.head; minute = t + link.minutes; cost = x + link.cost } in
        passes_of_relaxed until pairs bounds value link p q from to head refl refl (λ in_time free. all p q (sym (tail t) ∙ has) (record {
          road = road;
          is = is;
          tail = refl;
          is_open = λ u late early. sym (shut u) ∙ free u late (omega (arith, early, minutes));
          in_time = omega (arith, in_time, minutes);
          node = refl;
          minute = omega (arith, minutes);
          cost = omega (arith, cost);
        }))

  module _ (v weight : ℕ) (rated : s.weight v ≡ Some weight) (minutes : link.minutes ≡ 1) (cost : link.cost ≡ weight)
      (shut : (t : ℕ) → any_has link.closed t ≡ s.wait_shut v t) (from : link.from ≡ bounds v) (to : link.to ≡ bounds v)
      (there : (t : ℕ) → value_at link.values t ≡ value v t) (here : (t : ℕ) → value_at pieces t ≡ value v t) where
    pub waits_relaxed : ((t x : ℕ) → value_at pieces t ≡ Some x → Passes until pairs link t x) → AreWaitsRelaxed s until pairs bounds value v
    waits_relaxed all p q at stands waits =
        let same : waits.weight ≡ weight = same_Some waits.weight weight (sym waits.rated ∙ ap s.weight at ∙ rated) in
        let next : v ≡ q.node = sym at ∙ sym waits.node in
        relaxed_of_passes until pairs bounds value link p q (from ∙ ap bounds (sym at)) (to ∙ ap bounds next)
        (λ t. there t ∙ ap (λ w. value w t) next)
        (omega (arith, waits.minute, minutes)) (omega (arith, waits.cost, cost, same)) (omega (arith, waits.minute, waits.in_time))
        (λ u late early. shut u ∙ ap (λ w. s.wait_shut w u) (sym at) ∙ ap (s.wait_shut p.node) (let e : u ≡ p.minute = omega (arith, late, early, minutes) in e)
        ∙ waits.is_open)
        (all p.minute p.cost (here p.minute ∙ ap (λ w. value w p.minute) (sym at) ∙ stands))

    pub waits_pass : AreWaitsRelaxed s until pairs bounds value v → (t x : ℕ) → value_at pieces t ≡ Some x → Passes until pairs link t x
    waits_pass all t x has =
        let p : Position = record { node = v; minute = t; cost = x } in
        let q : Position = record { node = v; minute = t + link.minutes; cost = x + link.cost } in
        passes_of_relaxed until pairs bounds value link p q from to there refl refl (λ in_time free. all p q refl (sym (here t) ∙ has) (record {
          weight = weight;
          rated = rated;
          is_open = sym (shut t) ∙ free t (omega arith) (omega (arith, minutes));
          in_time = omega (arith, in_time, minutes);
          node = refl;
          minute = omega (arith, minutes);
          cost = omega (arith, cost);
        }))

module _ (s : Setting) (until : ℕ) (pairs : List Pair) (bounds : ℕ → Option Bound) (value : ℕ → ℕ → Option ℕ) where
  -- no drive begins where there are no values
  pub no_drives : (a : ℕ) (road : Road) → s.road a ≡ Some road → (pieces : List Piece) → length pieces ≡ 0
      → ((t : ℕ) → value_at pieces t ≡ value road.tail t) → AreDrivesRelaxed s until pairs bounds value a
  no_drives a road is (piece ∷ pieces) none tail p q stands drives = absurd (omega (arith, none))
  no_drives a road is [] none tail p q stands drives =
      let same : drives.road ≡ road = same_Some drives.road road (sym drives.is ∙ is) in
      let at_tail : road.tail ≡ p.node = sym (ap (λ (w : Road). w.tail) same) ∙ drives.tail in
      absurd (none_some p.cost (value_at [] p.minute) (no_value p.minute) (tail p.minute ∙ ap (λ v. value v p.minute) at_tail ∙ stands))

  pub all_steps : ((a : ℕ) → AreDrivesRelaxed s until pairs bounds value a) → ((v : ℕ) → AreWaitsRelaxed s until pairs bounds value v)
      → AreStepsRelaxed s until pairs bounds value
  all_steps drives waits p stands =
      ⊎_elim
      (λ (e : IsDominatedOrLate until pairs (bounds p.node) p). inl e)
      (λ (not : IsDominatedOrLate until pairs (bounds p.node) p → ⊥). inr (each not))
      (dominated_or_not until pairs (bounds p.node) p)
    where
      relaxed : (IsDominatedOrLate until pairs (bounds p.node) p → ⊥) → (q : Position)
          → IsDominatedOrLate until pairs (bounds p.node) p ⊎ IsRelaxed until pairs bounds value q → IsRelaxed until pairs bounds value q
      relaxed not q h = ⊎_elim
          (λ (e : IsDominatedOrLate until pairs (bounds p.node) p). absurd (not e))
          (λ (l : IsRelaxed until pairs bounds value q). l)
          h

      each : (IsDominatedOrLate until pairs (bounds p.node) p → ⊥) → (x : Step) (q : Position) → Moves s until x p q
          → IsRelaxed until pairs bounds value q
      each not (drive a) q move = relaxed not q (drives a p q stands move)
      each not wait q move = relaxed not q (waits p.node p q refl stands move)

  one_step : (p : Position) (x : Step) (q : Position) → Moves s until x p q
      → IsDominatedOrLate until pairs (bounds p.node) p
      ⊎ ((y : Step) (w : Position) → Moves s until y p w → IsRelaxed until pairs bounds value w)
      → IsDominatedOrLate until pairs (bounds p.node) p ⊎ IsRelaxed until pairs bounds value q
  one_step p x q move h = ⊎_elim
      (λ (e : IsDominatedOrLate until pairs (bounds p.node) p). inl e)
      (λ (each : (y : Step) (w : Position) → Moves s until y p w → IsRelaxed until pairs bounds value w). inr (each x q move))
      h

  pub steps_drives : AreStepsRelaxed s until pairs bounds value → (a : ℕ) → AreDrivesRelaxed s until pairs bounds value a
  steps_drives all a p q stands drives = one_step p (drive a) q drives (all p stands)

  pub steps_waits : AreStepsRelaxed s until pairs bounds value → (v : ℕ) → AreWaitsRelaxed s until pairs bounds value v
  steps_waits all v p q at stands waits = one_step p wait q waits (all p stands)
