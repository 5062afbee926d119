-- The best positions on the way to a pair, the sources of steps to them, and why the walk of first sources is the first of all.
use Rattle.std.proofs.Common.{◌≡◌, ◌⊎◌, inl, inr, ⊎_elim, ℕ, zero, suc, ◌+◌, ◌/◌, ◌%◌, ◌<◌, ◌≤◌, ◌*◌, eqb, true, false, Option, Some, List, [], ◌∷◌, ◌++◌, replicate, refl, sym, ◌∙◌, ap, subst, arith}
use Rattle.std.specs.Prelude.{Contains, reverse}
use Rattle.std.proofs.lemmas.Bool.{cases_lt, eqb-true, and_parts}
use Rattle.std.proofs.lemmas.List.{reverse-reverse}
use Rattle.std.proofs.lemmas.Nat.{mod-mul-add, div-add-mod', mod_below}
use Rattle.std.proofs.lemmas.Option.{same_Some}
use Rattle.route_base.specs.Front.{IsNoWorse}
use Rattle.route_base.specs.Setting.{Setting, Road}
use Rattle.route_base.specs.Itinerary.{Position, Step, drive, wait, Drives, Waits, Moves, Walks}
use Rattle.route_base.specs.declared.types.Bound.{Bound}
use Rattle.route_base.specs.declared.types.Pair.{Pair}
use Rattle.route_base.proofs.Waiting.{same_position}
use Rattle.route_base.proofs.Walking.{moves_later, walk-append, walk-push, walk_grows, walk_parts}
use Rattle.front_transport.specs.ParetoFronts.{IsParetoFront, ArrivesBefore}
use Rattle.propagation.specs.Inside.Invariants.{Progress, point}
use Rattle.state_dominance.specs.Inside.Dominance.{Task, AreBoundsAlong, IsAchievedIn, IsCovered, IsResting, IsSimulation, Reaches}
use Rattle.state_dominance.specs.Inside.Product.{Ruler, Service, AreLatest, AreRuledBounds, IsBase, IsSimulating, code, task_by_latest}
use Rattle.state_dominance.proofs.Finishing.{covered_on_way, front, known_exactly}
use Rattle.state_dominance.proofs.Simulating.{are_bounds, code_low, drive_state, driven_too, is_simulation, same_node}
use Rattle.ruled_states.specs.Inside.Codes.{base}
use Rattle.ruled_search.specs.Routes.{AreAlikeSteps, ComesRuledBefore, IsAlikeStep, IsRuledStepBefore, state_before}
use Rattle.ruled_search.specs.Inside.Sources.{AreFirstSteps, ComesOver, IsBest, IsFirstSource, IsNotAfter}
use Rattle.ruled_search.proofs.Arriving.{drive_comes, rest_comes, service_comes}
use Rattle.ruled_search.proofs.Backward.{none_cheaper}
use Rattle.ruled_search.proofs.FirstSteps.{first_parts, first_walk}
use Rattle.ruled_search.proofs.Sourcing.{three_kinds}
use Rattle.ruled_search.proofs.StepOrder.{alike_on, alike_reverse, alike_sym, before_alike, not_before, reverse_first, smaller_before}

-- codes with the same digits are the same
pub same_digits : (c d : ℕ) → c % base ≡ d % base → c / base ≡ d / base → c ≡ d
same_digits c d node state = sym (div-add-mod' c base) ∙ (ap (λ n. n * base + c % base) state ∙ (ap (λ n. d / base * base + n) node ∙ div-add-mod' d base))

module _ (s : Setting) (r : Ruler) (origin goal depart until : ℕ) (bound : ℕ → ℕ → Option Bound) (latest : ℕ → ℕ) (sim : IsSimulating r)
    (numbers : IsBase s r base) (bounds : AreRuledBounds s r goal bound) (minutes : AreLatest r until bound latest) where
  abbrev over : Task
  over = task_by_latest s r base origin goal depart until bound latest

  simulation : IsSimulation over
  simulation = is_simulation s r base origin goal depart until bound latest sim numbers bounds minutes

  along : AreBoundsAlong over
  along = are_bounds s r base origin goal depart until bound latest sim numbers bounds minutes

  state_low : (u v : ℕ) → over.no_worse u v ≡ true → u / base ≤ v / base
  state_low u v better = sim.low (u / base) (v / base) (and_parts (eqb (u % base) (v % base)) (r.no_worse (u / base) (v / base)) better).1

  at_node : (c : ℕ) → over.goal c ≡ true → c % base ≡ goal
  at_node c at = eqb-true (c % base) goal (and_parts (eqb (c % base) goal) (r.ends (c / base)) at).0

  -- a step is made from a state that is no worse too, to the same end, if that is the best
  pub into_best : (y : Step) (p q : Position) → IsBest over q → Moves over.setting until y p q → (u x : ℕ) → over.no_worse u p.node ≡ true
      → x ≤ p.cost → Reaches over (point u p.minute x)
      → (z : Step) × Moves over.setting until z (point u p.minute x) q × IsAlikeStep base y z × (x ≡ p.cost)
  into_best (drive a) p q best move u x better le reach =
      let d = driven_too s r base origin goal depart until bound latest sim numbers bounds minutes u x a p q better le move in
      let at : d.end ≡ point d.end.node q.minute d.end.cost = same_position _ _ refl d.no_worse.minute refl in
      let reached : Reaches over (point d.end.node q.minute d.end.cost) = (
        reach.0 ++ drive d.road ∷ [],
        subst (λ (w : Position). Walks over.setting until (reach.0 ++ drive d.road ∷ []) over.start w) at
            (walk-push over.setting until reach.0 (drive d.road) over.start (point u p.minute x) d.end reach.1 d.move),
      ) in
      let same = best d.end.node d.end.cost d.no_worse.node d.no_worse.cost reached in
      let own : d.end ≡ q = same_position _ _ same.0 d.no_worse.minute same.1 in (
        drive d.road,
        subst (λ (w : Position). Drives over.setting until d.road (point u p.minute x) w) own d.move,
        (d.kind, d.number),
        omega (arith, d.paid, same.1),
      )
  into_best wait p q best move u x better le reach =
      let h = simulation.waits u x p q better le move in
      let at : h.0 ≡ point h.0.node q.minute h.0.cost = same_position _ _ refl h.2.minute refl in
      let reached : Reaches over (point h.0.node q.minute h.0.cost) = (
        reach.0 ++ wait ∷ [],
        subst (λ (w : Position). Walks over.setting until (reach.0 ++ wait ∷ []) over.start w) at
            (walk-push over.setting until reach.0 wait over.start (point u p.minute x) h.0 reach.1 h.1),
      ) in
      let same = best h.0.node h.0.cost h.2.node h.2.cost reached in
      let own : h.0 ≡ q = same_position _ _ same.0 h.2.minute same.1 in
      let node : u ≡ p.node = sym h.1.node ∙ (same.0 ∙ move.node) in
      let weight : h.1.weight ≡ move.weight = same_Some h.1.weight move.weight (sym h.1.rated ∙ (ap over.setting.weight node ∙ move.rated)) in (
        wait,
        subst (λ (w : Position). Waits over.setting until (point u p.minute x) w) own h.1,
        tt,
        omega (arith, h.1.cost, move.cost, same.1, weight),
      )

  -- a wait keeps the state, so it begins where none is better
  pub best_wait : (p q : Position) → IsBest over q → Waits over.setting until p q → IsBest over p
  best_wait p q best move u x better le reach =
      let h = into_best wait p q best move u x better le reach in
      by h.0 h.1 h.2 h.3
    where
      by : (z : Step) → Moves over.setting until z (point u p.minute x) q → IsAlikeStep base wait z → x ≡ p.cost → (u ≡ p.node) × (x ≡ p.cost)
      by wait other alike same = (sym other.node ∙ move.node, same)
      by (drive a) other alike same = absurd alike

  -- the state in which a step begins
  pub begins_in : (x : Step) (p q : Position) → Moves over.setting until x p q → state_before base x (q.node / base) ≡ p.node / base
  begins_in wait p q move = ap (λ n. n / base) move.node
  begins_in (drive x) p q move = drive_state s r base origin goal depart until bound latest sim numbers bounds minutes x p q move

  alike_roads : (cost : ℕ → ℕ → Option ℕ) (v j t c x z a : ℕ) (p o : Position) → v < base → x / 3 % base ≡ a
      → ComesOver over cost (drive x) p (point (code base v j) t c) → ComesOver over cost (drive z) o (point (code base v j) t c)
      → IsAlikeStep base (drive x) (drive z) → (p.minute ≡ o.minute) × (p.cost ≡ o.cost) × (p.node % base ≡ o.node % base)
  alike_roads cost v j t c x z a p o small number one two alike = ⊎_elim
      (λ (kind : x % 3 ≡ 0).
      let d = drive_comes s r numbers origin goal depart until bound latest cost v j t c small x a p number one kind in
      let e = drive_comes s r numbers origin goal depart until bound latest cost v j t c small z a o (sym alike.1 ∙ number) two (sym alike.0 ∙ kind) in
      let same : d.0 ≡ e.0 = same_Some d.0 e.0 (sym d.1 ∙ e.1) in (
        omega (arith, d.2.minute, e.2.minute, ap (λ (w : Road). w.minutes) same),
        omega (arith, d.2.paid, e.2.paid, ap (λ (w : Road). w.cost) same),
        ap (λ n. n % base) d.2.at ∙ (mod-mul-add d.2.state base d.0.tail (numbers.arcs a d.0 d.1).1 ∙ (ap (λ (w : Road). w.tail) same
            ∙ (sym (mod-mul-add e.2.state base e.0.tail (numbers.arcs a e.0 e.1).1) ∙ ap (λ n. n % base) (sym e.2.at)))),
      ))
      (λ (other : (x % 3 ≡ 1) ⊎ (x % 3 ≡ 2)). ⊎_elim
      (λ (kind : x % 3 ≡ 1).
      let d = rest_comes s r numbers origin goal depart until bound latest cost v j t c small x a p number one kind in
      let e = rest_comes s r numbers origin goal depart until bound latest cost v j t c small z a o (sym alike.1 ∙ number) two (sym alike.0 ∙ kind) in
      let same : d.0 ≡ e.0 = same_Some d.0 e.0 (sym d.1 ∙ e.1) in
      let weight : d.2.weight ≡ e.2.weight = same_Some d.2.weight e.2.weight (sym d.2.rated ∙ e.2.rated) in
      let paid : d.0 * d.2.weight ≡ e.0 * e.2.weight = ap (λ n. n * d.2.weight) same ∙ ap (λ n. e.0 * n) weight in (
        omega (arith, d.2.minute, e.2.minute, same),
        omega (arith, d.2.paid, e.2.paid, paid),
        one_node d.2.state e.2.state d.2.at e.2.at,
      ))
      (λ (kind : x % 3 ≡ 2).
      let d = service_comes s r numbers origin goal depart until bound latest cost v j t c small x a p number one kind in
      let e = service_comes s r numbers origin goal depart until bound latest cost v j t c small z a o (sym alike.1 ∙ number) two (sym alike.0 ∙ kind) in
      let same : d.0 ≡ e.0 = same_Some d.0 e.0 (sym d.1 ∙ e.1) in (
        omega (arith, d.2.minute, e.2.minute, ap (λ (w : Service). w.minutes) same),
        omega (arith, d.2.paid, e.2.paid),
        one_node d.2.state e.2.state d.2.at e.2.at,
      ))
      other)
      (three_kinds x)
    where
      one_node : (k l : ℕ) → p.node ≡ code base v k → o.node ≡ code base v l → p.node % base ≡ o.node % base
      one_node k l one two = ap (λ n. n % base) one ∙ (mod-mul-add k base v small ∙ (sym (mod-mul-add l base v small) ∙ ap (λ n. n % base) (sym two)))

  -- alike steps to one end begin at one node and minute, with one cost
  pub alike_sources : (cost : ℕ → ℕ → Option ℕ) (x z : Step) (p o q : Position) → ComesOver over cost x p q → ComesOver over cost z o q
      → IsAlikeStep base x z → (p.minute ≡ o.minute) × (p.cost ≡ o.cost) × (p.node % base ≡ o.node % base)
  alike_sources cost wait (drive z) p o q one two alike = absurd alike
  alike_sources cost (drive x) wait p o q one two alike = absurd alike
  alike_sources cost wait wait p o q one two alike =
      let node : p.node ≡ o.node = sym one.move.node ∙ two.move.node in
      let weight : one.move.weight ≡ two.move.weight =
      same_Some one.move.weight two.move.weight (sym one.move.rated ∙ (ap over.setting.weight node ∙ two.move.rated)) in
      (omega (arith, one.move.minute, two.move.minute), omega (arith, one.move.cost, two.move.cost, weight), ap (λ n. n % base) node)
  alike_sources cost (drive x) (drive z) p o q one two alike =
      let at : q ≡ point (code base (q.node % base) (q.node / base)) q.minute q.cost =
      same_position _ _ (sym (div-add-mod' q.node base)) refl refl in
      alike_roads cost (q.node % base) (q.node / base) q.minute q.cost x z (x / 3 % base) p o (mod_below q.node base (omega arith)) refl
      (subst (λ (w : Position). ComesOver over cost (drive x) p w) at one) (subst (λ (w : Position). ComesOver over cost (drive z) o w) at two) alike

  module _ (now : Progress) (facts : IsResting over now) (done : (c t : ℕ) → now.pending c t ≡ false) (in_time : depart ≤ until)
      (pair : Pair) (one : Contains now.pairs pair) where
    -- steps lead on from the position to the goal, with the pair
    abbrev pub LeadsOn : Position → Type 0
    LeadsOn p = (after : List Step) × (g : ℕ) × (over.goal g ≡ true) × Walks over.setting until after p (point g pair.arrival pair.cost)

    leads_on : (y : Step) (p q : Position) → Moves over.setting until y p q → LeadsOn q → LeadsOn p
    leads_on y p q move on = (y ∷ on.0, on.1, on.2, (q, move, on.3))

    covered : (p : Position) → Reaches over p → LeadsOn p → IsCovered over now p
    covered p reach on = covered_on_way over now simulation along facts done in_time pair one p reach on.0 on.1 on.2 on.3

    known_best : (p : Position) → Reaches over p → LeadsOn p → IsBest over p → now.cost p.node p.minute ≡ Some p.cost
    known_best p reach on best = known_exactly over now simulation along facts done in_time pair one p reach on.0 on.1 on.2 on.3 best

    is_front : IsParetoFront IsNoWorse ArrivesBefore (IsAchievedIn over) now.pairs
    is_front = front over now simulation along facts done in_time

    -- a step to the best position is also made, alike, from a state that is known and no worse
    known_source : (y : Step) (p q : Position) → IsBest over q → LeadsOn q → Moves over.setting until y p q → Reaches over p
        → (u : ℕ) × (z : Step) × (over.no_worse u p.node ≡ true) × ComesOver over now.cost z (point u p.minute p.cost) q × IsAlikeStep base y z
    known_source y p q best on move reach =
        let h = covered p reach (leads_on y p q move on) in
        let z = into_best y p q best move h.node h.known.least h.better h.known.within
        (facts.reached (point h.node p.minute h.known.least) h.known.is) in (
          h.node,
          z.0,
          h.better,
          record {
            known = h.known.is ∙ ap (λ (n : ℕ). Some n) z.3;
            move = subst (λ (n : ℕ). Moves over.setting until z.0 (point h.node p.minute n) q) z.3 z.1;
          },
          z.2,
        )

    -- the first source of the best position is the best at its minute
    pub best_source : (x : Step) (p q : Position) → IsBest over q → LeadsOn q → IsFirstSource over now.cost x p q → IsBest over p
    best_source x p q best on first u c better le reach =
        let z = into_best x p q best first.comes.move u c better le reach in
        let h = known_source z.0 (point u p.minute c) q best on z.1 reach in
        let alike = alike_on x z.0 h.1 z.2 h.4 in
        let least : p.node / base ≤ h.0 / base = ⊎_elim
        (λ (before : IsRuledStepBefore base x h.1). absurd (not_before x h.1 alike before))
        (λ (late : IsAlikeStep base x h.1 × (p.node / base ≤ h.0 / base)). late.1)
        (first.first h.1 (point h.0 p.minute c) h.3) in
        let chain : over.no_worse h.0 p.node ≡ true = simulation.on h.0 u p.node h.2 better in
        let low = code_low s r base origin goal depart until bound latest sim numbers bounds minutes p.node h.0
        (sym (same_node s r base origin goal depart until bound latest sim numbers bounds minutes h.0 p.node chain)) least in
        let one = simulation.low h.0 u h.2 in
        let two = simulation.low u p.node better in
        (omega (arith, low, one, two), z.3)

    -- waits to the best position are first, and begin at the best
    pub waits_first : (n : ℕ) (p q : Position) → Reaches over p → Walks over.setting until (replicate n wait) p q → IsBest over q → LeadsOn q
        → AreFirstSteps over now.cost (replicate n wait) p q × IsBest over p
    waits_first zero p q reach walk best on = (walk, subst (λ (w : Position). IsBest over w) (sym walk) best)
    waits_first (suc n) p q reach walk best on =
        let more = waits_first n walk.0 q
        (reach.0 ++ wait ∷ [], walk-push over.setting until reach.0 wait over.start p walk.0 reach.1 walk.1) walk.2 best on in
        let here = best_wait p walk.0 more.1 walk.1 in
        let leads : LeadsOn p = (
          wait ∷ (replicate n wait ++ on.0),
          on.1,
          on.2,
          (walk.0, walk.1, walk-append over.setting until (replicate n wait) on.0 walk.0 q (point on.1 pair.arrival pair.cost) walk.2 on.3),
        ) in
        let first : IsFirstSource over now.cost wait p walk.0 = record {
          comes = record { known = known_best p reach leads here; move = walk.1 };
          first = λ y other c. wait_first p walk.0 walk.1.node y other c;
        } in
        ((walk.0, first, more.0), here)
      where
        wait_first : (p q : Position) → q.node ≡ p.node → (y : Step) (other : Position) → ComesOver over now.cost y other q
            → IsNotAfter wait p.node y other.node
        wait_first p q at (drive y) other c = inl tt
        wait_first p q at wait other c = inr (tt, omega (arith, ap (λ n. n / base) (sym at ∙ c.move.node)))

    -- a walk of some steps doesn't lead to where it began
    no_circle : (xs : List Step) (x : Step) (q : Position) → Walks over.setting until (reverse (x ∷ xs)) q q → ⊥
    no_circle xs x q walk =
        let parts = walk_parts over.setting until (reverse xs) (x ∷ []) q q
        (subst (λ w. Walks over.setting until w q q) (reverse_first x xs) walk) in
        let early = walk_grows over.setting until (reverse xs) q parts.0 parts.1 in
        let late = moves_later over.setting until along.time x parts.0 parts.2.0 parts.2.1 in
        absurd (omega (arith, early.0, late, ap (λ (w : Position). w.minute) parts.2.2))

    -- the walk of first sources to the best position is the first of all walks there, but for those whose steps are alike
    pub first_to : (xs ys : List Step) (q : Position) → AreFirstSteps over now.cost (reverse xs) over.start q
        → Walks over.setting until (reverse ys) over.start q → IsBest over q → LeadsOn q
        → AreAlikeSteps base xs ys ⊎ ComesRuledBefore base (q.node / base) xs (q.node / base) ys
    first_to [] [] q first walk best on = inl tt
    first_to [] (y ∷ ys) q first walk best on =
        absurd (no_circle ys y q (subst (λ (w : Position). Walks over.setting until (reverse (y ∷ ys)) w q) first walk))
    first_to (x ∷ xs) [] q first walk best on =
        absurd (no_circle xs x q (subst (λ (w : Position). Walks over.setting until (reverse (x ∷ xs)) w q) walk
        (first_walk over now.cost (reverse (x ∷ xs)) over.start q first)))
    first_to (x ∷ xs) (y ∷ ys) q first walk best on =
        let f = first_parts over now.cost (reverse xs) (x ∷ []) over.start q
        (subst (λ w. AreFirstSteps over now.cost w over.start q) (reverse_first x xs) first) in
        let g = walk_parts over.setting until (reverse ys) (y ∷ []) over.start q
        (subst (λ w. Walks over.setting until w over.start q) (reverse_first y ys) walk) in
        let p = f.0 in
        let o = g.0 in
        let last : IsFirstSource over now.cost x p q = subst (λ (w : Position). IsFirstSource over now.cost x p w) f.2.2 f.2.1 in
        let move : Moves over.setting until y o q = subst (λ (w : Position). Moves over.setting until y o w) g.2.2 g.2.1 in
        let h = known_source y o q best on move (reverse ys, g.1) in
        let z = h.1 in
        ⊎_elim
        (λ (before : IsRuledStepBefore base x z). inr (inr (refl, inl (before_alike x z y before (alike_sym y z h.4)))))
        (λ (late : IsAlikeStep base x z × (p.node / base ≤ h.0 / base)).
        let alike = alike_on x z y late.0 (alike_sym y z h.4) in
        let low = state_low h.0 o.node h.2 in
        let held = begins_in x p q last.comes.move in
        let other = begins_in y o q move in
        ⊎_elim
        (λ (less : p.node / base < o.node / base).
        inr (inr (
          refl,
          inr (
            alike,
            smaller_before (state_before base x (q.node / base)) (state_before base y (q.node / base)) xs ys
                (omega (arith, less, held, other)),
          ),
        )))
        (λ (least : o.node / base ≤ p.node / base).
        let same = alike_sources now.cost x z p (point h.0 o.minute o.cost) q last.comes h.3 late.0 in
        let node : p.node ≡ o.node = same_digits p.node o.node
        (same.2 ∙ same_node s r base origin goal depart until bound latest sim numbers bounds minutes h.0 o.node h.2) (omega (arith, least, low, late.1)) in
        let at : o ≡ p = same_position o p (sym node) (sym same.0) (sym same.1) in
        let more = first_to xs ys p f.1 (subst (λ (w : Position). Walks over.setting until (reverse ys) over.start w) at g.1)
        (best_source x p q best on last) (leads_on x p q last.comes.move on) in
        ⊎_elim
        (λ (all : AreAlikeSteps base xs ys). inl (alike, all))
        (λ (before : ComesRuledBefore base (p.node / base) xs (p.node / base) ys).
        inr (inr (
          refl,
          inr (
            alike,
            subst (λ n. ComesRuledBefore base n xs (state_before base y (q.node / base)) ys) (sym held)
                (subst (λ n. ComesRuledBefore base (p.node / base) xs n ys) (ap (λ n. n / base) node ∙ sym other) before),
          ),
        )))
        more)
        (cases_lt (p.node / base) (o.node / base)))
        (last.first z (point h.0 o.minute o.cost) h.3)

    -- at the goal no walk to the pair costs less, and some state that is no worse is known with the pair's cost
    end_covered : (g y : ℕ) → over.goal g ≡ true → y ≤ pair.cost → Reaches over (point g pair.arrival y)
        → (c : ℕ) × (over.no_worse c g ≡ true) × (over.goal c ≡ true) × (now.cost c pair.arrival ≡ Some pair.cost) × (y ≡ pair.cost)
    end_covered g y at le reach =
        let most = none_cheaper over now is_front facts pair one g at [] (point g pair.arrival pair.cost) refl y reach in
        let same : y ≡ pair.cost = omega (arith, most, le) in
        let h = covered (point g pair.arrival pair.cost) (subst (λ (n : ℕ). Reaches over (point g pair.arrival n)) same reach) ([], g, at, refl) in
        let goal_too = simulation.goals h.node g h.better at in
        let least = none_cheaper over now is_front facts pair one h.node goal_too [] (point h.node pair.arrival pair.cost) refl h.known.least
        (facts.reached (point h.node pair.arrival h.known.least) h.known.is) in
        let exact : h.known.least ≡ pair.cost = omega (arith, least, h.known.within) in
        (h.node, h.better, goal_too, h.known.is ∙ ap (λ (n : ℕ). Some n) exact, same)

    module _ (e : ℕ) (at_goal : over.goal e ≡ true)
        (least : (c : ℕ) → over.goal c ≡ true → now.cost c pair.arrival ≡ Some pair.cost → e / base ≤ c / base) where
      -- the least state of the goal with the pair is the best
      pub best_end : IsBest over (point e pair.arrival pair.cost)
      best_end u x better le reach =
          let h = end_covered u x (simulation.goals u e better at_goal) le reach in
          let chain : over.no_worse h.0 e ≡ true = simulation.on h.0 u e h.1 better in
          let low = code_low s r base origin goal depart until bound latest sim numbers bounds minutes e h.0
          (sym (same_node s r base origin goal depart until bound latest sim numbers bounds minutes h.0 e chain)) (least h.0 h.2 h.3) in
          let first = simulation.low h.0 u h.1 in
          let second = simulation.low u e better in
          (omega (arith, low, first, second), h.4)

      pub first_of_pair : (steps : List Step) → AreFirstSteps over now.cost steps over.start (point e pair.arrival pair.cost)
          → (g : ℕ) (others : List Step) → over.goal g ≡ true → Walks over.setting until others over.start (point g pair.arrival pair.cost)
          → AreAlikeSteps base steps others ⊎ ComesRuledBefore base (e / base) (reverse steps) (g / base) (reverse others)
      first_of_pair steps first g others at walk =
          let h = end_covered g pair.cost at (omega arith) (others, walk) in
          let low = state_low h.0 g h.1 in
          let up = least h.0 h.2 h.3 in
          ⊎_elim
          (λ (less : e / base < g / base). inr (smaller_before (e / base) (g / base) (reverse steps) (reverse others) less))
          (λ (most : g / base ≤ e / base).
          let state : e / base ≡ g / base = omega (arith, low, up, most) in
          let node : e ≡ g = same_digits e g (at_node e at_goal ∙ sym (at_node g at)) state in
          let own : reverse (reverse steps) ≡ steps = reverse-reverse steps in
          let other : reverse (reverse others) ≡ others = reverse-reverse others in
          ⊎_elim
          (λ (all : AreAlikeSteps base (reverse steps) (reverse others)).
          inl (subst (λ w. AreAlikeSteps base w others) own (subst (λ w. AreAlikeSteps base (reverse (reverse steps)) w) other
          (alike_reverse (reverse steps) (reverse others) all))))
          (λ (before : ComesRuledBefore base (e / base) (reverse steps) (e / base) (reverse others)).
          inr (subst (λ n. ComesRuledBefore base (e / base) (reverse steps) n (reverse others)) state before))
          (first_to (reverse steps) (reverse others) (point e pair.arrival pair.cost)
          (subst (λ w. AreFirstSteps over now.cost w over.start (point e pair.arrival pair.cost)) (sym own) first)
          (subst (λ w. Walks over.setting until w over.start (point e pair.arrival pair.cost)) (sym other)
          (subst (λ n. Walks over.setting until others over.start (point n pair.arrival pair.cost)) (sym node) walk))
          best_end ([], e, at_goal, refl)))
          (cases_lt (e / base) (g / base))
