-- The first itinerary of a pair, found step by step from its end.
use Rattle.std.proofs.Common.{◌≡◌, ◌⊎◌, inl, inr, ⊎_elim, ℕ, zero, suc, ◌≤◌, ◌<◌, Option, List, [], ◌∷◌, ◌++◌, replicate, refl, sym, ◌∙◌, ap, subst, arith}
use Rattle.std.proofs.Common.{append_assoc, append-nil}
use Rattle.std.specs.Prelude.{reverse}
use Rattle.std.proofs.lemmas.List.{reverse-append}
use Rattle.std.proofs.lemmas.Option.{same_Some}
use Rattle.route_base.specs.Setting.{Setting, Road}
use Rattle.route_base.specs.Itinerary.{Position, Step, drive, wait, Moves, Walks}
use Rattle.route_base.specs.Legs.{steps_of, steps_of_leg, start_of, end_of, Achieves, IsReachable}
use Rattle.route_base.specs.declared.types.ArcId.{ArcId}
use Rattle.route_base.specs.declared.types.Leg.{Leg}
use Rattle.route_base.specs.declared.types.Leg.TheVariants.{Drive, Wait}
use Rattle.route_base.specs.declared.types.Pair.{Pair}
use Rattle.route_base.specs.declared.types.Request.{Request}
use Rattle.route_base.proofs.Arcs.{TakesTime}
use Rattle.route_base.proofs.Waiting.{same_position}
use Rattle.route_base.proofs.Walking.{along, moves_later, moves_forward}
use Rattle.route_base.specs.FirstItinerary.{IsStepBefore, ComesBefore, IsFirst}
use Rattle.route_base.specs.StepsBack.{HasWaysTo, HasSource, HasNoMove, IsFirstLeg, GoesThrough, LeadsFirst}
use Rattle.route_base.proofs.StepOrder.{step_order, none_before_wait, never_both, before_longer, before_at}

-- where no wait leads here, and no drive over an arc of a smaller number, the drive is the first
pub drives_first : (s : Setting) (until : ℕ) (cost : ℕ → ℕ → Option ℕ) (p : Position) → HasNoMove s until cost wait p → (a : ArcId)
    → ((b : ℕ) → b < a.0 → HasNoMove s until cost (drive b) p) → IsFirstLeg s until cost p (Drive a)
drives_first s until cost p none a smaller wait before = none
drives_first s until cost p none a smaller (drive b) before = smaller b before

module _ (s : Setting) (until : ℕ) where
  -- steps whose last one leads to a position
  pub record EndsBy (steps : List Step) (p q : Position) : Type 0 where
    pub before : List Step
    pub step : Step
    pub source : Position
    pub is : steps ≡ before ++ step ∷ []
    pub walk : Walks s until before p source
    pub move : Moves s until step source q

  longer : (x : Step) (xs : List Step) (p u q : Position) → Moves s until x p u → ((xs ≡ []) × (u ≡ q)) ⊎ EndsBy xs u q → EndsBy (x ∷ xs) p q
  longer x xs p u q move (inl none) = record {
    before = [];
    step = x;
    source = p;
    is = ap (λ (w : List Step). x ∷ w) none.0;
    walk = refl;
    move = subst (λ (w : Position). Moves s until x p w) none.1 move;
  }
  longer x xs p u q move (inr some) = record {
    before = x ∷ some.before;
    step = some.step;
    source = some.source;
    is = ap (λ (w : List Step). x ∷ w) some.is;
    walk = (u, move, some.walk);
    move = some.move;
  }

  -- a walk is empty or has a last step
  pub last_step : (xs : List Step) (p q : Position) → Walks s until xs p q → ((xs ≡ []) × (p ≡ q)) ⊎ EndsBy xs p q
  last_step [] p q walk = inl (refl, walk)
  last_step (x ∷ xs) p q walk = inr (longer x xs p walk.0 q walk.1 (last_step xs walk.0 q walk.2))

  -- a step has one source
  pub same_source : (x : Step) (p q u : Position) → Moves s until x p u → Moves s until x q u → p ≡ q
  same_source (drive a) p q u from to =
      let road : from.road ≡ to.road = same_Some from.road to.road (sym from.is ∙ to.is) in
      same_position p q (sym from.tail ∙ (ap (λ (w : Road). w.tail) road ∙ to.tail))
      (omega (arith, from.minute, to.minute, ap (λ (w : Road). w.minutes) road))
      (omega (arith, from.cost, to.cost, ap (λ (w : Road). w.cost) road))
  same_source wait p q u from to =
      let node : p.node ≡ q.node = sym from.node ∙ to.node in
      let weight : from.weight ≡ to.weight = same_Some from.weight to.weight (sym from.rated ∙ (ap s.weight node ∙ to.rated)) in
      same_position p q node (omega (arith, from.minute, to.minute)) (omega (arith, from.cost, to.cost, weight))

module _ (s : Setting) (r : Request) (pair : Pair) where
  -- at the pair
  pub leads_at_end : LeadsFirst s r pair (end_of r pair) []
  leads_at_end = record {
    walk = refl;
    others = λ steps way. inl (record { before = steps; is = sym (append-nil steps); walk = way });
  }

  -- no walk leads from the start to the start, or to an earlier minute, by a step
  never_back : TakesTime s → (steps : List Step) (p : Position) → p.minute ≤ r.depart → EndsBy s r.until steps (start_of r) p → ⊥
  never_back takes steps p early by =
      let begun = along s r.until (λ w. r.depart ≤ w.minute) (λ x u v le move. omega (arith, le, moves_forward s r.until x u v move)) by.before (start_of r)
      by.source (omega arith) by.walk in
      omega (arith, begun, early, moves_later s r.until takes by.step by.source p by.move)

  -- at the start
  pub is_first : TakesTime s → (legs : List Leg) → LeadsFirst s r pair (start_of r) (steps_of legs) → IsFirst s r legs pair
  is_first takes legs leads steps way = by (leads.others steps way)
    where
      whole : (through : GoesThrough s r (start_of r) (steps_of legs) steps) → ((through.before ≡ []) × (start_of r ≡ start_of r))
          ⊎ EndsBy s r.until through.before (start_of r) (start_of r) → steps ≡ steps_of legs
      whole through (inl none) = through.is ∙ ap (λ (w : List Step). w ++ steps_of legs) none.0
      whole through (inr some) = absurd (never_back takes through.before (start_of r) (omega arith) some)

      by : GoesThrough s r (start_of r) (steps_of legs) steps ⊎ ComesBefore (reverse (steps_of legs)) (reverse steps)
          → (steps ≡ steps_of legs) ⊎ ComesBefore (reverse (steps_of legs)) (reverse steps)
      by (inl through) = inl (whole through (last_step s r.until through.before (start_of r) (start_of r) through.walk))
      by (inr behind) = inr behind

  module _ (takes : TakesTime s) (cost : ℕ → ℕ → Option ℕ) (ways : HasWaysTo s r pair cost) where
    -- a position on the way that isn't the start has a source
    pub has_source : (p : Position) (after : List Step) → IsReachable s r p → Walks s r.until after p (end_of r pair)
        → (start_of r ≡ p) ⊎ HasSource s r.until cost p
    has_source p after reach walk = by (last_step s r.until reach.0 (start_of r) p reach.1)
      where
        by : ((reach.0 ≡ []) × (start_of r ≡ p)) ⊎ EndsBy s r.until reach.0 (start_of r) p → (start_of r ≡ p) ⊎ HasSource s r.until cost p
        by (inl none) = inl none.1
        by (inr some) = inr (record {
          step = some.step;
          source = some.source;
          known = ways some.before (some.step ∷ after) some.source some.walk (p, some.move, walk);
          move = some.move;
        })

    -- one step more, before those that are found
    leads_before : (after : List Step) (x : Step) (q p : Position) → r.depart ≤ q.minute → Moves s r.until x q p
        → ((y : Step) → IsStepBefore y x → HasNoMove s r.until cost y p) → LeadsFirst s r pair p after → LeadsFirst s r pair q (x ∷ after)
    leads_before after x q p begun move none leads = record {
      walk = (p, move, leads.walk);
      others = λ steps way. by steps (leads.others steps way);
    }
      where
        last_is : reverse (x ∷ after) ≡ reverse after ++ x ∷ []
        last_is = reverse-append (x ∷ []) after

        behind_it : (steps : List Step) → ComesBefore (reverse after ++ x ∷ []) (reverse steps) → ComesBefore (reverse (x ∷ after)) (reverse steps)
        behind_it steps h = subst (λ (w : List Step). ComesBefore w (reverse steps)) (sym last_is) h

        turned : (steps before : List Step) (y : Step) → steps ≡ (before ++ y ∷ []) ++ after → reverse steps ≡ reverse after ++ y ∷ reverse before
        turned steps before y is =
            let twice = reverse-append (before ++ y ∷ []) after ∙ ap (λ (w : List Step). reverse after ++ w) (reverse-append before (y ∷ [])) in
            ap (λ (w : List Step). reverse w) is ∙ twice

        by_last : (steps : List Step) (through : GoesThrough s r p after steps) → ((through.before ≡ []) × (start_of r ≡ p))
            ⊎ EndsBy s r.until through.before (start_of r) p → GoesThrough s r q (x ∷ after) steps ⊎ ComesBefore (reverse (x ∷ after)) (reverse steps)
        by_last steps through (inl empty) = absurd (omega (arith, begun, moves_later s r.until takes x q p move, ap (λ (w : Position). w.minute) empty.1))
        by_last steps through (inr some) =
            let is : steps ≡ (some.before ++ some.step ∷ []) ++ after = through.is ∙ ap (λ (w : List Step). w ++ after) some.is in
            let known = ways some.before (some.step ∷ after) some.source some.walk (p, some.move, leads.walk) in
            ⊎_elim
            (λ (same : x ≡ some.step).
            let source = same_source s r.until x some.source q p (subst (λ w. Moves s r.until w some.source p) (sym same) some.move) move in
            inl (record {
              before = some.before;
              is = is ∙ (append_assoc some.before (some.step ∷ []) after
                  ∙ ap (λ w. some.before ++ w ∷ after) (sym same));
              walk = subst (λ (w : Position). Walks s r.until some.before (start_of r) w) source some.walk;
            }))
            (λ (other : IsStepBefore x some.step ⊎ IsStepBefore some.step x). ⊎_elim
            (λ (less : IsStepBefore x some.step). inr (behind_it steps
            (subst (λ (w : List Step). ComesBefore (reverse after ++ x ∷ []) w) (sym (turned steps some.before some.step is))
            (before_at (reverse after) [] (reverse some.before) x some.step less))))
            (λ (more : IsStepBefore some.step x). absurd (none some.step more some.source known some.move))
            other)
            (step_order x some.step)

        by : (steps : List Step) → GoesThrough s r p after steps ⊎ ComesBefore (reverse after) (reverse steps)
            → GoesThrough s r q (x ∷ after) steps ⊎ ComesBefore (reverse (x ∷ after)) (reverse steps)
        by steps (inl through) = by_last steps through (last_step s r.until through.before (start_of r) p through.walk)
        by steps (inr behind) = inr (behind_it steps (before_longer (reverse after) (reverse steps) (x ∷ []) behind))

    -- some minutes of waiting more
    leads_before_waits : (k : ℕ) (after : List Step) (q p : Position) → r.depart ≤ q.minute → Walks s r.until (replicate k wait) q p
        → LeadsFirst s r pair p after → LeadsFirst s r pair q (replicate k wait ++ after)
    leads_before_waits zero after q p begun walk leads = subst (λ (w : Position). LeadsFirst s r pair w after) (sym walk) leads
    leads_before_waits (suc k) after q p begun walk leads =
        leads_before (replicate k wait ++ after) wait q walk.0 begun walk.1 (λ y before u known move. none_before_wait y before)
        (leads_before_waits k after walk.0 p (omega (arith, begun, walk.1.minute)) walk.2 leads)

    -- one leg more
    pub leads_before_leg : (after : List Step) (leg : Leg) (q p : Position) → r.depart ≤ q.minute → Walks s r.until (steps_of_leg leg) q p
        → IsFirstLeg s r.until cost p leg → LeadsFirst s r pair p after → LeadsFirst s r pair q (steps_of_leg leg ++ after)
    leads_before_leg after (Drive a) q p begun walk first leads =
        leads_before after (drive a.0) q p begun (subst (λ (w : Position). Moves s r.until (drive a.0) q w) walk.2 walk.1) first leads
    leads_before_leg after (Wait k) q p begun walk first leads = leads_before_waits k after q p begun walk leads

-- two itineraries that are first have the same steps
pub first_is_one : (s : Setting) (r : Request) (pair : Pair) (xs ys : List Leg) → Achieves s r xs pair → Achieves s r ys pair
    → IsFirst s r xs pair → IsFirst s r ys pair → steps_of xs ≡ steps_of ys
first_is_one s r pair xs ys way_x way_y first_x first_y = ⊎_elim
    (λ (same : steps_of ys ≡ steps_of xs). sym same)
    (λ (before : ComesBefore (reverse (steps_of xs)) (reverse (steps_of ys))). ⊎_elim
    (λ (same : steps_of xs ≡ steps_of ys). same)
    (λ (after : ComesBefore (reverse (steps_of ys)) (reverse (steps_of xs))).
    absurd (never_both (reverse (steps_of xs)) (reverse (steps_of ys)) before after))
    (first_y (steps_of xs) way_x.walk))
    (first_x (steps_of ys) way_y.walk)
