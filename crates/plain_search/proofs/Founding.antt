-- Each known cost is that of a walk, and entering the end of a lawful step keeps that.
use Rattle.std.proofs.Common.{◌≡◌, ◌⊎◌, inl, inr, ⊎_elim, ℕ, zero, suc, ◌≤◌, ◌<◌, List, [], ◌∷◌, ◌++◌, sym, ◌∙◌, ap, subst, arith}
use Rattle.std.proofs.lemmas.Bool.{cases_lt, cases_eq}
use Rattle.route_base.specs.Setting.{Setting}
use Rattle.route_base.specs.Itinerary.{Step, Moves, Walks}
use Rattle.route_base.specs.Legs.{start_of, CostsFit}
use Rattle.route_base.specs.declared.types.Request.{Request}
use Rattle.route_base.proofs.Waiting.{same_position}
use Rattle.route_base.proofs.Walking.{walk-push, moves_later}
use Rattle.route_base.proofs.Arcs.{TakesTime}
use Rattle.plain_search.specs.Inside.Costs.{none, Lowers, ChangesLater, at, ComesByStep, ComesBySteps}

pub later_of : (old new : ℕ → ℕ → ℕ) (v t t' x : ℕ) → Lowers old new v t' x → t < t' → ChangesLater old new t
later_of old new v t t' x lowers later = record {
  less = λ w k. ⊎_elim
      (λ (same : w ≡ v). ⊎_elim
      (λ (at_once : k ≡ t'). subst (λ (u : ℕ). new u k ≤ old u k) (sym same)
      (subst (λ (u : ℕ). new v u ≤ old v u) (sym at_once) (omega (arith, lowers.here))))
      (λ (apart : k ≡ t' → ⊥). omega (arith, lowers.others w k (λ _ e. apart e)))
      (cases_eq k t'))
      (λ (apart : w ≡ v → ⊥). omega (arith, lowers.others w k (λ e _. apart e)))
      (cases_eq w v);
  same = λ w k le. lowers.others w k (λ _ e. omega (arith, e, le, later));
}

module _ (s : Setting) (r : Request) where
  pub walk_to : TakesTime s → (cost : ℕ → ℕ → ℕ) (now : ℕ) → ComesBySteps s r cost now → (n v t : ℕ) → t < n → cost v t < none
      → (steps : List Step) × Walks s r.until steps (start_of r) (at cost v t)
  walk_to takes cost now founded zero v t below known = absurd (omega (arith, below))
  walk_to takes cost now founded (suc n) v t below known =
      ⊎_elim
      (λ (first : (v ≡ r.origin.0) × (t ≡ r.depart)). (
        [],
        same_position (start_of r) (at cost v t) (sym first.0) (sym first.1)
            (sym founded.start ∙ ap (λ (w : ℕ). cost w r.depart) (sym first.0) ∙ ap (λ (w : ℕ). cost v w) (sym first.1)),
      ))
      (λ (from : ComesByStep s r.until cost now v t).
      let earlier = moves_later s r.until takes from.step (at cost from.node from.minute) (at cost v t) from.move in
      let walk = walk_to takes cost now founded n from.node from.minute (omega (arith, earlier, below)) from.known in
      (walk.0 ++ from.step ∷ [], walk-push s r.until walk.0 from.step (start_of r) (at cost from.node from.minute) (at cost v t) walk.1 from.move))
      (founded.each v t known)

  pub cost_fits : TakesTime s → CostsFit s r → (cost : ℕ → ℕ → ℕ) (now : ℕ) → ComesBySteps s r cost now → (v t : ℕ) → cost v t < none
      → cost v t ≤ 10000000000
  cost_fits takes fit cost now founded v t known =
      let walk = walk_to takes cost now founded (suc t) v t (omega arith) known in
      fit walk.0 (at cost v t) walk.1

  -- what a cost comes by is not changed by one that is entered later
  keeps_source : (old new : ℕ → ℕ → ℕ) (now w k : ℕ) → ((u i : ℕ) → i < now → new u i ≡ old u i) → new w k ≡ old w k
      → ComesByStep s r.until old now w k → ComesByStep s r.until new now w k
  keeps_source old new now w k stays same from = record {
    step = from.step;
    node = from.node;
    minute = from.minute;
    early = from.early;
    known = omega (arith, from.known, stays from.node from.minute from.early);
    move = subst (λ (c : ℕ). Moves s r.until from.step (record { node = from.node; minute = from.minute; cost = c }) (at new w k))
        (sym (stays from.node from.minute from.early))
        (subst (λ (c : ℕ). Moves s r.until from.step (at old from.node from.minute) (record { node = w; minute = k; cost = c }))
        (sym same) from.move);
  }

  abbrev Known : (ℕ → ℕ → ℕ) → ℕ → ℕ → ℕ → Type 0
  Known new now w i = new w i < none → ((w ≡ r.origin.0) × (i ≡ r.depart)) ⊎ ComesByStep s r.until new now w i

  -- the end of a lawful step is entered
  pub founded_lower : (old new : ℕ → ℕ → ℕ) (now v t x : ℕ) → ComesBySteps s r old now → Lowers old new v t x → r.depart < now → now ≤ t
      → (y : Step) (u k : ℕ) → k < now → old u k < none → Moves s r.until y (at old u k) (record { node = v; minute = t; cost = x })
      → ComesBySteps s r new now
  founded_lower old new now v t x founded lowers begun later y u k early known move = record {
    start = stays r.origin.0 r.depart begun ∙ founded.start;
    each = λ w i. ⊎_elim
        (λ (same : w ≡ v). ⊎_elim
        (λ (at_once : i ≡ t). subst (λ (n : ℕ). Known new now n i) (sym same) (subst (λ (n : ℕ). Known new now v n) (sym at_once) here))
        (λ (apart : i ≡ t → ⊥). elsewhere w i (lowers.others w i (λ _ e. apart e)))
        (cases_eq i t))
        (λ (apart : w ≡ v → ⊥). elsewhere w i (lowers.others w i (λ e _. apart e)))
        (cases_eq w v);
  }
    where
      stays : (w i : ℕ) → i < now → new w i ≡ old w i
      stays w i before = lowers.others w i (λ _ e. omega (arith, e, before, later))

      elsewhere : (w i : ℕ) → new w i ≡ old w i → Known new now w i
      elsewhere w i same at_hand = ⊎_elim
          (λ (first : (w ≡ r.origin.0) × (i ≡ r.depart)). inl first)
          (λ (from : ComesByStep s r.until old now w i). inr (keeps_source old new now w i stays same from))
          (founded.each w i (omega (arith, same, at_hand)))

      here : Known new now v t
      here at_hand = ⊎_elim
          (λ (lower : x < old v t).
          let is : new v t ≡ x = omega (arith, lowers.here, lower) in
          inr (record {
            step = y;
            node = u;
            minute = k;
            early = early;
            known = omega (arith, stays u k early, known);
            move = subst (λ (c : ℕ). Moves s r.until y (record { node = u; minute = k; cost = c }) (at new v t)) (sym (stays u k early))
                (subst (λ (c : ℕ). Moves s r.until y (at old u k) (record { node = v; minute = t; cost = c })) (sym is) move);
          }))
          (λ (no_lower : old v t ≤ x). elsewhere v t (omega (arith, lowers.here, no_lower)) at_hand)
          (cases_lt x (old v t))
