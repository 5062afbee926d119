-- Functions with the same values: entry by entry, and in the steps from their values.
use Rattle.std.proofs.Common.{◌≡◌, inl, inr, ⊎_elim, ℕ, ◌<◌, Bool, true, false, cond, Option, Some, List, [], ◌∷◌, ◌++◌, length, get_or, All}
use Rattle.std.proofs.Common.{◌+◌, take, refl, sym, ◌∙◌, ap, subst, arith}
use Rattle.std.specs.Prelude.{◌==◌}
use Rattle.std.proofs.lemmas.List.{get_or_default, get_or-take, length-take, take_more}
use Rattle.std.proofs.lemmas.List.Elements.{All-head, All-tail, All-cons}
use Rattle.route_base.specs.Setting.{Setting}
use Rattle.route_base.specs.Itinerary.{Position, Step, Moves}
use Rattle.route_base.specs.Relaxing.{HasWithin, IsDominatedOrLate, IsRelaxed}
use Rattle.route_base.specs.declared.types.Bound.{Bound}
use Rattle.route_base.specs.declared.types.NodeId.{NodeId}
use Rattle.route_base.specs.declared.types.Pair.{Pair}
use Rattle.cost_functions.specs.Pieces.{value_at, value_in}
use Rattle.cost_functions.specs.declared.pieces.Piece.{Piece}
use Rattle.certificate.specs.ByNode.{item_at, AreRising}
use Rattle.certificate_check.specs.Conditions.{AreStepsRelaxed}
use Rattle.certificate_check.specs.Inside.Reduction.{HaveSameValues, AreAlike}

at_choice : (b : Bool) (ps qs : List Piece) (o p : Option (List Piece)) (t : ℕ) → value_at ps t ≡ value_at qs t → value_in o t ≡ value_in p t
    → value_in (cond b (Some ps) o) t ≡ value_in (cond b (Some qs) p) t
at_choice true ps qs o p t here there = here
at_choice false ps qs o p t here there = there

pub alike_values : (ds es : List (NodeId × List Piece)) → AreAlike ds es → HaveSameValues ds es
alike_values [] [] alike v t = refl
alike_values [] (e ∷ es) alike v t = absurd alike
alike_values (d ∷ ds) [] alike v t = absurd alike
alike_values (d ∷ ds) (e ∷ es) alike v t =
    at_choice (d.0.0 == v) d.1 e.1 (item_at ds v) (item_at es v) t (alike.1 t) (alike_values ds es alike.2 v t)
    ∙ ap (λ (n : NodeId). value_in (cond (n.0 == v) (Some e.1) (item_at es v)) t) alike.0

-- one entry more
alike_more : (ds es : List (NodeId × List Piece)) (d e : NodeId × List Piece) → AreAlike ds es → d.0 ≡ e.0
    → ((t : ℕ) → value_at d.1 t ≡ value_at e.1 t) → AreAlike (ds ++ d ∷ []) (es ++ e ∷ [])
alike_more [] [] d e alike node same = (node, same, tt)
alike_more [] (y ∷ es) d e alike node same = absurd alike
alike_more (x ∷ ds) [] d e alike node same = absurd alike
alike_more (x ∷ ds) (y ∷ es) d e alike node same = (alike.0, alike.1, alike_more ds es d e alike.2 node same)

-- the nodes of the one list are below a number where those of the other are
alike_below : (ds es : List (NodeId × List Piece)) (n : ℕ) → AreAlike ds es → All (λ e. e.0.0 < n) es → All (λ d. d.0.0 < n) ds
alike_below [] es n alike below = λ k d within. absurd (omega (arith, within))
alike_below (x ∷ ds) [] n alike below = absurd alike
alike_below (x ∷ ds) (y ∷ es) n alike below =
    All-cons (λ (e : NodeId × List Piece). e.0.0 < n) x ds
    (subst (λ (v : NodeId). v.0 < n) (sym alike.0) (All-head (λ (e : NodeId × List Piece). e.0.0 < n) y es below))
    (alike_below ds es n alike.2 (All-tail (λ (e : NodeId × List Piece). e.0.0 < n) y es below))

-- the next entry of a list whose nodes rise
module _ (ds es : List (NodeId × List Piece)) (i : ℕ) (e : NodeId × List Piece) (inside : i < length es) (is : e ≡ get_or es i e)
    (alike : AreAlike ds (take i es)) where
  pub next_above : AreRising es → All (λ d. d.0.0 < e.0.0) ds
  next_above rising = alike_below ds (take i es) e.0.0 alike (λ k d within.
      (let early : k < i = omega (arith, within, length-take i es) in
      let far = rising k i d early inside in
      let here = is ∙ get_or_default es i e d inside in
      subst (λ (w : NodeId × List Piece). w.0.0 < e.0.0) (sym (get_or-take i es k d early))
      (subst (λ (w : NodeId × List Piece). (get_or es k d).0.0 < w.0.0) (sym here) far)))

  pub next_alike : (d : NodeId × List Piece) → d.0 ≡ e.0 → ((t : ℕ) → value_at d.1 t ≡ value_at e.1 t)
      → AreAlike (ds ++ d ∷ []) (take (i + 1) es)
  next_alike d node same =
      subst (λ (ws : List (NodeId × List Piece)). AreAlike (ds ++ d ∷ []) ws)
      (ap (λ (w : NodeId × List Piece). take i es ++ w ∷ []) is ∙ sym (take_more es i e inside))
      (alike_more ds (take i es) d e alike node same)

-- the same values have the same relaxed steps
module _ (s : Setting) (until : ℕ) (pairs : List Pair) (bounds : ℕ → Option Bound) (found value : ℕ → ℕ → Option ℕ)
    (same : (v t : ℕ) → found v t ≡ value v t) where
  relaxed_too : (q : Position) → IsRelaxed until pairs bounds found q → IsRelaxed until pairs bounds value q
  relaxed_too q h = ⊎_elim
      (λ (w : HasWithin found q). inl (record { least = w.least; is = sym (same q.node q.minute) ∙ w.is; within = w.within }))
      (λ (e : IsDominatedOrLate until pairs (bounds q.node) q). inr e)
      h

  pub steps_too : AreStepsRelaxed s until pairs bounds found → AreStepsRelaxed s until pairs bounds value
  steps_too all p stands = ⊎_elim
      (λ (e : IsDominatedOrLate until pairs (bounds p.node) p). inl e)
      (λ (each : (x : Step) (q : Position) → Moves s until x p q → IsRelaxed until pairs bounds found q).
      inr (λ x q move. relaxed_too q (each x q move)))
      (all p (same p.node p.minute ∙ stands))
