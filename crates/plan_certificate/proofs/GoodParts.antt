-- A certificate of what a search has found is good and tight.
use Rattle.std.proofs.Common.{◌≡◌, ℕ, ◌≤◌, ◌<◌, Option, Some, List, All, length, get_or, sym, ◌∙◌, ap, subst, arith}
use Rattle.std.proofs.lemmas.List.Elements.{All-weaker}
use Rattle.route_base.specs.Front.{IsRight, pairs_of}
use Rattle.route_base.specs.Legs.{Achieves, HasNoNeighbouringWaits}
use Rattle.route_base.specs.Net.{Net, setting_of}
use Rattle.route_base.specs.Relaxing.{IsComplete}
use Rattle.route_base.specs.Setting.{Setting}
use Rattle.route_base.specs.declared.types.Bound.{Bound}
use Rattle.route_base.specs.declared.types.NodeId.{NodeId}
use Rattle.route_base.specs.declared.types.Pair.{Pair}
use Rattle.route_base.specs.declared.types.Request.{Request}
use Rattle.cost_functions.specs.Building.{AreBuilt}
use Rattle.cost_functions.specs.Lines.{line_at}
use Rattle.cost_functions.specs.Pieces.{value_in, IsReduced}
use Rattle.cost_functions.specs.declared.pieces.Piece.{Piece}
use Rattle.cost_functions.proofs.Places.{value_at_place}
use Rattle.potentials.specs.Sums.{AreLeastBounds, bound_at}
use Rattle.propagation.specs.Found.{Finding, IsFoundFor, IsJustified, cost_at}
use Rattle.certificate.specs.ByNode.{item_at}
use Rattle.certificate.specs.declared.Certificate.{Certificate}
use Rattle.certificate_check.specs.Conditions.{value_of, IsInRange, IsNodeOf, AreOrderedPairs}
use Rattle.certificate_check.specs.Verdicts.{IsGood}
use Rattle.plan_certificate.specs.Inside.Entries.{AreEntriesOf, pieces_of}
use Rattle.plan_certificate.specs.Tight.{IsTight}
use Rattle.plan_certificate.proofs.FoundEntries.{same_items, same_values, bound_within, function_has, function_is, function_within}

module _ (net : Net) (r : Request) (found : Finding) (answers : IsFoundFor net r found)
    (least : AreLeastBounds (setting_of net) r.goal.0 (bound_at found.bounds)) (c : Certificate)
    (right : IsRight (setting_of net) r c.routes) (pairs : pairs_of c.routes ≡ found.pairs)
    (bounds : AreEntriesOf (bound_at found.bounds) c.bounds) (functions : AreEntriesOf (pieces_of found.functions) c.functions) where
  abbrev s : Setting
  s = setting_of net

  -- a fact of what was found is one of the certificate
  carried : (P : List Pair → (ℕ → Option Bound) → (ℕ → ℕ → Option ℕ) → Type 0) → P found.pairs (bound_at found.bounds) (cost_at found.functions)
      → P (pairs_of c.routes) (item_at c.bounds) (value_of c.functions)
  carried P holds = subst (λ ps. P ps (item_at c.bounds) (value_of c.functions)) (sym pairs)
      (subst (λ bs. P found.pairs bs (value_of c.functions)) (sym (same_items (bound_at found.bounds) c.bounds bounds))
      (subst (λ cost. P found.pairs (bound_at found.bounds) cost) (sym (same_values found.functions c.functions functions)) holds))

  complete : IsComplete s r (pairs_of c.routes) (item_at c.bounds) (value_of c.functions)
  complete = carried (IsComplete s r) answers.optimal.complete

  justified : IsJustified s r (pairs_of c.routes) (item_at c.bounds) (value_of c.functions)
  justified = carried (IsJustified s r) answers.justified

  bound_nodes : All (λ e. IsNodeOf s e.0.0) c.bounds
  bound_nodes = All-weaker (λ e. (1 ≤ e.0.0) × (e.0.0 ≤ length found.bounds)) (λ e. IsNodeOf s e.0.0)
      (λ e node. (node.0, omega (arith, node.1, answers.bounded))) c.bounds (bound_within found.bounds c.bounds bounds)

  built : All (λ e. AreBuilt e.1) c.functions
  built = function_has found.functions c.functions functions AreBuilt answers.reduced

  module _ (k : ℕ) (d : NodeId × List Piece) (within : k < length c.functions) where
    abbrev e : NodeId × List Piece
    e = get_or c.functions k d

    minutes : All (λ p. (r.depart ≤ p.lo) × (p.hi ≤ r.until)) e.1
    minutes j f inside =
        let p = get_or e.1 j f in
        let pieces = (built k d within).pieces in
        let filled : p.lo ≤ p.hi = (pieces.each j f inside).filled in
        let first = answers.justified.begun (record { node = e.0.0; minute = p.lo; cost = line_at p p.lo })
        (known p.lo (value_at_place e.1 j f p.lo pieces inside (omega arith) filled)) in
        let last = answers.justified.tight (record { node = e.0.0; minute = p.hi; cost = line_at p p.hi })
        (known p.hi (value_at_place e.1 j f p.hi pieces inside filled (omega arith))) in
        (first, omega (arith, last.2))
      where
        known : (t : ℕ) {x : ℕ} → value_in (Some e.1) t ≡ Some x → cost_at found.functions e.0.0 t ≡ Some x
        known t is = ap (λ o. value_in o t) (function_is found.functions c.functions functions k d within) ∙ is

    range : IsInRange s r e
    range =
        let node = function_within found.functions c.functions functions k d within in
        record { node = (node.0, omega (arith, node.1, answers.nodes)); minutes = minutes }

  pub is_good : IsGood s r c
  is_good = record {
    pairs = subst (AreOrderedPairs r.until) (sym pairs) (record { trade = answers.optimal.trade; in_time = answers.optimal.in_time });
    achieved = All-weaker (λ x. Achieves s r x.legs x.pair × HasNoNeighbouringWaits x.legs) (λ x. Achieves s r x.legs x.pair)
        (λ x h. h.0) c.routes right.legs;
    bounds = record { nodes = bound_nodes; are = complete.bound };
    start = complete.start;
    goes_on = record { ranges = range; steps = complete.goes_on };
    end = complete.end;
  }

  pub is_tight : IsTight s r c
  is_tight = record {
    bounds = subst (AreLeastBounds s r.goal.0) (sym (same_items (bound_at found.bounds) c.bounds bounds)) least;
    reduced = All-weaker (λ e. AreBuilt e.1) (λ e. IsReduced e.1) (λ e h. h.reduced) c.functions built;
    reached = justified.reachable;
    in_reach = λ v t x is. justified.tight (record { node = v; minute = t; cost = x }) is;
  }
