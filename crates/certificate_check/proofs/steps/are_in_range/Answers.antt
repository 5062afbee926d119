use Rattle.std.proofs.Common.{◌≡◌, ◌≤◌, ⊎_elim, ℕ, List, get_or, sym, ◌∙◌, ap, subst, arith, rules}
use Rattle.std.specs.Prelude.{All}
use Rattle.std.proofs.lemmas.Bool.{cases_eq}
use Rattle.std.proofs.lemmas.List.{get_or_read}
use Rattle.route_base.specs.Net.{setting_of}
use Rattle.route_base.specs.declared.types.NodeId.{NodeId}
use Rattle.cost_functions.specs.declared.pieces.Piece.{Piece}
use Rattle.certificate_check.specs.Conditions.{IsInRange}
use Rattle.certificate_check.proofs.steps.are_in_range.Goals as goal

pub loop-entry-preserved : goal.loop-entry-preserved
loop-entry-preserved c k d less within =
    let r = c.args.request in
    let i : ℕ = c.loop-entry.entry-index in
    let functions : List (NodeId × List Piece) = c.args.functions.now in
    let e : NodeId × List Piece = c.entry-item.result in
    let at : e ≡ get_or functions i e = c.entry-item.is ∙ ap (λ (es : List (NodeId × List Piece)). get_or es i e) c.as_slice-entry-items.ensures.entries in
    let here : IsInRange (setting_of c.args.net.now) r e = record {
      node = c.if-not-is_node.ensures.0 (search rules);
      minutes = subst (λ (ps : List Piece). All (λ p. (r.depart ≤ p.lo) × (p.hi ≤ r.until)) ps) c.pieces.ensures.items
          (c.if-not-are_within.ensures.0 (search rules));
    } in
    ⊎_elim
    (λ (same : k ≡ i). subst (λ (n : ℕ). IsInRange (setting_of c.args.net.now) r (get_or functions n d)) (sym same)
    (subst (λ (f : NodeId × List Piece). IsInRange (setting_of c.args.net.now) r f)
    (get_or_read functions i e (omega (arith, same, within)) at d) here))
    (λ (other : k ≡ i → ⊥). c.loop-entry.invariant k d (omega (arith, less, other)) within)
    (cases_eq k i)
