use Rattle.std.proofs.Common.{◌≡◌, ◌≤◌, ◌+◌, ◌==◌, Bool, false, ℕ, List, [], ◌∷◌, ◌++◌, Some, length, length-append, append_assoc}
use Rattle.std.proofs.Common.{refl, sym, ◌∙◌, ap, subst, arith, eqb-true}
use Rattle.std.specs.Vec.Iter.{into_iter_items}
use Rattle.route_base.specs.declared.types.NodeId.{NodeId}
use Rattle.route_base.proofs.Numbered.{number_past}
use Rattle.cost_functions.specs.declared.pieces.Piece.{Piece}
use Rattle.plan_certificate.specs.Inside.Entries.{pieces_of, some_pieces}
use Rattle.plan_certificate.proofs.Choosing.{AreChosen, choose, choose_none, all_chosen, next_item, pieces_there, pieces_missing}
use Rattle.plan_certificate.proofs.functions.known_functions.Goals as goal

-- one function more was taken: the count, what is whole, and what the next node has
record IsTurn (items done rest : List (List Piece)) (f : List Piece) (n : ℕ) : Type 0 where
  count : length (done ++ f ∷ []) ≡ n + 1
  whole : done ++ f ∷ [] ++ rest ≡ items
  pieces : pieces_of items (n + 1) ≡ some_pieces (Some f)

turn : (items done rest old : List (List Piece)) (f : List Piece) (n : ℕ) → length done ≡ n → done ++ old ≡ items → old ≡ f ∷ rest
    → IsTurn items done rest f n
turn items done rest old f n count whole step =
    let next : done ++ f ∷ rest ≡ items = ap (λ (w : List (List Piece)). done ++ w) (sym step) ∙ whole in
    record {
      count = omega (arith, length-append done (f ∷ []), count);
      whole = append_assoc done (f ∷ []) rest ∙ next;
      pieces = ap (λ k. pieces_of items (k + 1)) (sym count) ∙ ap some_pieces (next_item done rest items f next);
    }

filled : (ps f : List Piece) → ps ≡ f → (b : Bool) → b ≡ (length ps == 0) → b ≡ false → 1 ≤ length f
filled ps f same b is not = filled' ps same (sym is ∙ not)
  where
    filled' : (qs : List Piece) → qs ≡ f → (length qs == 0) ≡ false → 1 ≤ length f
    filled' [] e not = absurd (cc)
    filled' (q ∷ qs) e not = omega (arith, ap (λ (w : List Piece). length w) e)

pub loop-function-preserved-in-Continue-1 : goal.loop-function-preserved-in-Continue-1
loop-function-preserved-in-Continue-1 c =
    let l = c.loop-function in
    let items = c.args.functions.items in
    let f = c.in-Some.function in
    let t = turn items l.yielded _ (into_iter_items l.function-iterator) f l.node l.invariant.count l.invariant.whole c.in-Some.ensures.steps.0 in
    let node : NodeId = record { 0 = l.node + 1 } in
    let some : 1 ≤ length f = filled c.pieces.result.now f c.pieces.ensures.items c.is_empty.result c.is_empty.ensures c.if-not-is_empty.true in
    record {
      can = tt;
      finite = tt;
      count = t.count;
      left = omega (arith, l.invariant.left, c.in-Some.ensures.steps.1);
      whole = t.whole;
      chosen = subst (λ (es : List (NodeId × List Piece)). AreChosen (pieces_of items) (l.node + 1) es) (sym c.in_ok-push.ensures.ok)
          (choose (pieces_of items) l.node l.known l.invariant.chosen (node, f) refl (t.pieces ∙ pieces_there f some));
    }

pub loop-function-preserved : goal.loop-function-preserved
loop-function-preserved c =
    let l = c.loop-function in
    let f = c.in-Some.function in
    let steps = c.in-Some.ensures.steps in
    let t = turn c.args.functions.items l.yielded _ (into_iter_items l.function-iterator) f l.node l.invariant.count l.invariant.whole steps.0 in
    let none : length f ≡ 0 = ap (λ (w : List Piece). length w) (sym c.pieces.ensures.items)
    ∙ eqb-true (length c.pieces.result.now) 0 (sym c.is_empty.ensures ∙ c.if-not-is_empty.false) in
    record {
      can = tt;
      finite = tt;
      count = t.count;
      left = omega (arith, l.invariant.left, steps.1);
      whole = t.whole;
      chosen = choose_none (pieces_of c.args.functions.items) l.node l.known l.invariant.chosen (t.pieces ∙ pieces_missing f none);
    }

pub returns : goal.returns
returns c =
    let l = c.loop-function in
    all_chosen (pieces_of c.args.functions.items) l.node l.known l.invariant.chosen
    (λ v past. ap some_pieces (number_past c.args.functions.items v (omega (arith, past, l.invariant.left, c.in-None.ensures.steps.0))))
