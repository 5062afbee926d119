use Rattle.std.proofs.Common.{◌≡◌, ◌+◌, ◌∷◌, ◌++◌, [], ℕ, List, Vec, Global, sym, ◌∙◌, ap, subst, arith}
use Rattle.plain_search.specs.Inside.CostTable.{cost_of}
use Rattle.plain_search.proofs.Columns.{IsReadBefore, minute_skip, minute_push, final_inside}
use Rattle.plain_search.proofs.search.Search.points_of.Goals as goal
use Rattle.plain_search.proofs.search.Search.points_of.Goals.{then-cost+in_ok-push, else-cost}

pub loop-t-preserved : goal.loop-t-preserved
loop-t-preserved c =
    let cost = cost_of c.args.table.now in
    let v = c.args.node.0 in
    let from = c.args.self.now.request.depart in
    let t = c.loop-t.t in
    elim c.if-cost.branch [
      | then-cost+in_ok-push w ↦
          (let items : c.if-cost.points.items ≡ c.loop-t.points.items ++ (t, c.cost-cost.result) ∷ [] = ap
          (λ (p : Vec (ℕ × ℕ) Global). p.items) w.points-is ∙ w.in_ok-push.ensures.items in
          subst (λ (xs : List (ℕ × ℕ)). IsReadBefore cost v from (t + 1) xs) (sym items)
          (minute_push cost v from t c.cost-cost.result c.loop-t.points.items
          (record { is = sym c.cost-cost.ensures; reached = omega (arith, w.if-cost.true, c.cost-cost.type_inv) }) c.loop-t.invariant))
      | else-cost w ↦
          (subst (λ (p : Vec (ℕ × ℕ) Global). IsReadBefore cost v from (t + 1) p.items) (sym w.points-is)
          (minute_skip cost v from t c.loop-t.points.items (omega (arith, w.if-cost.false, c.cost-cost.ensures)) c.loop-t.invariant))
    ]

pub returns-clause-all : goal.returns-clause-all
returns-clause-all c = λ t x label.
    let inside = (final_inside c.args.self.now.net.now c.args.self.now.request c.args.self.now.asked.in_time c.args.table.now c.requires.table
    c.args.node.0 t (omega (arith, label.is, label.reached))).minute in
    c.loop-t.invariant.all t x inside.0 (omega (arith, inside.1, c.loop-t-test.false)) label
