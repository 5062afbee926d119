use Rattle.std.proofs.Common.{◌≡◌, ◌+◌, ◌∷◌, ◌++◌, [], ℕ, List, Vec, Global, length, refl, sym, ◌∙◌, ap, subst, arith}
use Rattle.route_base.specs.Net.{Net, IsGoodNet, setting_of}
use Rattle.route_base.specs.declared.types.NodeId.{NodeId}
use Rattle.route_base.specs.declared.types.Request.{Request}
use Rattle.route_base.proofs.Arcs.{takes_time}
use Rattle.plain_search.specs.Inside.CostTable.{cost_of}
use Rattle.plain_search.specs.Inside.Soundness.{IsAsked, IsFinalTable}
use Rattle.plain_search.specs.declared.cost_table.CostTable.{CostTable}
use Rattle.plain_search.proofs.Columns.{AreReadTo, IsDone, node_skip, node_push, values_at_end, final_inside}
use Rattle.plain_search.proofs.search.Search.read_points.Goals as goal
use Rattle.plain_search.proofs.search.Search.read_points.Goals.{then-len-gt0+in_ok-push, else-len-gt0}

is_done : (net : Net) (r : Request) (table : CostTable) → IsGoodNet net → IsAsked net r → IsFinalTable net r table
    → IsDone (setting_of net) r (cost_of table) (r.until + 1)
is_done net r table good asked final = record {
  takes = takes_time net good;
  fit = asked.fit;
  founded = final.sound.founded;
  relaxed = final.relaxed;
  inside = final_inside net r asked.in_time table final;
}

pub loop-v-preserved : goal.loop-v-preserved
loop-v-preserved c =
    let net = c.args.self.now.net.now in
    let r = c.args.self.now.request in
    let s = setting_of net in
    let cost = cost_of c.args.table.now in
    let v = c.loop-v.v in
    let points = c.in_ok-points.points.items in
    let done = is_done net r c.args.table.now c.args.self.now.good c.args.self.now.asked c.requires in
    elim c.if-len-gt0.branch [
      | then-len-gt0+in_ok-push w ↦
          (let entry : NodeId × List (ℕ × ℕ) = (record { 0 = v + 1 }, points) in
          let items : c.if-len-gt0.entries.items ≡ c.loop-v.entries.items ++ entry ∷ [] = ap
          (λ (e : Vec (NodeId × List (ℕ × ℕ)) Global). e.items) w.entries-is ∙ w.in_ok-push.ensures.items
          ∙ ap (λ (ps : List (ℕ × ℕ)). c.loop-v.entries.items ++ (record { 0 = v + 1 }, ps) ∷ []) w.from_vec.ensures in
          subst (λ (es : List (NodeId × List (ℕ × ℕ))). AreReadTo s r cost (v + 1) es) (sym items)
          (node_push s r cost (r.until + 1) done v c.loop-v.entries.items entry refl (omega (arith, c.loop-v-test.true, c.node_count-v-end.ensures.value))
          (λ (none : points ≡ []). absurd
          (omega (arith, ap (λ (ps : List (ℕ × ℕ)). length ps) none, w.if-len-gt0.true, c.len.ensures, c.in_ok-points.points.ok)))
          c.in_ok-points.ensures.rising c.in_ok-points.ensures.labels c.in_ok-points.ensures.all c.loop-v.invariant))
      | else-len-gt0 w ↦
          (subst (λ (e : Vec (NodeId × List (ℕ × ℕ)) Global). AreReadTo s r cost (v + 1) e.items) (sym w.entries-is)
          (node_skip s r cost (r.until + 1) done v c.loop-v.entries.items
          (λ t x label. let one = c.in_ok-points.ensures.all t x label in
          omega (arith, one.1, w.if-len-gt0.false, c.len.ensures, c.in_ok-points.points.ok)) c.loop-v.invariant))
    ]

pub returns : goal.returns
returns c =
    let net = c.args.self.now.net.now in
    let r = c.args.self.now.request in
    let done = is_done net r c.args.table.now c.args.self.now.good c.args.self.now.asked c.requires in
    values_at_end (setting_of net) r (cost_of c.args.table.now) (r.until + 1) done c.loop-v.v c.loop-v.entries.items
    (omega (arith, c.loop-v-test.false, c.node_count-v-end.ensures.value)) c.loop-v.invariant
