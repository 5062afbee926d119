use Rattle.std.proofs.Common.{◌≡◌, ⊎_elim, ◌+◌, ◌≤◌, ◌<◌, ℕ, subst, arith}
use Rattle.std.proofs.lemmas.Bool.{cases_lt}
use Rattle.route_base.specs.Net.{setting_of}
use Rattle.plain_search.specs.Inside.Costs.{IsRelaxedFrom}
use Rattle.plain_search.specs.Inside.CostTable.{cost_of}
use Rattle.plain_search.proofs.Staying.{changes-append, lands_kept}
use Rattle.plain_search.proofs.search.Search.relax_minute.Goals as goal

pub loop-v-preserved : goal.loop-v-preserved
loop-v-preserved c =
    let table = cost_of c.relax_node.new.table in
    record {
      sound = c.relax_node.ensures.sound;
      later = changes-append _ _ _ c.args.minute c.loop-v.invariant.later c.relax_node.ensures.later;
      settled = λ x v low high. ⊎_elim
          (λ (before : v < c.loop-v.v + 1).
          lands_kept (setting_of c.args.self.now.net.now) c.args.self.now.request.until (cost_of c.loop-v.table) table c.args.minute x v c.args.minute
          c.relax_node.ensures.later (omega arith) (c.loop-v.invariant.settled x v low (omega (arith, before))))
          (λ (here : c.loop-v.v + 1 ≤ v).
          let same : c.loop-v.v + 1 ≡ v = omega (arith, here, high) in
          subst (λ (n : ℕ). IsRelaxedFrom (setting_of c.args.self.now.net.now) c.args.self.now.request.until table x n c.args.minute) same
          (c.relax_node.ensures.lands x))
          (cases_lt v (c.loop-v.v + 1));
    }
