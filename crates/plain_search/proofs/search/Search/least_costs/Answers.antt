use Rattle.std.proofs.Common.{◌≡◌, ⊎_elim, ◌+◌, ◌≤◌, ◌<◌, ℕ, subst, arith}
use Rattle.std.proofs.lemmas.Bool.{cases_lt}
use Rattle.route_base.specs.Net.{setting_of}
use Rattle.plain_search.specs.Inside.Costs.{IsRelaxedFrom}
use Rattle.plain_search.specs.Inside.CostTable.{cost_of}
use Rattle.plain_search.proofs.Sounding.{sound_later}
use Rattle.plain_search.proofs.Staying.{lands_kept}
use Rattle.plain_search.proofs.search.Search.least_costs.Goals as goal

pub relax_minute-requires-clause-sound : goal.relax_minute-requires-clause-sound
relax_minute-requires-clause-sound c = sound_later c.args.self.now.net.now c.args.self.now.request c.loop-t.table c.loop-t.t
    (c.loop-t.t + 1) (omega arith) c.loop-t.invariant.sound

pub loop-t-preserved : goal.loop-t-preserved
loop-t-preserved c =
    let s = setting_of c.args.self.now.net.now in
    let until = c.args.self.now.request.until in
    record {
      sound = c.relax_minute.ensures.sound;
      done = λ x v k below. ⊎_elim
          (λ (before : k < c.loop-t.t). lands_kept s until (cost_of c.loop-t.table)
          (cost_of c.relax_minute.new.table) c.loop-t.t x v k c.relax_minute.ensures.later (omega arith) (c.loop-t.invariant.done x v k before))
          (λ (here : c.loop-t.t ≤ k). let same : c.loop-t.t ≡ k = omega arith
          in subst (λ (n : ℕ). IsRelaxedFrom s until (cost_of c.relax_minute.new.table) x v n) same (c.relax_minute.ensures.lands x v))
          (cases_lt k c.loop-t.t);
    }

pub returns : goal.returns
returns c =
    let net = c.args.self.now.net.now in
    let r = c.args.self.now.request in
    record {
      sound = sound_later net r c.loop-t.table c.loop-t.t (r.until + 1) (omega (arith, c.loop-t.auto.t-end)) c.loop-t.invariant.sound;
      relaxed = λ x v k below. c.loop-t.invariant.done x v k (omega (arith, below, c.loop-t-test.false));
    }
