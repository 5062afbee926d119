use Rattle.std.proofs.Common.{◌≤◌, sym, ◌∙◌, ap, arith}
use Rattle.route_base.specs.Runs.{any_has}
use Rattle.minute_sets.specs.Combination.{keeps}
use Rattle.minute_sets.proofs.sweep.combined.Goals as goal

pub stretches-preserved : goal.stretches-preserved
stretches-preserved c =
    let inv = c.stretches.invariant in
    let how = c.args.how in
    let first = c.args.first.now in
    let second = c.args.second.now in
    let from = c.stretches.from in
    let until = c.min-until.result in
    let a = c.stretch_at-in_a in
    let b = c.stretch_at-in_b in
    let least = c.min-until.ensures in
    let advance : from ≤ until = omega (arith, a.ensures.later, b.ensures.later, least) in
    record {
      swept = c.in_ok-add_kept.ensures.swept (λ t. keeps how (any_has first t) (any_has second t)) inv.swept (λ t late early.
          ap (λ x. keeps how x (any_has second t)) (sym (inv.a_same t late) ∙ a.ensures.same t late (omega (arith, early, least)))
          ∙ ap (keeps how a.result.inside) (sym (inv.b_same t late) ∙ b.ensures.same t late (omega (arith, early, least)))
          ∙ sym c.is_kept-kept.ensures);
      set = c.in_ok-add_kept.ensures.runs;
      a = c.runs_from-a.ensures.runs;
      b = c.runs_from-b.ensures.runs;
      a_reach = c.runs_from-a.ensures.reach;
      b_reach = c.runs_from-b.ensures.reach;
      a_same = λ t late. c.runs_from-a.ensures.same t late ∙ inv.a_same t (omega (arith, late, advance));
      b_same = λ t late. c.runs_from-b.ensures.same t late ∙ inv.b_same t (omega (arith, late, advance));
    }
