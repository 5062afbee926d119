use Rattle.std.proofs.Common.{◌≡◌, ◌++◌, ◌∷◌, [], List, Vec, Global, length, length-append, ap, arith}
use Rattle.std.proofs.lemmas.List.Elements.{All-push}
use Rattle.route_base.specs.Runs.{AreRuns}
use Rattle.route_base.specs.declared.types.Run.{Run}
use Rattle.search_tests.proofs.tests.engines.nets.closed_of.Goals as goal

pub loop-list-preserved : goal.loop-list-preserved
loop-list-preserved c =
    let was = c.loop-list.closed.items in
    let one = c.in_ok-runs_of.field-0 in
    let items : c.push.new.self.items ≡ was ++ one ∷ [] = c.in_ok-push.ensures.items in
    record {
      runs = rw items (All-push (λ v. AreRuns v.items) was one c.loop-list.invariant.runs c.in_ok-runs_of.ensures);
      all = omega (arith, ap (λ (w : List (Vec Run Global)). length w) items, length-append was (one ∷ []), c.loop-list.invariant.all);
    }
