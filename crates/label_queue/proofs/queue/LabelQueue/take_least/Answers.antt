use Rattle.std.proofs.Common.{◌≡◌, List, Option, ℕ, None, refl, subst}
use Rattle.label_queue.specs.Keys.{key_at}
use Rattle.label_queue.proofs.Viewing.{none_is}
use Rattle.label_queue.proofs.queue.LabelQueue.take_least.Goals as goal

pub returns-in_err-label-clause-none : goal.returns-in_err-label-clause-none
returns-in_err-label-clause-none c none v = subst (λ (w : List (Option ℕ)). key_at w v ≡ None) c.self.view_is
    (none_is c.self.inside.heap c.self.invariant (c.in_err-label.ensures.none refl) v)
