use Rattle.std.proofs.Common.{◌≤◌, List, Option, ℕ, ap, sym, ◌∙◌, subst}
use Rattle.std.specs.Option.{IsSomeAnd}
use Rattle.label_queue.specs.Keys.{key_at}
use Rattle.label_queue.proofs.Viewing.{key_is}
use Rattle.label_queue.proofs.queue.LabelQueue.lower.Goals as goal

pub decrease-requires-clause-larger : goal.decrease-requires-clause-larger
decrease-requires-clause-larger c = subst (λ (k : Option ℕ). IsSomeAnd k (λ before. c.args.key ≤ before))
    (sym (ap (λ (w : List (Option ℕ)). key_at w c.args.v.0) c.self.view_is) ∙ key_is c.self.inside.heap c.args.v.0) c.requires.larger
