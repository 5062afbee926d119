use Rattle.std.proofs.Common.{List, Option, ℕ, ap, sym, ◌∙◌}
use Rattle.label_queue.specs.Keys.{key_at}
use Rattle.label_queue.proofs.Viewing.{key_is, no_place}
use Rattle.label_queue.proofs.queue.LabelQueue.put.Goals as goal

pub insert-requires-clause-new : goal.insert-requires-clause-new
insert-requires-clause-new c = no_place c.self.inside.heap c.args.v.0
    (sym (key_is c.self.inside.heap c.args.v.0) ∙ (ap (λ (w : List (Option ℕ)). key_at w c.args.v.0) c.self.view_is ∙ c.requires.new))
