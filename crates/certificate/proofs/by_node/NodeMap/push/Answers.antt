use Rattle.std.proofs.Common.{◌≡◌, [], ◌∷◌, ◌++◌, ap, ◌∙◌}
use Rattle.certificate.proofs.Entries.{rising_push}
use Rattle.certificate.proofs.by_node.NodeMap.push.Goals as goal

pub returns-clause-ok : goal.returns-clause-ok
returns-clause-ok g c = c.in_ok-push.ensures.items ∙ ap (λ es. es ++ c.args.entry ∷ []) c.self.view_is

pub invariant_of-self : goal.invariant_of-self
invariant_of-self g c = rw c.in_err-push.ensures.items c.self.invariant

pub invariant_of-self-2 : goal.invariant_of-self-2
invariant_of-self-2 g c =
    let view : c.self.inside.held.items ≡ c.args.self.now = c.self.view_is in
    rw c.in_ok-push.ensures.items (rising_push c.self.inside.held.items c.args.entry c.self.invariant (rw view c.requires))
