use Rattle.std.proofs.Common.{◌≡◌, ◌∙◌, sym}
use Rattle.certificate.specs.ByNode.{item_at}
use Rattle.certificate_check.proofs.Arcs.{item_in_range}
use Rattle.certificate_check.proofs.lookup.bound_of.Goals as goal

pub returns-clause-range : goal.returns-clause-range
returns-clause-range c =
    let is : item_at c.args.bounds.now c.args.node.0 ≡ c.copied.result = sym (c.copied.ensures ∙ c.at.ensures) in
    item_in_range c.args.bounds.now c.args.node.0 c.copied.result c.requires is
