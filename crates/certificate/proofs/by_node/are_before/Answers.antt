use Rattle.std.proofs.Common.{◌-◌, ◌<◌, ap, ◌∙◌, arith, rules}
use Rattle.std.proofs.lemmas.List.{get_or_default}
use Rattle.certificate.proofs.Entries.{before_place}
use Rattle.certificate.proofs.by_node.are_before.Goals as goal

pub returns-in-Some : goal.returns-in-Some
returns-in-Some g c = λ low.
    let es = c.args.entries.now in
    let i = c.args.place in
    let lookup = c.in-Some.ensures.lookup in
    let here : c.in-Some.entry.now.0.0 < c.args.node.0 = search rules in
    before_place es c.requires c.args.node.0 i (omega (arith, lookup.3.0)) (λ some d.
    (let is = ap (λ e. e.0.0) (lookup.1 ∙ get_or_default es (i - 1) c.in-Some.entry.now d lookup.3.0) in
    omega (arith, is, here)))
