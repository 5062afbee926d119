use Rattle.std.proofs.Common.{◌∙◌, ap, sym}
use Rattle.std.proofs.lemmas.Bool.{ltb-true}
use Rattle.std.proofs.lemmas.List.{get_or_default}
use Rattle.function_merge.specs.Inside.Prefixes.{stays_cheaper}
use Rattle.function_merge.proofs.Domination.{others_dearer}
use Rattle.function_merge.proofs.pruning.pass_dearer.Goals as goal

pub returns-then-not-is_cheaper_at-clause-after : goal.returns-then-not-is_cheaper_at-clause-after
returns-then-not-is_cheaper_at-clause-after c =
    let pair = c.in-Some.pair.now in
    let within = ltb-true _ _ (sym c.in-Some.ensures.lookup.0) in
    let same = c.in-Some.ensures.lookup.1 ∙ get_or_default c.args.pairs.now c.pass.place _ pair within in
    others_dearer c.args.pairs.now c.requires.trade c.args.piece c.args.bound c.pass.place pair
    (ap (λ p. stays_cheaper c.args.piece c.args.bound p) (sym same) ∙ sym c.is_cheaper_at.ensures ∙ c.if-not-is_cheaper_at.true) within
