use Rattle.std.proofs.Common.{◌∙◌}
use Rattle.propagation.proofs.Splitting.{split_is, split_whole}
use Rattle.propagation.proofs.parts.split_at.Goals as goal

pub returns-then-ends_by-clause-split : goal.returns-then-ends_by-clause-split
returns-then-ends_by-clause-split c =
    split_whole c.args.pending.now.items c.args.v.0 c.args.first c.index_mut-own.result.now c.replace-taken.result c.replace-taken.new.dest
    c.requires.low c.requires.high c.index_mut-own.ensures.value c.requires.first c.replace-taken.ensures.value
    (c.replace-taken.ensures.after ∙ c.empty.ensures)

pub returns-clause-split : goal.returns-clause-split
returns-clause-split c =
    split_is c.args.pending.now.items c.args.v.0 c.args.first c.args.end c.index_mut-own.result.now c.in_ok-taken.taken c.split_before.new.self
    c.first_of-next.result
    c.requires.low c.requires.high c.index_mut-own.ensures.value c.requires.first c.requires.end c.in_ok-taken.ensures.before c.in_ok-taken.ensures.after
    c.first_of-next.ensures.some c.first_of-next.ensures.none
