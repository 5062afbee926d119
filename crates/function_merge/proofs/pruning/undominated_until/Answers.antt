use Rattle.std.proofs.Common.{sym, subst, arith}
use Rattle.route_base.specs.declared.types.Pair.{Pair}
use Rattle.function_merge.specs.Inside.Prefixes.{IsUndominatedUntil}
use Rattle.function_merge.proofs.Domination.{all_dominated, arrived_cheaper, none_dominated, are_undominated}
use Rattle.function_merge.proofs.pruning.undominated_until.Goals as goal

abbrev no_pair : Pair
no_pair = record { arrival = 0; cost = 0 }

pub returns-then-is_as_dear : goal.returns-then-is_as_dear
returns-then-is_as_dear c =
    let dear = c.is_as_dear.ensures in
    all_dominated c.args.pairs.now c.requires.trade c.args.piece c.args.bound c.args.arrived c.requires.within c.requires.arrived no_pair
    (dear.some c.if-is_as_dear.true) (dear.dear no_pair c.if-is_as_dear.true)

pub returns-then-not-is_as_dear : goal.returns-then-not-is_as_dear
returns-then-not-is_as_dear c =
    none_dominated c.args.pairs.now c.requires.trade c.args.piece c.args.bound no_pair
    (λ some. (let cheap = c.is_as_dear-2.ensures.cheap no_pair c.if-not-is_as_dear.true some in omega (arith, cheap, c.value.ensures)))

pub pass_dearer-place-requires-clause-before : goal.pass_dearer-place-requires-clause-before
pass_dearer-place-requires-clause-before c =
    arrived_cheaper c.args.pairs.now c.requires.trade c.args.piece c.args.bound c.args.arrived c.requires.within c.requires.arrived no_pair
    (c.is_as_dear.ensures.cheap no_pair c.if-is_as_dear.false)

pub returns : goal.returns
returns c =
    let ps = c.args.pairs.now in
    let place = c.pass_dearer-place in
    let arrived = c.arrived_by-arrival.ensures in
    let cheap = c.cheaper_than.ensures in
    subst (IsUndominatedUntil ps c.args.bound c.args.piece) (sym c.min.ensures)
    (are_undominated ps c.requires.trade c.args.piece c.args.bound place.result c.arrived_by-arrival.result c.cheaper_than.result
    place.ensures.before place.ensures.after arrived.some arrived.none place.ensures.within cheap.none cheap.before cheap.after)
