use Rattle.std.proofs.Common.{◌+◌, refl, sym, subst}
use Rattle.route_base.specs.declared.types.ArcId.{ArcId}
use Rattle.ban_expansion.specs.ArcGroups.{GroupsModel}
use Rattle.ban_expansion.specs.Inside.Grouping.{AreGrouped}
use Rattle.ban_expansion.proofs.GroupedArcs.{begun_groups, joined_one, stays_shared}
use Rattle.ban_expansion.proofs.grouping.Grouping.add_own.Goals as goal

pub returns-in-Some : goal.returns-in-Some
returns-in-Some c =
    joined_one c.args.network.now c.args.k c.in-Some.group c.args.self.now c.self.inside.all _ c.self.inside.shared.items (sym c.self.view_is)
    c.requires.grouped (rw c.in-Some.is at c.in_ok-group.ensures) c.in_ok-join.ensures

pub returns : goal.returns
returns c =
    let network = c.args.network.now in
    let k = c.args.k in
    let a : ArcId = record { 0 = k + 1 } in
    let all = c.self.inside.all in
    let shared = c.self.inside.shared.items in
    let before : AreGrouped network k (record { all = all; shared = shared }) = subst (AreGrouped network k) (sym c.self.view_is) c.requires.grouped in
    subst (AreGrouped network (k + 1)) (sym c.note.ensures)
    (subst (λ (g : GroupsModel). AreGrouped network (k + 1) (record { all = g; shared = shared })) (sym c.in_ok-begun.ensures.begun) (record {
      groups = begun_groups network k a all refl c.requires.within before.groups;
      shares = stays_shared network all.firsts a shared before.shares;
    }))

pub returns-then-has_short_set : goal.returns-then-has_short_set
returns-then-has_short_set c =
    let network = c.args.network.now in
    let k = c.args.k in
    let a : ArcId = record { 0 = k + 1 } in
    let all = c.self.inside.all in
    let shared = c.self.inside.shared.items in
    let before : AreGrouped network k (record { all = all; shared = shared }) = subst (AreGrouped network k) (sym c.self.view_is) c.requires.grouped in
    subst (λ (g : GroupsModel). AreGrouped network (k + 1) (record { all = g; shared = shared })) (sym c.in_ok-begin.ensures.begun) (record {
      groups = begun_groups network k a all refl c.requires.within before.groups;
      shares = stays_shared network all.firsts a shared before.shares;
    })
