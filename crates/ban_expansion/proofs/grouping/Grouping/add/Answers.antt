use Rattle.std.proofs.Common.{◌≡◌, ◌+◌, ◌++◌, ◌∷◌, [], List, ℕ, Option, Some, length, slice_get, unwrap_or, refl, ap, sym, ◌∙◌, subst}
use Rattle.std.proofs.lemmas.List.{length-set}
use Rattle.route_base.specs.declared.types.ArcId.{ArcId}
use Rattle.route_base.proofs.Items.{slice_get-push_end}
use Rattle.network_tables.specs.Access.{area_place}
use Rattle.ban_expansion.specs.Inside.Grouping.{AreGrouped}
use Rattle.ban_expansion.proofs.GroupedArcs.{begun_groups, joined_one, stays_shared, shares_more}
use Rattle.ban_expansion.proofs.grouping.Grouping.add.Goals as goal

pub returns-in-Some : goal.returns-in-Some
returns-in-Some c =
    let area = c.area_of-area.result in
    let there : slice_get c.args.self.now.shared area ≡ Some (Some c.in-Some.group) =
    c.shared_by.ensures ∙ ap (λ (o : Option ℕ). Some o) c.in-Some.is in
    let place : area_place c.args.network.now (c.args.k + 1) ≡ area = ap (λ (o : Option ℕ). unwrap_or o 0) c.area_of-area.ensures.value in
    joined_one c.args.network.now c.args.k c.in-Some.group c.args.self.now c.self.inside.all _ c.self.inside.shared.items (sym c.self.view_is)
    c.requires.grouped
    (c.requires.grouped.shares.each area c.in-Some.group (c.args.k + 1) there place (sym c.has_any.ensures ∙ c.if-has_any.false))
    c.in_ok-join.ensures

pub returns : goal.returns
returns c =
    let network = c.args.network.now in
    let k = c.args.k in
    let a : ArcId = record { 0 = k + 1 } in
    let area = c.area_of-area.result in
    let grouping = c.args.self.now in
    let all = grouping.all in
    let shared = grouping.shared in
    let before : AreGrouped network k grouping = c.requires.grouped in
    let group = length all.firsts in
    let firsts : List ArcId = all.firsts ++ a ∷ [] in
    let place : area_place network (k + 1) ≡ area = ap (λ (o : Option ℕ). unwrap_or o 0) c.area_of-area.ensures.value in
    subst (AreGrouped network (k + 1)) (sym c.in_ok-begin_shared.ensures) (record {
      groups = begun_groups network k a all refl c.requires.within before.groups;
      shares = shares_more network firsts shared area group a (slice_get-push_end all.firsts a) place (sym c.has_any.ensures ∙ c.if-has_any.false)
          (length-set shared area (Some group)) (stays_shared network all.firsts a shared before.shares);
    })
