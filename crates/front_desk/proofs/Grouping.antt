-- Groups of arcs are kept, and given back.
use Rattle.std.proofs.Common.{◌≡◌, ◌+◌, Some, Option, get_or, sym, ap, subst, ◌∙◌}
use Rattle.std.specs.Prelude.{unwrap_or}
use Rattle.std.proofs.lemmas.Option.{slice_get_within, slice_get-get_or}
use Rattle.route_base.specs.declared.types.ArcId.{ArcId}
use Rattle.network_tables.specs.Access.{is_closed}
use Rattle.network_tables.specs.NetworkModel.{NetworkModel}
use Rattle.ban_expansion.specs.ArcGroups.{AreGroups, GroupsModel}
use Rattle.front_desk.specs.Inside.Grouping.{KeepsGroups}

-- what an item is doesn't depend on who asks
same_item : (a b : ArcId) → Some a ≡ Some b → a ≡ b
same_item a b same = ap (λ (o : Option ArcId). unwrap_or o a) same

module _ (network : NetworkModel) (all : GroupsModel) where
  pub kept_groups : AreGroups network all → KeepsGroups network all
  kept_groups are = record {
    counted = are.counted;
    few = are.few;
    arcs = are.arcs;
    within = λ k group at. slice_get_within all.firsts group (are.each k group at).first (are.each k group at).there;
    alike = λ k group first at there vehicle t.
        let in_group = are.each k group at in
        subst (λ (f : ArcId). is_closed network vehicle (k + 1) t ≡ is_closed network vehicle f.0 t)
        (same_item in_group.first first (sym in_group.there ∙ there)) (in_group.alike vehicle t);
  }

  pub given_groups : KeepsGroups network all → AreGroups network all
  given_groups keeps = record {
    counted = keeps.counted;
    few = keeps.few;
    arcs = keeps.arcs;
    each = λ k group at.
        let first : ArcId = get_or all.firsts group (record { 0 = 0 }) in
        let there = slice_get-get_or all.firsts group (record { 0 = 0 }) (keeps.within k group at) in
        record { first = first; there = there; alike = λ vehicle t. keeps.alike k group first at there vehicle t };
  }
