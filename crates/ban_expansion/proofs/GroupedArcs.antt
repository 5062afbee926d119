-- Arcs are put into groups one after another.
use Rattle.std.proofs.Common.{◌≡◌, ℕ, ◌+◌, ◌<◌, false, Some, Option, List, [], ◌∷◌, ◌++◌, length, slice_get, refl, sym, ◌∙◌, ap, subst, arith}
use Rattle.std.proofs.Math.ListN.{set}
use Rattle.std.proofs.lemmas.List.{length_push}
use Rattle.std.proofs.lemmas.List.Elements.{All-nil, All-push}
use Rattle.route_base.specs.declared.types.ArcId.{ArcId}
use Rattle.route_base.proofs.Items.{slice_get-push_end}
use Rattle.network_tables.specs.Access.{area_place}
use Rattle.network_tables.specs.NetworkModel.{NetworkModel}
use Rattle.ban_expansion.specs.ArcGroups.{GroupsModel, IsArc, IsInGroup, AreGroupsOf}
use Rattle.ban_expansion.specs.Inside.Grouping.{AreAlike, AreGrouped, AreShared, GroupingModel, begun, has_own, group_joined}
use Rattle.ban_expansion.proofs.AlikeArcs.{closed_alike, nothing_own}
use Rattle.ban_expansion.proofs.ItemLists.{got_before, got_pushed, got_set}

module _ (network : NetworkModel) where
  -- an arc stays in its group where a group is added
  stays_in : (firsts : List ArcId) (new : ArcId) (a group : ℕ) → IsInGroup network firsts a group → IsInGroup network (firsts ++ new ∷ []) a group
  stays_in firsts new a group is = record {
    first = is.first;
    there = got_before firsts (new ∷ []) group is.first is.there;
    alike = is.alike;
  }

  -- an arc is in the group that it begins
  begins : (firsts : List ArcId) (a : ArcId) → IsInGroup network (firsts ++ a ∷ []) a.0 (length firsts)
  begins firsts a = record { first = a; there = slice_get-push_end firsts a; alike = λ vehicle t. refl }

  -- an arc is in the group of one that is like it
  pub is_like_first : (firsts : List ArcId) (a group : ℕ) (first : ArcId) → slice_get firsts group ≡ Some first
      → AreAlike network a first.0 → IsInGroup network firsts a group
  is_like_first firsts a group first there same = record {
    first = first;
    there = there;
    alike = λ vehicle t. closed_alike network vehicle a first.0 t same;
  }

  pub none_grouped : AreGroupsOf network 0 (record { groups = []; firsts = [] })
  none_grouped = record { counted = refl; few = omega arith; arcs = All-nil (IsArc network); each = λ k group is. absurd (cc) }

  pub joined_groups : (n group : ℕ) (all : GroupsModel) → AreGroupsOf network n all → IsInGroup network all.firsts (n + 1) group
      → AreGroupsOf network (n + 1) (group_joined all group)
  joined_groups n group all groups is = record {
    counted = omega (arith, length_push all.groups group, groups.counted);
    few = omega (arith, groups.few);
    arcs = groups.arcs;
    each = λ k other at.
        got_pushed (IsInGroup network all.firsts (k + 1) other) all.groups group k other at
        (λ before. groups.each k other before)
        (λ last same. subst (λ (j : ℕ). IsInGroup network all.firsts (j + 1) other) (sym groups.counted ∙ sym last)
        (subst (λ (g : ℕ). IsInGroup network all.firsts (n + 1) g) same is));
  }

  -- where the next arc joins a group, the arcs are grouped one further
  pub joined_one : (k group : ℕ) (grouping : GroupingModel) (all after : GroupsModel) (shared : List (Option ℕ))
      → grouping ≡ record { all = all; shared = shared } → AreGrouped network k grouping → IsInGroup network grouping.all.firsts (k + 1) group
      → after ≡ group_joined all group → AreGrouped network (k + 1) (record { all = after; shared = shared })
  joined_one k group grouping all after shared viewed before is joined =
      let held = subst (AreGrouped network k) viewed before in
      subst (λ (g : GroupsModel). AreGrouped network (k + 1) (record { all = g; shared = shared })) (sym joined) (record {
        groups = joined_groups k group all held.groups (subst (λ (g : GroupingModel). IsInGroup network g.all.firsts (k + 1) group) viewed is);
        shares = held.shares;
      })

  pub begun_groups : (n : ℕ) (a : ArcId) (all : GroupsModel) → a.0 ≡ n + 1 → n < length network.graph.arcs → AreGroupsOf network n all
      → AreGroupsOf network (n + 1) (begun all a)
  begun_groups n a all number within groups = record {
    counted = omega (arith, length_push all.groups (length all.firsts), groups.counted);
    few = omega (arith, length_push all.firsts a, groups.few);
    arcs = All-push (IsArc network) all.firsts a groups.arcs (omega (arith, number), omega (arith, number, within));
    each = λ k other at.
        got_pushed (IsInGroup network (all.firsts ++ a ∷ []) (k + 1) other) all.groups (length all.firsts) k other at
        (λ before. stays_in all.firsts a (k + 1) other (groups.each k other before))
        (λ last same. subst (λ (j : ℕ). IsInGroup network (all.firsts ++ a ∷ []) j other)
        (number ∙ ap (λ (j : ℕ). j + 1) (sym groups.counted ∙ sym last))
        (subst (λ (g : ℕ). IsInGroup network (all.firsts ++ a ∷ []) a.0 g) same (begins all.firsts a)));
  }

  -- a group is added, and no area shares it
  pub stays_shared : (firsts : List ArcId) (new : ArcId) (shared : List (Option ℕ)) → AreShared network firsts shared
      → AreShared network (firsts ++ new ∷ []) shared
  stays_shared firsts new shared shares = record {
    areas = shares.areas;
    each = λ area group a at in_area plain. stays_in firsts new a group (shares.each area group a at in_area plain);
  }

  -- an area shares the group of one of its arcs, which has nothing of its own
  pub shares_more : (firsts : List ArcId) (shared : List (Option ℕ)) (area group : ℕ) (first : ArcId) → slice_get firsts group ≡ Some first
      → area_place network first.0 ≡ area → has_own network first.0 ≡ false → length (set shared area (Some group)) ≡ length shared
      → AreShared network firsts shared → AreShared network firsts (set shared area (Some group))
  shares_more firsts shared area group first there of_area plain size shares = record {
    areas = size ∙ shares.areas;
    each = λ other g a at in_area plain_a.
        got_set (IsInGroup network firsts a g) shared area (Some group) other (Some g) at
        (λ same equal.
        let is : group ≡ g = cc in
        subst (λ (h : ℕ). IsInGroup network firsts a h) is
        (is_like_first firsts a group first there (nothing_own network a first.0 (in_area ∙ sym same ∙ sym of_area) plain_a plain)))
        (λ before. shares.each other g a before in_area plain_a);
  }
