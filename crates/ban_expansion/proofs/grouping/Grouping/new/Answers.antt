use Rattle.std.proofs.Common.{sym, subst}
use Rattle.ban_expansion.specs.ArcGroups.{GroupsModel}
use Rattle.ban_expansion.specs.Inside.Grouping.{AreGrouped}
use Rattle.ban_expansion.proofs.GroupedArcs.{none_grouped}
use Rattle.ban_expansion.proofs.grouping.Grouping.new.Goals as goal

pub returns : goal.returns
returns c = λ network size.
    subst (λ (all : GroupsModel). AreGrouped network 0 (record { all = all; shared = c.in_ok-shared.shared.items })) (sym c.in_ok-all.ensures)
    (record { groups = none_grouped network; shares = c.in_ok-shared.ensures network size })
