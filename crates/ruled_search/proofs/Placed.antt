-- The places of the states of a node have functions, and small nodes.
use Rattle.std.proofs.Common.{◌≡◌, ℕ, ◌≤◌, Option, List, length, get_or, arith}
use Rattle.std.specs.Prelude.{All}
use Rattle.std.proofs.lemmas.List.{get_or_default}
use Rattle.route_base.proofs.Numbered.{at_number-all, number_within}
use Rattle.route_base.specs.declared.types.Bound.{Bound}
use Rattle.route_base.specs.declared.limits.TheConstants.{MOST_NET_NODES}
use Rattle.ruled_states.specs.Inside.Codes.{HaveSmallNodes}
use Rattle.ruled_states.specs.Inside.Cuts.{HasFunction}
use Rattle.ruled_states.specs.Inside.Tables.{ArePlacesOf}
use Rattle.ruled_states.specs.declared.table.Info.{Info}
use Rattle.ruled_states.specs.declared.table.Place.{Place}
use Rattle.ruled_search.specs.Inside.Tasks.{IsGoodInfo}

pub small_nodes : (nodes : ℕ) (bound : ℕ → ℕ → Option Bound) (infos : List Info) → nodes ≤ MOST_NET_NODES → All (IsGoodInfo nodes bound) infos
    → HaveSmallNodes infos
small_nodes nodes bound infos few all n i at =
    let good = at_number-all (IsGoodInfo nodes bound) infos n i all at in
    omega (arith, few, good.node.1)

pub have_functions : (infos : List Info) (v count : ℕ) (row : List Place) → ArePlacesOf infos v row → count ≡ length infos → All (HasFunction count) row
have_functions infos v count row are long k d within =
    let is = are.sound (get_or row k d) (k, within, get_or_default row k (get_or row k d) d within) in
    let n = number_within infos (get_or row k d).number is.info is.at in
    record { low = n.0; high = omega (arith, n.1, long) }
