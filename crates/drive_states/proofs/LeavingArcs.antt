-- The arcs that leave a node, by their places in its list.
use Rattle.std.proofs.Common.{◌≡◌, ℕ, ◌<◌, List, length, get_or, sym, subst}
use Rattle.std.proofs.lemmas.List.Elements.{Contains-get_or}
use Rattle.route_base.specs.Net.{Net}
use Rattle.route_base.specs.declared.types.ArcId.{ArcId}
use Rattle.node_arcs.specs.Stars.{EndsAt, AreArcs, AreOutgoing, Star, arcs_of}
use Rattle.node_arcs.specs.declared.links.End.TheVariants.{Tail}

-- past the end of the list
unfoldable pub none : ArcId
none = record { 0 = 0 }

module _ (net : Net) (star : Star) (outgoing : AreOutgoing net star) (v : ℕ) (arcs : List ArcId) (are : arcs ≡ arcs_of star v) where
  pub all_leave : AreArcs (EndsAt net Tail v) arcs
  all_leave = subst (AreArcs (EndsAt net Tail v)) (sym are) (outgoing v)

  pub leaves : (i : ℕ) → i < length arcs → EndsAt net Tail v (get_or arcs i none).0
  leaves i within = all_leave.each (get_or arcs i none) (Contains-get_or arcs i none within)
