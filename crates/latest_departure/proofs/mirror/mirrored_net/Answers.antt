use Rattle.std.proofs.Common.{◌≡◌, List, length, sym, ◌∙◌, ap, arith}
use Rattle.std.proofs.lemmas.List.{length-map}
use Rattle.route_base.specs.declared.types.Run.{Run}
use Rattle.latest_departure.proofs.MirroredNet.{good_made, made_of}
use Rattle.latest_departure.proofs.mirror.mirrored_net.Goals as goal

pub new-requires : goal.new-requires
new-requires c =
    let same : length c.closed_lists-lists.result.now ≡ length c.args.net.now.closed =
    sym (length-map c.closed_lists-lists.result.now (λ v. v.items)) ∙ ap (λ (w : List (List Run)). length w) c.closed_lists-lists.ensures.value in
    good_made c.args.net.now c.node_count-nodes.ensures.good c.args.goal.0 c.args.sum c.requires.low c.requires.high _
    (made_of c.args.net.now c.args.goal.0 c.args.sum c.node_count-nodes.result _ c.in_ok-arcs.arcs.items c.arcs.result.now
    c.in_ok-closed.closed.items c.closed_lists-lists.result.now c.in_ok-parks.parks.items c.parks.result.now
    c.node_count-nodes.ensures.value same c.arcs.ensures.value c.closed_lists-lists.ensures.value c.parks.ensures.value
    c.in_ok-arcs.ensures c.in_ok-closed.ensures c.in_ok-parks.ensures)
    c.requires.nodes c.requires.arcs (omega (arith, c.if-lists.false, same))
