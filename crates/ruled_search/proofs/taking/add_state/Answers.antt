use Rattle.std.proofs.Common.{◌∷◌, ◌++◌, [], List, refl, ◌∙◌, ap, arith}
use Rattle.cost_functions.specs.declared.pieces.Piece.{Piece}
use Rattle.route_base.specs.declared.types.Run.{Run}
use Rattle.ruled_search.proofs.Growing.{alike_added, state_added}
use Rattle.ruled_search.proofs.Shapes.{shaped_grown}
use Rattle.ruled_search.proofs.taking.add_state.Goals as goal

pub returns-clause-alike : goal.returns-clause-alike
returns-clause-alike g c =
    let old = c.args.progress.now in
    alike_added old.table.infos _ old.functions.items _ old.pending.items _ old.pairs.items c.args.info c.in_ok-number.ensures.infos
    (c.in_ok-push.ensures.items ∙ ap (λ (f : List Piece). old.functions.items ++ f ∷ []) c.empty.ensures)
    (c.in_ok-push-2.ensures.items ∙ ap (λ (f : List Run). old.pending.items ++ f ∷ []) c.empty-2.ensures)
    c.requires.shape.functions c.requires.shape.pending

pub returns-clause-state : goal.returns-clause-state
returns-clause-state g c = state_added c.args.progress.now.table.infos _ c.args.info c.in_ok-number.number c.in_ok-number.ensures.infos
    c.in_ok-number.ensures.number

pub returns-clause-shape : goal.returns-clause-shape
returns-clause-shape g c =
    let old = c.args.progress.now in
    shaped_grown _ _ old _ c.requires.shape c.args.info c.in_ok-number.ensures.infos c.add.ensures.rows
    (c.in_ok-push.ensures.items ∙ ap (λ (f : List Piece). old.functions.items ++ f ∷ []) c.empty.ensures)
    (c.in_ok-push-2.ensures.items ∙ ap (λ (f : List Run). old.pending.items ++ f ∷ []) c.empty-2.ensures)
    (omega (arith, c.in_ok-make_room.ensures.more, c.count-count.ensures)) c.in_ok-make_room.ensures.room c.in_ok-make_room.ensures.keys
    refl refl (record { node = (c.requires.low, c.requires.high); bound = c.requires.bound }) c.are_distinct.ensures
