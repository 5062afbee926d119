use Rattle.std.proofs.Common.{◌≡◌, ◌≤◌, Some, List, length, sym, ◌∙◌, ap, subst}
use Rattle.route_base.specs.Net.{at_number}
use Rattle.cost_functions.specs.declared.pieces.Piece.{Piece}
use Rattle.potentials.proofs.Lists.{number_read}
use Rattle.propagation.specs.Found.{Finding}
use Rattle.propagation.proofs.found.Found.function.Goals as goal

pub returns : goal.returns
returns c =
    let own = c.index.result.now in
    let held = c.self.inside.functions.items in
    let same : held ≡ c.args.self.now.functions = ap (λ (f : Finding). f.functions) c.self.view_is in
    let within : c.args.v.0 ≤ length held = subst (λ (w : List (List Piece)). c.args.v.0 ≤ length w) (sym same) c.requires.high in
    subst (λ (w : List (List Piece)). at_number w c.args.v.0 ≡ Some own) same
    (number_read held c.args.v.0 own c.requires.low within ∙ ap (λ (w : List Piece). Some w) (sym c.index.ensures))
