use Rattle.std.proofs.Common.{rules, ◌≡◌, ◌+◌, ◌++◌, ◌∷◌, [], List, length, length-append, sym, ◌∙◌, ap, subst, arith}
use Rattle.route_base.specs.Net.{at_number}
use Rattle.front_transport.proofs.Places.{at_last}
use Rattle.drive_states.specs.Inside.Numbering.{AreNumbered}
use Rattle.drive_states.specs.declared.rule.State.{State}
use Rattle.drive_states.proofs.RowPlaces.{same_numbered, numbered_more}
use Rattle.drive_states.proofs.states.States.number_of.Goals as goal

pub invariant_of-self-2 : goal.invariant_of-self-2
invariant_of-self-2 c =
    let held : List State = c.self.inside.held.items in
    let grown : c.push.new.self.items ≡ c.self.inside.held.items ++ c.args.state ∷ [] = search rules in
    let whole : c.len-number.result ≡ length c.push.new.self.items = search rules in
    subst (λ (w : List State). AreNumbered c.set.new.self w) (sym grown)
    (numbered_more c.make_room.new.self c.set.new.self held c.args.state c.len-number.result
    (same_numbered c.self.inside.numbers c.make_room.new.self held c.self.invariant c.make_room.ensures.same)
    (omega (arith, c.make_room.ensures.same c.args.state.node.0 c.args.state.driven, c.number-known.ensures, c.if-known-gt0.false))
    (omega (arith, whole, ap (λ (w : List State). length w) grown, length-append held (c.args.state ∷ [])))
    c.set.ensures)

pub returns-clause-at : goal.returns-clause-at
returns-clause-at c =
    let held : List State = c.self.inside.held.items in
    let grown : c.push.new.self.items ≡ c.self.inside.held.items ++ c.args.state ∷ [] = search rules in
    let whole : c.len-number.result ≡ length c.push.new.self.items = search rules in
    let number : c.len-number.result ≡ length held + 1 =
    omega (arith, whole, ap (λ (w : List State). length w) grown, length-append held (c.args.state ∷ [])) in
    ap (λ (w : List State). at_number w c.len-number.result) grown ∙ ap (at_number (held ++ c.args.state ∷ [])) number ∙ at_last held c.args.state
