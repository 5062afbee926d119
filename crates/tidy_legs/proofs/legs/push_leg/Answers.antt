use Rattle.std.proofs.Common.{◌≡◌, ◌++◌, ◌∷◌, [], sym, ◌∙◌, ap, subst, rules}
use Rattle.route_base.specs.Legs.{steps_of, steps_of_leg}
use Rattle.route_base.specs.declared.types.Leg.{Leg}
use Rattle.route_base.specs.declared.types.Leg.TheVariants.{Drive}
use Rattle.tidy_legs.specs.Tidiness.{IsTidy}
use Rattle.route_base.proofs.LegLists.{steps_of-push}
use Rattle.tidy_legs.proofs.Tidying.{tidy-drive}
use Rattle.tidy_legs.proofs.legs.push_leg.Goals as goal

pub returns-in_ok-push-in-Drive-clause-tidy : goal.returns-in_ok-push-in-Drive-clause-tidy
returns-in_ok-push-in-Drive-clause-tidy c =
    let now : c.push.new.self.items ≡ c.args.legs.now.items ++ Drive c.in-Drive.a ∷ [] = search rules in
    subst IsTidy (sym now) (tidy-drive c.args.legs.now.items c.in-Drive.a c.requires.room.tidy)

pub returns-in_ok-push-in-Drive-clause-steps : goal.returns-in_ok-push-in-Drive-clause-steps
returns-in_ok-push-in-Drive-clause-steps c =
    let now : c.push.new.self.items ≡ c.args.legs.now.items ++ Drive c.in-Drive.a ∷ [] = search rules in
    ap steps_of now ∙ steps_of-push c.args.legs.now.items (Drive c.in-Drive.a)
    ∙ ap (λ (w : Leg). steps_of c.args.legs.now.items ++ steps_of_leg w) (sym c.in-Drive.is)
