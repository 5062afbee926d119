use Rattle.std.proofs.Common.{◌≡◌, ◌+◌, ◌++◌, ◌∷◌, [], List, sym, ◌∙◌, ap, subst, rules, arith}
use Rattle.route_base.specs.Legs.{steps_of, steps_of_leg}
use Rattle.route_base.specs.declared.types.Leg.{Leg}
use Rattle.route_base.specs.declared.types.Leg.TheVariants.{Drive, Wait}
use Rattle.tidy_legs.specs.Tidiness.{IsTidy}
use Rattle.route_base.proofs.LegLists.{steps_of-push}
use Rattle.tidy_legs.proofs.Tidying.{tidy-wait, tidy-after, steps-join, length-join}
use Rattle.tidy_legs.proofs.legs.push_wait.Goals as goal

pub overflow_add-minutes : goal.overflow_add-minutes
overflow_add-minutes c =
    let was : c.args.legs.now.items ≡ c.pop.new.self.items ++ Wait c.in-Some-Wait.minutes ∷ [] = search rules in
    omega (arith, length-join c.args.legs.now.items c.pop.new.self.items c.in-Some-Wait.minutes was, c.requires.room.short)

pub returns-in_ok-push-in-Some-Wait-clause-tidy : goal.returns-in_ok-push-in-Some-Wait-clause-tidy
returns-in_ok-push-in-Some-Wait-clause-tidy c =
    let was : c.args.legs.now.items ≡ c.pop.new.self.items ++ Wait c.in-Some-Wait.minutes ∷ [] = search rules in
    let now : c.push-in-Some-Wait.new.self.items ≡ c.pop.new.self.items ++ Wait (c.in-Some-Wait.minutes + c.args.more) ∷ [] = search rules in
    subst IsTidy (sym now) (tidy-wait c.pop.new.self.items c.in-Some-Wait.minutes (c.in-Some-Wait.minutes + c.args.more) (omega arith)
    (subst IsTidy was c.requires.room.tidy))

pub returns-in_ok-push-in-Some-Wait-clause-steps : goal.returns-in_ok-push-in-Some-Wait-clause-steps
returns-in_ok-push-in-Some-Wait-clause-steps c =
    let was : c.args.legs.now.items ≡ c.pop.new.self.items ++ Wait c.in-Some-Wait.minutes ∷ [] = search rules in
    let now : c.push-in-Some-Wait.new.self.items ≡ c.pop.new.self.items ++ Wait (c.in-Some-Wait.minutes + c.args.more) ∷ [] = search rules in
    steps-join _ _ c.pop.new.self.items c.in-Some-Wait.minutes c.args.more was now

pub returns-in_ok-push-in-Some-Drive-2-clause-tidy : goal.returns-in_ok-push-in-Some-Drive-2-clause-tidy
returns-in_ok-push-in-Some-Drive-2-clause-tidy c =
    let was : c.args.legs.now.items ≡ c.pop.new.self.items ++ Drive c.in-Some-Drive.a ∷ [] = search rules in
    let now : c.push-in-Some-Drive-2.new.self.items ≡
    (c.pop.new.self.items ++ Drive c.in-Some-Drive.a ∷ []) ++ Wait c.args.more ∷ [] = search rules in
    subst IsTidy (sym now) (tidy-after c.pop.new.self.items c.in-Some-Drive.a c.args.more c.requires.some (subst IsTidy was c.requires.room.tidy))

pub returns-in_ok-push-in-Some-Drive-2-clause-steps : goal.returns-in_ok-push-in-Some-Drive-2-clause-steps
returns-in_ok-push-in-Some-Drive-2-clause-steps c =
    let was : c.args.legs.now.items ≡ c.pop.new.self.items ++ Drive c.in-Some-Drive.a ∷ [] = search rules in
    let now : c.push-in-Some-Drive-2.new.self.items ≡
    (c.pop.new.self.items ++ Drive c.in-Some-Drive.a ∷ []) ++ Wait c.args.more ∷ [] = search rules in
    ap steps_of now ∙ steps_of-push (c.pop.new.self.items ++ Drive c.in-Some-Drive.a ∷ []) (Wait c.args.more)
    ∙ ap (λ (w : List Leg). steps_of w ++ steps_of_leg (Wait c.args.more)) (sym was)
