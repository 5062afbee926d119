use Rattle.std.proofs.Common.{◌≡◌, ◌+◌, ◌++◌, ◌∷◌, [], List, replicate, sym, ◌∙◌, ap, subst, rules, arith}
use Rattle.route_base.specs.Itinerary.{wait}
use Rattle.stop_tour.specs.Tours.{go, tour_steps_of}
use Rattle.stop_tour.specs.declared.stops.TourLeg.{TourLeg}
use Rattle.stop_tour.specs.declared.stops.TourLeg.TheVariants.{Drive, Wait, Serve}
use Rattle.rested_tours.specs.Inside.TidyTours.{IsTidyTour}
use Rattle.rested_tours.proofs.TidyTours.{tidy_wait, tidy_after, tour_steps_join, tour_steps_push, length_join}
use Rattle.rested_tours.proofs.legs.push_wait.Goals as goal

pub overflow_add-minutes : goal.overflow_add-minutes
overflow_add-minutes c =
    let was : c.args.tour.now.items ≡ c.pop.new.self.items ++ Wait c.in-Some-Wait.minutes ∷ [] = search rules in
    omega (arith, length_join c.args.tour.now.items c.pop.new.self.items c.in-Some-Wait.minutes was, c.requires.room.short)

pub returns-in_ok-push-in-Some-Wait-clause-tidy : goal.returns-in_ok-push-in-Some-Wait-clause-tidy
returns-in_ok-push-in-Some-Wait-clause-tidy c =
    let was : c.args.tour.now.items ≡ c.pop.new.self.items ++ Wait c.in-Some-Wait.minutes ∷ [] = search rules in
    let now : c.push-in-Some-Wait.new.self.items ≡ c.pop.new.self.items ++ Wait (c.in-Some-Wait.minutes + c.args.more) ∷ [] = search rules in
    subst IsTidyTour (sym now) (tidy_wait c.pop.new.self.items c.in-Some-Wait.minutes (c.in-Some-Wait.minutes + c.args.more) (omega (arith, c.requires.some))
    (subst IsTidyTour was c.requires.room.tidy))

pub returns-in_ok-push-in-Some-Wait-clause-steps : goal.returns-in_ok-push-in-Some-Wait-clause-steps
returns-in_ok-push-in-Some-Wait-clause-steps c =
    let was : c.args.tour.now.items ≡ c.pop.new.self.items ++ Wait c.in-Some-Wait.minutes ∷ [] = search rules in
    let now : c.push-in-Some-Wait.new.self.items ≡ c.pop.new.self.items ++ Wait (c.in-Some-Wait.minutes + c.args.more) ∷ [] = search rules in
    tour_steps_join c.args.tour.now.items c.push-in-Some-Wait.new.self.items c.pop.new.self.items c.in-Some-Wait.minutes c.args.more was now

pub returns-in_ok-push-in-Some-Drive-2-clause-tidy : goal.returns-in_ok-push-in-Some-Drive-2-clause-tidy
returns-in_ok-push-in-Some-Drive-2-clause-tidy c =
    let was : c.args.tour.now.items ≡ c.pop.new.self.items ++ Drive c.in-Some-Drive.a ∷ [] = search rules in
    let now : c.push-in-Some-Drive-2.new.self.items ≡
    (c.pop.new.self.items ++ Drive c.in-Some-Drive.a ∷ []) ++ Wait c.args.more ∷ [] = search rules in
    subst IsTidyTour (sym now) (tidy_after c.pop.new.self.items (Drive c.in-Some-Drive.a) c.args.more (λ k same. cc) c.requires.some
    (subst IsTidyTour was c.requires.room.tidy))

pub returns-in_ok-push-in-Some-Drive-2-clause-steps : goal.returns-in_ok-push-in-Some-Drive-2-clause-steps
returns-in_ok-push-in-Some-Drive-2-clause-steps c =
    let was : c.args.tour.now.items ≡ c.pop.new.self.items ++ Drive c.in-Some-Drive.a ∷ [] = search rules in
    let now : c.push-in-Some-Drive-2.new.self.items ≡
    (c.pop.new.self.items ++ Drive c.in-Some-Drive.a ∷ []) ++ Wait c.args.more ∷ [] = search rules in
    ap tour_steps_of now ∙ tour_steps_push (c.pop.new.self.items ++ Drive c.in-Some-Drive.a ∷ []) (Wait c.args.more)
    ∙ ap (λ (w : List TourLeg). tour_steps_of w ++ replicate c.args.more (go wait)) (sym was)

pub returns-in_ok-push-in-Some-Serve-2-clause-tidy : goal.returns-in_ok-push-in-Some-Serve-2-clause-tidy
returns-in_ok-push-in-Some-Serve-2-clause-tidy c =
    let was : c.args.tour.now.items ≡ c.pop.new.self.items ++ Serve c.in-Some-Serve.i ∷ [] = search rules in
    let now : c.push-in-Some-Serve-2.new.self.items ≡
    (c.pop.new.self.items ++ Serve c.in-Some-Serve.i ∷ []) ++ Wait c.args.more ∷ [] = search rules in
    subst IsTidyTour (sym now) (tidy_after c.pop.new.self.items (Serve c.in-Some-Serve.i) c.args.more (λ k same. cc) c.requires.some
    (subst IsTidyTour was c.requires.room.tidy))

pub returns-in_ok-push-in-Some-Serve-2-clause-steps : goal.returns-in_ok-push-in-Some-Serve-2-clause-steps
returns-in_ok-push-in-Some-Serve-2-clause-steps c =
    let was : c.args.tour.now.items ≡ c.pop.new.self.items ++ Serve c.in-Some-Serve.i ∷ [] = search rules in
    let now : c.push-in-Some-Serve-2.new.self.items ≡
    (c.pop.new.self.items ++ Serve c.in-Some-Serve.i ∷ []) ++ Wait c.args.more ∷ [] = search rules in
    ap tour_steps_of now ∙ tour_steps_push (c.pop.new.self.items ++ Serve c.in-Some-Serve.i ∷ []) (Wait c.args.more)
    ∙ ap (λ (w : List TourLeg). tour_steps_of w ++ replicate c.args.more (go wait)) (sym was)
