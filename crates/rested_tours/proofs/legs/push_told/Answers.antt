use Rattle.std.proofs.Common.{◌≡◌, ℕ, suc, ◌+◌, ◌++◌, ◌∷◌, [], sym, ◌∙◌, ap, subst, rules, arith}
use Rattle.stop_tour.specs.Tours.{serve, tour_steps_of}
use Rattle.stop_tour.specs.declared.stops.TourLeg.TheVariants.{Drive, Serve}
use Rattle.ruled_search.specs.declared.routes.RuledLeg.{RuledLeg}
use Rattle.rested_tours.specs.Inside.TidyTours.{IsTidyTour}
use Rattle.rested_tours.specs.Inside.ToldLegs.{told_by}
use Rattle.rested_tours.proofs.TidyTours.{tidy_push, tour_steps_push}
use Rattle.rested_tours.proofs.legs.push_told.Goals as goal

pub returns-in_ok-push-in-Drive-clause-tidy : goal.returns-in_ok-push-in-Drive-clause-tidy
returns-in_ok-push-in-Drive-clause-tidy c =
    let now : c.push.new.self.items ≡ c.args.tour.now.items ++ Drive c.in-Drive.a ∷ [] = search rules in
    subst IsTidyTour (sym now) (tidy_push c.args.tour.now.items (Drive c.in-Drive.a) (λ k same. cc) c.requires.room.tidy)

pub returns-in_ok-push-in-Drive-clause-steps : goal.returns-in_ok-push-in-Drive-clause-steps
returns-in_ok-push-in-Drive-clause-steps c =
    let now : c.push.new.self.items ≡ c.args.tour.now.items ++ Drive c.in-Drive.a ∷ [] = search rules in
    ap tour_steps_of now ∙ tour_steps_push c.args.tour.now.items (Drive c.in-Drive.a)
    ∙ ap (λ (w : RuledLeg). tour_steps_of c.args.tour.now.items ++ told_by c.args.rest w) (sym c.in-Drive.is)

pub returns-in_ok-push-in-Serve-clause-tidy : goal.returns-in_ok-push-in-Serve-clause-tidy
returns-in_ok-push-in-Serve-clause-tidy c =
    let now : c.push-in-Serve.new.self.items ≡ c.args.tour.now.items ++ Serve (c.in-Serve.place + 1) ∷ [] = search rules in
    subst IsTidyTour (sym now) (tidy_push c.args.tour.now.items (Serve (c.in-Serve.place + 1)) (λ k same. cc) c.requires.room.tidy)

pub returns-in_ok-push-in-Serve-clause-steps : goal.returns-in_ok-push-in-Serve-clause-steps
returns-in_ok-push-in-Serve-clause-steps c =
    let now : c.push-in-Serve.new.self.items ≡ c.args.tour.now.items ++ Serve (c.in-Serve.place + 1) ∷ [] = search rules in
    ap tour_steps_of now ∙ tour_steps_push c.args.tour.now.items (Serve (c.in-Serve.place + 1))
    ∙ ap (λ (n : ℕ). tour_steps_of c.args.tour.now.items ++ serve n ∷ []) (let next : c.in-Serve.place + 1 ≡ suc c.in-Serve.place = omega arith in next)
    ∙ ap (λ (w : RuledLeg). tour_steps_of c.args.tour.now.items ++ told_by c.args.rest w) (sym c.in-Serve.is)
