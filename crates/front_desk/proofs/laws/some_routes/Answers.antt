use Rattle.front_desk.proofs.SomeRoutes.{some_trip}
use Rattle.front_desk.proofs.laws.some_routes.Goals as goal

pub returns : goal.returns
returns c = λ network trip good graph fine. some_trip network good graph trip fine
