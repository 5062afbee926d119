-- Worked reports: what the definitions say of one route and of none, by computing.
use Rattle.std.proofs.Common.{◌≡◌, [], ◌∷◌, codes, refl}
use Rattle.std.specs.Fmt.{digits}
use Rattle.route_base.specs.declared.types.Leg.TheVariants.{Drive, Wait}
use Rattle.route_base.specs.declared.types.Route.{Route}
use Rattle.route_lines.specs.RouteLines.{plain_route_text, plain_routes_of}

-- a drive, a wait and a drive
abbrev one_route : Route
one_route = record {
  pair = record { arrival = 26563800; cost = 120500 };
  legs = Drive (record { 0 = 1 }) ∷ Wait 30 ∷ Drive (record { 0 = 2 }) ∷ [];
}

report_of_one_route : plain_routes_of plain_route_text (one_route ∷ []) ≡ codes "pairs 1\npair 26563800 120.500\ndrive 1\nwait 30\ndrive 2\n"
unfolding digits
report_of_one_route = refl

report_of_none : plain_routes_of plain_route_text [] ≡ codes "pairs 0\n"
unfolding digits
report_of_none = refl
