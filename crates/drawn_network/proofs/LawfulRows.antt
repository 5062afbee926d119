-- Closures and parking areas whose tables have no fault.
use Rattle.std.specs.Prelude.{ℕ, suc, ◌≤◌, ◌<◌, ⊤, List, [], ◌∷◌}
use Rattle.route_base.specs.Time.{IsInstant}
use Rattle.net_generator.specs.declared.layout.Closure.{Closure}
use Rattle.net_generator.specs.declared.layout.Parking.{Parking}

-- an arc from 1 to `arcs`, and an instant after another
pub record IsLawfulClosure (arcs : ℕ) (closure : Closure) : Type 0 where
  pub low : 1 ≤ closure.arc
  pub high : closure.arc ≤ arcs
  pub from : IsInstant closure.from
  pub to : IsInstant closure.to
  pub rises : closure.from < closure.to

-- a node from one number to another, and the rating `a`, `b` or `c`
pub record IsLawfulParking (first last : ℕ) (area : Parking) : Type 0 where
  pub low : first ≤ area.node
  pub high : area.node ≤ last
  pub rating_low : 97 ≤ area.rating
  pub rating_high : area.rating ≤ 99

-- parking areas at rising nodes from one number to another
abbrev pub AreRisingRows : ℕ → ℕ → List Parking → Type 0
AreRisingRows first last [] = ⊤
AreRisingRows first last (area ∷ more) = IsLawfulParking first last area × AreRisingRows (suc area.node) last more
