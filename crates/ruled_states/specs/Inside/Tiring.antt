-- Drives tire (source: own; no law).
use Rattle.std.specs.Prelude.{◌≡◌, ℕ, true, Some}
use Rattle.state_dominance.specs.Inside.Product.{Ruler}

-- what fits after a drive fits before it
abbrev pub DrivesTire : Ruler → Type 0
DrivesTire r = (k next minutes need : ℕ) → r.drive k minutes ≡ Some next → r.fits next need ≡ true → r.fits k need ≡ true
