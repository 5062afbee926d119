-- The first minutes of pieces, and the piece of a value.
use Rattle.std.proofs.Common.{◌≡◌, ℕ, suc, ◌-◌, ◌*◌, ◌≤◌, ◌<◌, Bool, true, false, Some, List, [], ◌∷◌, length, get_or, refl, ◌∙◌, ap, arith}
use Rattle.std.specs.Prelude.{if◌then◌else◌, nat_le}
use Rattle.std.proofs.lemmas.Bool.{leb-true, and_parts}
use Rattle.cost_functions.specs.Lines.{is_on_piece, line_at}
use Rattle.cost_functions.specs.Pieces.{value_at, ArePieces}
use Rattle.cost_functions.specs.declared.pieces.Piece.{Piece}
use Rattle.cost_functions.proofs.Places.{value_at_place}

pub start_value : (ps : List Piece) (i : ℕ) (d : Piece) → ArePieces ps → i < length ps → value_at ps (get_or ps i d).lo ≡ Some (get_or ps i d).cost
start_value ps i d are within =
    let p : Piece = get_or ps i d in
    let none : p.lo - p.lo ≡ 0 = omega arith in
    let flat : p.slope * (p.lo - p.lo) ≡ 0 = ap (λ n. p.slope * n) none ∙ omega arith in
    let cost : line_at p p.lo ≡ p.cost = omega (arith, flat) in
    value_at_place ps i d p.lo are within (omega arith) (are.each i d within).filled ∙ ap (λ n. Some n) cost

-- a value is that of a piece which begins no later and costs no more there
pub piece_of : (ps : List Piece) (t x : ℕ) → value_at ps t ≡ Some x → (i : ℕ) × (i < length ps)
    × ((d : Piece) → ((get_or ps i d).lo ≤ t) × ((get_or ps i d).cost ≤ x))
unfolding value_at
piece_of [] t x is = absurd (cc)
piece_of (p ∷ ps) t x is = by (λ rest. piece_of ps t x rest) (is_on_piece t p) refl is
  where
    by : (value_at ps t ≡ Some x → (i : ℕ) × (i < length ps) × ((d : Piece) → ((get_or ps i d).lo ≤ t) × ((get_or ps i d).cost ≤ x))) → (b : Bool)
        → is_on_piece t p ≡ b → (if b then Some (line_at p t) else value_at ps t) ≡ Some x
        → (i : ℕ) × (i < length (p ∷ ps)) × ((d : Piece) → ((get_or (p ∷ ps) i d).lo ≤ t) × ((get_or (p ∷ ps) i d).cost ≤ x))
    by later true on here =
        let e : line_at p t ≡ x = cc in
        (0, omega arith, λ d. (leb-true p.lo t (and_parts (nat_le p.lo t) (nat_le t p.hi) on).0, omega (arith, e)))
    by later false on rest = let found = later rest in (suc found.0, omega (arith, found.1), found.2)
