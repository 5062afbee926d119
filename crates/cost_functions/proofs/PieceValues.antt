-- All values have what all pieces have at all their minutes.
use Rattle.std.proofs.Common.{◌≡◌, ⊎_elim, ℕ, ◌≤◌, ◌<◌, suc, Some, List, [], ◌∷◌, length, get_or, ◌∙◌, sym, subst, arith}
use Rattle.std.proofs.lemmas.Bool.{cases_lt}
use Rattle.cost_functions.specs.Lines.{line_at}
use Rattle.cost_functions.specs.Pieces.{value_at}
use Rattle.cost_functions.specs.declared.pieces.Piece.{Piece}
use Rattle.cost_functions.proofs.Values.{value_here, value_before, value_after}

nowhere : (t v : ℕ) → value_at [] t ≡ Some v → ⊥
unfolding value_at
nowhere t v is = cc

pub values_of_pieces : (P : ℕ → ℕ → Type 0) (ps : List Piece)
    → ((k : ℕ) (d : Piece) → k < length ps → (t : ℕ) → (get_or ps k d).lo ≤ t → t ≤ (get_or ps k d).hi → P t (line_at (get_or ps k d) t))
    → (t v : ℕ) → value_at ps t ≡ Some v → P t v
values_of_pieces P [] all t v is = absurd (nowhere t v is)
values_of_pieces P (p ∷ ps) all t v is =
    let behind : value_at ps t ≡ Some v → P t v = λ there.
    values_of_pieces P ps (λ k d within s from upto. all (suc k) d (omega (arith, within)) s from upto) t v there in
    ⊎_elim
    (λ (early : t < p.lo). behind (sym (value_before p ps t early) ∙ is))
    (λ (from : p.lo ≤ t).
    ⊎_elim
    (λ (late : p.hi < t). behind (sym (value_after p ps t late) ∙ is))
    (λ (upto : t ≤ p.hi).
    let same : Some (line_at p t) ≡ Some v = sym (value_here p ps t from upto) ∙ is in
    let value : line_at p t ≡ v = cc in
    subst (λ (y : ℕ). P t y) value (all 0 p (omega arith) t from upto))
    (cases_lt p.hi t))
    (cases_lt t p.lo)
