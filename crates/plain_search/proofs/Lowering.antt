-- A write to a cell lowers the cost at one node and minute.
use Rattle.std.proofs.Common.{◌≡◌, ◌⊎◌, inl, inr, ⊎_elim, ℕ, ◌-◌, ◌≤◌, ◌<◌, min, List, length, get_or, set, refl, sym, ◌∙◌, ap}
use Rattle.std.proofs.Common.{arith, get_or-set_other, get_or-set_same}
use Rattle.std.proofs.lemmas.Bool.{lt-ltb, le-ltb, le-leb, lt-leb, cases_lt}
use Rattle.std.proofs.lemmas.Nat.{same_from_place}
use Rattle.plain_search.specs.Inside.Costs.{none, Lowers}
use Rattle.plain_search.specs.Inside.CostTable.{cell_of, cost_in}

module _ (width depart : ℕ) where
  pub in_range : (cells : List ℕ) (v t : ℕ) → 1 ≤ v → v ≤ width → depart ≤ t
      → cost_in width depart cells v t ≡ get_or cells (cell_of width depart v t) none
  in_range cells v t low high row = rw (lt-ltb 0 v (omega arith), le-leb v width high, le-leb depart t row) refl

  -- the cell is one of the table
  pub record IsInside (v t : ℕ) : Type 0 where
    pub low : 1 ≤ v
    pub high : v ≤ width
    pub row : depart ≤ t

  pub inside_cases : (v t : ℕ) → IsInside v t ⊎ ((cells : List ℕ) → cost_in width depart cells v t ≡ none)
  inside_cases v t = ⊎_elim
      (λ (some : 0 < v). ⊎_elim
      (λ (past : width < v). inr (λ cells. rw (lt-ltb 0 v some, lt-leb v width past) refl))
      (λ (high : v ≤ width). ⊎_elim
      (λ (early : t < depart). inr (λ cells. rw (lt-ltb 0 v some, le-leb v width high, lt-leb depart t early) refl))
      (λ (row : depart ≤ t). inl (record { low = omega (arith, some); high = high; row = row }))
      (cases_lt t depart))
      (cases_lt width v))
      (λ (zero : v ≤ 0). inr (λ cells. rw (le-ltb 0 v zero) refl))
      (cases_lt 0 v)

  -- a cost that is known is within the table
  pub known_inside : (cells : List ℕ) (v t : ℕ) → cost_in width depart cells v t < none → IsInside v t
  known_inside cells v t known = ⊎_elim
      (λ (inside : IsInside v t). inside)
      (λ (outside : (xs : List ℕ) → cost_in width depart xs v t ≡ none). absurd (omega (arith, known, outside cells)))
      (inside_cases v t)

  pub lowered : (cells : List ℕ) (v t x : ℕ) → 1 ≤ v → v ≤ width → depart ≤ t → cell_of width depart v t < length cells
      → x < get_or cells (cell_of width depart v t) none
      → Lowers (cost_in width depart cells) (cost_in width depart (set cells (cell_of width depart v t) x)) v t x
  lowered cells v t x low high row within lower = record {
    here = in_range (set cells (cell_of width depart v t) x) v t low high row
        ∙ get_or-set_same cells (cell_of width depart v t) x none within
        ∙ least (get_or cells (cell_of width depart v t) none) lower
        ∙ ap (λ n. min n x) (sym (in_range cells v t low high row));
    others = λ w k ne. ⊎_elim
        (λ (at_hand : IsInside w k).
        in_range (set cells (cell_of width depart v t) x) w k at_hand.low at_hand.high at_hand.row
        ∙ other w k at_hand ne
        ∙ sym (in_range cells w k at_hand.low at_hand.high at_hand.row))
        (λ (outside : (xs : List ℕ) → cost_in width depart xs w k ≡ none). outside (set cells (cell_of width depart v t) x) ∙ sym (outside cells))
        (inside_cases w k);
  }
    where
      least : (n : ℕ) → x < n → x ≡ min n x
      least n lt = omega arith

      other : (w k : ℕ) → IsInside w k → (w ≡ v → k ≡ t → ⊥)
          → get_or (set cells (cell_of width depart v t) x) (cell_of width depart w k) none ≡ get_or cells (cell_of width depart w k) none
      other w k inside ne =
          let apart : cell_of width depart w k ≡ cell_of width depart v t → ⊥ = λ same.
          let column : w - 1 < width = omega (arith, inside.low, inside.high) in
          let column' : v - 1 < width = omega (arith, low, high) in
          let e = same_from_place (k - depart) (w - 1) (t - depart) (v - 1) width column column' same in
          ne (omega (arith, e.1, inside.low, low)) (omega (arith, e.0, row, inside.row)) in
          get_or-set_other cells (cell_of width depart v t) (cell_of width depart w k) x none apart
