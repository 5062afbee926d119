-- A queue with more room.
use Rattle.std.proofs.Common.{◌≡◌, ⊎_elim, ℕ, zero, suc, ◌+◌, ◌≤◌, ◌<◌, Option, Some, None, List, length, refl, sym, ◌∙◌, ap, arith}
use Rattle.std.specs.Option.{option_flatten}
use Rattle.std.proofs.lemmas.Bool.{cases_eq, cases_lt}
use Rattle.std.proofs.lemmas.Option.{slice_get_past}
use Rattle.label_queue.specs.Keys.{key_at, IsSet}

-- there is no key slice_get_past the room
pub no_key : (keys : List (Option ℕ)) (n : ℕ) → length keys < n → key_at keys n ≡ None
unfolding key_at
no_key keys zero lt = refl
no_key keys (suc n) lt = ap option_flatten (slice_get_past keys n (omega (arith, lt)))

-- no node has the number 0
pub no_node : (keys : List (Option ℕ)) → key_at keys 0 ≡ None
unfolding key_at
no_node keys = refl

module _ (queue old : List (Option ℕ)) (k : ℕ) (done : (n : ℕ) → n ≤ k → key_at old n ≡ key_at queue n) (rest : (n : ℕ) → k < n → key_at old n ≡ None) where
  module _ (new : List (Option ℕ)) (key : ℕ) (is : key_at queue (k + 1) ≡ Some key) (put : IsSet old new (k + 1) (Some key)) where
    pub put_done : (n : ℕ) → n ≤ k + 1 → key_at new n ≡ key_at queue n
    put_done n le = ⊎_elim
        (λ (here : n ≡ k + 1). ap (key_at new) here ∙ put.here ∙ sym is ∙ ap (key_at queue) (sym here))
        (λ (other : n ≡ k + 1 → ⊥). put.others n other ∙ done n (below n le other))
        (cases_eq n (k + 1))
      where
        below : (n : ℕ) → n ≤ k + 1 → (n ≡ k + 1 → ⊥) → n ≤ k
        below n le other = ⊎_elim
            (λ (late : k < n). absurd (other (omega (arith, le, late))))
            (λ (early : n ≤ k). early)
            (cases_lt k n)

    pub put_rest : (n : ℕ) → k + 1 < n → key_at new n ≡ None
    put_rest n lt = put.others n (λ same. let bad : ⊥ = omega (arith, lt, same) in bad) ∙ rest n (omega (arith, lt))

  pub skip_done : key_at queue (k + 1) ≡ None → (n : ℕ) → n ≤ k + 1 → key_at old n ≡ key_at queue n
  skip_done none n le = ⊎_elim
      (λ (late : k < n).
      let here : n ≡ k + 1 = omega (arith, le, late) in
      rest n late ∙ sym none ∙ ap (key_at queue) (sym here))
      (λ (early : n ≤ k). done n early)
      (cases_lt k n)

  pub all_done : length queue ≤ k → (n : ℕ) → key_at old n ≡ key_at queue n
  all_done room n = ⊎_elim
      (λ (late : k < n). rest n late ∙ sym (no_key queue n (omega (arith, late, room))))
      (λ (early : n ≤ k). done n early)
      (cases_lt k n)
