-- Copying the pieces that aren't empty, piece by piece.
use Rattle.std.proofs.Common.{◌≡◌, ℕ, ◌+◌, ◌<◌, Bool, true, false, cond, ◌==◌, nat_lt, List, [], ◌∷◌, ◌++◌, Bor, length, map, take, filter, get_or}
use Rattle.std.proofs.Common.{refl, sym, ◌∙◌, ap, arith}
use Rattle.std.proofs.lemmas.List.{append-nil, length-map, get_or-map}
use Rattle.std.proofs.lemmas.List.Elements.{filter_more}

abbrev is_word : List ℕ → Bool
is_word word = nat_lt 0 (length word)

abbrev bytes : List (Bor (List ℕ)) → List (List ℕ)
bytes ps = map (λ (p : Bor (List ℕ)). p.now) ps

is_empty : (x : List ℕ) → true ≡ (length x == 0) → is_word x ≡ false
is_empty [] e = refl
is_empty (b ∷ x) e = grind arith

not_empty : (x : List ℕ) → false ≡ (length x == 0) → is_word x ≡ true
not_empty [] e = grind arith
not_empty (b ∷ x) e = grind arith

module _ (ps : List (Bor (List ℕ))) (i : ℕ) (d : Bor (List ℕ)) (words : List (List ℕ)) (within : i < length ps)
    (is : words ≡ filter is_word (take i (bytes ps))) where
  next : (b : Bool) → is_word (get_or ps i d).now ≡ b → words ++ cond b ((get_or ps i d).now ∷ []) [] ≡ filter is_word (take (i + 1) (bytes ps))
  next b e =
      ap (λ (ws : List (List ℕ)). ws ++ cond b ((get_or ps i d).now ∷ []) []) is
      ∙ ap (λ (c : Bool). filter is_word (take i (bytes ps)) ++ cond c ((get_or ps i d).now ∷ []) []) (sym e)
      ∙ ap (λ (x : List ℕ). filter is_word (take i (bytes ps)) ++ cond (is_word x) (x ∷ []) [])
      (sym (get_or-map (λ (p : Bor (List ℕ)). p.now) ps i d [] within))
      ∙ sym (filter_more is_word (bytes ps) i [] (omega (arith, within, length-map ps (λ (p : Bor (List ℕ)). p.now))))

  -- an empty piece is left out
  pub left : true ≡ (length (get_or ps i d).now == 0) → words ≡ filter is_word (take (i + 1) (bytes ps))
  left e = sym (append-nil words) ∙ next false (is_empty (get_or ps i d).now e)

  -- and another is copied
  pub kept : false ≡ (length (get_or ps i d).now == 0) → words ++ (get_or ps i d).now ∷ [] ≡ filter is_word (take (i + 1) (bytes ps))
  kept e = next true (not_empty (get_or ps i d).now e)
