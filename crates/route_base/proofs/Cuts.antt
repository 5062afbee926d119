-- A list that is cut at its first mark.
use Rattle.std.proofs.Common.{◌≡◌, ℕ, Bool, ◌+◌, ◌-◌, ◌≤◌, ltb, List, [], ◌∷◌, length, take, drop, Some, None, sym, arith, length-drop}
use Rattle.std.proofs.lemmas.Bool.{ltb-true}
use Rattle.std.proofs.lemmas.Option.{cond_some}
use Rattle.std.proofs.lemmas.List.{take_all}
use Rattle.std.proofs.lemmas.List.Splits.{slice_split_first, slice_split_none}
use Rattle.std.proofs.lemmas.List.Sums.{fails_before_first}
use Rattle.std.specs.List.{slice_split, position, position_or_len}
use Rattle.route_base.proofs.Logic.{found_within}

pub cut_none : (p : ℕ → Bool) (xs : List ℕ) → None ≡ position p xs → slice_split p xs ≡ xs ∷ []
cut_none p xs e = slice_split_none p xs (λ k d h. fails_before_first p xs k d
    (let w : length xs ≤ position_or_len p xs = found_within (position_or_len p xs) (length xs) (position_or_len p xs) (sym e) in omega arith))

pub cut_some : (p : ℕ → Bool) (xs : List ℕ) (i : ℕ) → Some i ≡ position p xs → slice_split p xs ≡ take i xs ∷ slice_split p
    (take (length xs - (i + 1)) (drop (i + 1) xs))
cut_some p xs i e =
    let w = cond_some (ltb (position_or_len p xs) (length xs)) (position_or_len p xs) i (sym e) in
    let whole : take (length xs - (i + 1)) (drop (i + 1) xs) ≡ drop (i + 1) xs = take_all (length xs - (i + 1)) (drop (i + 1) xs)
    (omega (arith, length-drop (i + 1) xs)) in
    let first : slice_split p xs ≡ take (position_or_len p xs) xs ∷ slice_split p
    (drop (position_or_len p xs + 1) xs) = slice_split_first p xs 0 (ltb-true _ _ w.0) in
    rw whole (rw w.1 at first)
