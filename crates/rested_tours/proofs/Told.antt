-- What legs over states tell, one leg more.
use Rattle.std.proofs.Common.{◌≡◌, ℕ, ◌+◌, ◌≤◌, ◌<◌, List, [], ◌∷◌, ◌++◌, length, get_or, take, drop, refl, sym, ◌∙◌, ap, arith, append_assoc, append-nil, length-append}
use Rattle.std.proofs.lemmas.List.{take_more, take-append-drop}
use Rattle.ruled_search.specs.declared.routes.RuledLeg.{RuledLeg}
use Rattle.stop_tour.specs.Tours.{TourStep}
use Rattle.rested_tours.specs.Inside.ToldLegs.{told, told_by}

pub told_append : (rest : ℕ) (xs ys : List RuledLeg) → told rest (xs ++ ys) ≡ told rest xs ++ told rest ys
told_append rest [] ys = refl
told_append rest (x ∷ xs) ys = ap (λ (w : List TourStep). told_by rest x ++ w) (told_append rest xs ys)
    ∙ sym (append_assoc (told_by rest x) (told rest xs) (told rest ys))

pub told_next : (rest : ℕ) (legs : List RuledLeg) (i : ℕ) (d : RuledLeg) → i < length legs
    → told rest (take (i + 1) legs) ≡ told rest (take i legs) ++ told_by rest (get_or legs i d)
told_next rest legs i d within =
    ap (told rest) (take_more legs i d within) ∙ told_append rest (take i legs) (get_or legs i d ∷ [])
    ∙ ap (λ (w : List TourStep). told rest (take i legs) ++ w) (append-nil (told_by rest (get_or legs i d)))

pub told_within : (rest : ℕ) (legs : List RuledLeg) (n : ℕ) → length (told rest (take n legs)) ≤ length (told rest legs)
told_within rest legs n =
    let whole : told rest legs ≡ told rest (take n legs) ++ told rest (drop n legs) =
    ap (told rest) (sym (take-append-drop n legs)) ∙ told_append rest (take n legs) (drop n legs) in
    omega (
      arith,
      ap (λ (w : List TourStep). length w) whole,
      length-append (told rest (take n legs)) (told rest (drop n legs)),
    )
