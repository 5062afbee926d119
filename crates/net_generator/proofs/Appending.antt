-- A line that is written part by part.
use Rattle.std.proofs.Common.{◌≡◌, ℕ, List, ◌++◌, ◌∙◌, ap, append_assoc}

pub joined : (old word number end begun whole : List ℕ) → begun ≡ old ++ (word ++ number) → whole ≡ begun ++ end
    → whole ≡ old ++ (word ++ (number ++ end))
joined old word number end begun whole first last =
    last ∙ ap (λ (t : List ℕ). t ++ end) first ∙ append_assoc old (word ++ number) end ∙ ap (λ (t : List ℕ). old ++ t) (append_assoc word number end)
