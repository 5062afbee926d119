-- Orders that have each job.
use Rattle.std.proofs.Common.{◌≡◌, ⊎_elim, ℕ, ◌+◌, ◌<◌, ◌≤◌, List, [], ◌∷◌, ◌++◌, length-append, ◌∙◌, arith, subst}
use Rattle.std.specs.Prelude.{All, Contains}
use Rattle.std.specs.List.Sorted.{IsPermutation}
use Rattle.std.proofs.lemmas.Bool.{cases_lt}
use Rattle.std.proofs.lemmas.List.Elements.{All-push, Contains-append_left, Contains-push}
use Rattle.std.proofs.lemmas.List.Sorted.{All-permutation, Contains-permutation, length_permutation}
use Rattle.front_desk.specs.Inside.Sharing.{HasEachJob}

pub one_more : (n : ℕ) (xs : List ℕ) → HasEachJob n xs → HasEachJob (n + 1) (xs ++ n ∷ [])
one_more n xs is = record {
  counted = omega (arith, length-append xs (n ∷ []), is.counted);
  each = All-push (λ job. job < n + 1) xs n (λ k d within. omega (arith, is.each k d within)) (omega arith);
  all = λ job below. ⊎_elim
      (λ (before : job < n). Contains-append_left xs (n ∷ []) job (is.all job before))
      (λ (last : n ≤ job). let here : n ≡ job = omega (arith, last, below) in
      subst (λ (w : ℕ). Contains (xs ++ n ∷ []) w) here (Contains-push xs n))
      (cases_lt job n);
}

pub permuted : (n : ℕ) (xs ys : List ℕ) → IsPermutation xs ys → HasEachJob n xs → HasEachJob n ys
permuted n xs ys same is = record {
  counted = length_permutation xs ys same ∙ is.counted;
  each = All-permutation (λ job. job < n) xs ys same is.each;
  all = λ job below. Contains-permutation xs ys job same (is.all job below);
}

-- the same order under other names
pub ordered_alike : {n m : ℕ} {xs ys : List ℕ} → n ≡ m → xs ≡ ys → HasEachJob n xs → HasEachJob m ys
ordered_alike {n} {m} {xs} {ys} count order is = subst (λ (w : ℕ). HasEachJob w ys) count (subst (HasEachJob n) order is)
