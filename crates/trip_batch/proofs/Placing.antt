-- Right texts that are put in the order of the jobs.
use Rattle.std.proofs.Common.{◌≡◌, ℕ, ◌+◌, ◌<◌, Some, List, length, get_or, sym, ap, ◌∙◌, subst, arith}
use Rattle.std.specs.Prelude.{Contains, slice_get}
use Rattle.std.proofs.lemmas.Option.{slice_get_within, slice_get-get_or}
use Rattle.trip_batch.specs.Right.{AreRight, AreRightByJob}
use Rattle.trip_batch.specs.Inside.Placing.{ArePlaced}

-- an item of a list is at a place
at_place : (order : List ℕ) (job : ℕ) → Contains order job → (k : ℕ) × (slice_get order k ≡ Some job)
at_place order job one = (one.0, slice_get-get_or order one.0 job one.1 ∙ ap (λ (n : ℕ). Some n) one.2)

pub placed_right : (R : ℕ → List ℕ → Type 0) (order : List ℕ) (texts placed : List (List ℕ))
    → ((job : ℕ) → job < length order → Contains order job) → AreRight R 0 (length order) texts → length placed ≡ length order
    → ArePlaced order 0 texts placed → AreRightByJob R order placed
placed_right R order texts placed all right count are = record {
  count = count;
  each = λ job text is.
      let below = slice_get_within placed job text is in
      let some = at_place order job (all job (omega (arith, below, count))) in
      let found = are some.0 job (omega arith) some.1 in
      let there : slice_get texts found.0 ≡ Some text = sym found.2 ∙ is in
      let same : 0 + found.0 ≡ found.0 = omega arith in
      (found.0, found.1, subst (λ (n : ℕ). R n text) same (right.each found.0 text there));
}
