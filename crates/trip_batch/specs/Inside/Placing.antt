-- Texts that are put in the order of the jobs (source: own; no law).
use Rattle.std.specs.Prelude.{◌≡◌, ℕ, ◌≤◌, List, slice_get, Some}

-- the job at each place from one on has a text of such a place
abbrev pub ArePlaced : List ℕ → ℕ → List (List ℕ) → List (List ℕ) → Type 0
ArePlaced order from texts placed = (k job : ℕ) → from ≤ k → slice_get order k ≡ Some job
    → (place : ℕ) × (slice_get order place ≡ Some job) × (slice_get placed job ≡ slice_get texts place)
