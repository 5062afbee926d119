-- The texts of jobs in their order (source: own).
use Rattle.std.specs.Prelude.{◌≡◌, ℕ, ◌+◌, List, length, slice_get, Some}

-- these are right texts of the jobs from one number up to, but not including, another
pub record AreRight (is_right : ℕ → List ℕ → Type 0) (from to : ℕ) (texts : List (List ℕ)) : Type 0 where
  pub count : from + length texts ≡ to
  pub each : (k : ℕ) (text : List ℕ) → slice_get texts k ≡ Some text → is_right (from + k) text

-- there is a text for each job, and it is right at a place at which the job is planned
pub record AreRightByJob (is_right : ℕ → List ℕ → Type 0) (order : List ℕ) (texts : List (List ℕ)) : Type 0 where
  pub count : length texts ≡ length order
  pub each : (job : ℕ) (text : List ℕ) → slice_get texts job ≡ Some text
      → (place : ℕ) × (slice_get order place ≡ Some job) × is_right place text
