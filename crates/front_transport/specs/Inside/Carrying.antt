-- A correspondence along which a Pareto front is carried (source: own; no law).
use Rattle.std.specs.Prelude.{◌≡◌, ◌≢◌, ◌⊎◌}

-- a partial order whose equality is decided
pub record IsPartialOrder {A : Type 0} (NoWorse : A → A → Type 0) : Type 0 where
  pub itself : (p : A) → NoWorse p p
  pub joined : (p q r : A) → NoWorse p q → NoWorse q r → NoWorse p r
  pub one : (p q : A) → NoWorse p q → NoWorse q p → p ≡ q
  pub same : (p q : A) → (p ≡ q) ⊎ (p ≢ q)

-- what is achieved here becomes, by f, what is achieved there: nothing else is found, what is missed has something no worse, and
-- the order is kept both ways
pub record Carries {A B : Type 0} (NoWorse Before : A → A → Type 0) (CanBe : A → Type 0) (NoWorse' Before' : B → B → Type 0) (CanBe' : B → Type 0)
    (f : A → B) : Type 0 where
  pub sound : (a : A) → CanBe a → CanBe' (f a)
  pub covers : (b : B) → CanBe' b → (a : A) × CanBe a × NoWorse' (f a) b
  pub keeps : (a c : A) → CanBe a → CanBe c → NoWorse a c → NoWorse' (f a) (f c)
  pub tells : (a c : A) → CanBe a → CanBe c → NoWorse' (f a) (f c) → NoWorse a c
  pub before : (a c : A) → CanBe a → CanBe c → Before a c → Before' (f a) (f c)
