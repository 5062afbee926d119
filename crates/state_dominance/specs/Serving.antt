-- The ruler of a trip that serves stops in their order and keeps another ruler's rules: its states are those of the other with the number of
-- stops that were served (source: own, after SEA 2020).
use Rattle.std.specs.Prelude.{◌≡◌, ℕ, suc, ◌+◌, ◌*◌, ◌/◌, ◌%◌, ◌^◌, ◌<◌, ◌&&◌, nat_eq, nat_lt, if◌then◌else◌, true, Some, None, List, length}
use Rattle.std.specs.Option.{option_map}
use Rattle.state_dominance.specs.Inside.Product.{Ruler, Service}

-- fewer stops than this can be served
abbrev pub served_limit : ℕ
served_limit = 2 ^ 32

-- the number of a state of the other with so many served stops
abbrev pub joint : ℕ → ℕ → ℕ
joint k served = k * served_limit + served

-- the ruler: drives and rests go on as before, and the next service adds one to the served stops
abbrev pub serving : List Service → Ruler → Ruler
serving services r = record {
  first = joint r.first 0;
  drive = λ n minutes. option_map (λ k. joint k (n % served_limit)) (r.drive (n / served_limit) minutes);
  rest = λ n minutes. joint (r.rest (n / served_limit) minutes) (n % served_limit);
  rests = r.rests;
  no_worse = λ m n. nat_eq (m % served_limit) (n % served_limit) && r.no_worse (m / served_limit) (n / served_limit);
  fits = λ m n. nat_eq (m % served_limit) (n % served_limit) && r.fits (m / served_limit) (n / served_limit);
  services = services;
  serve = λ n i. if nat_lt i (length services) && nat_eq (n % served_limit) i then Some (joint (n / served_limit) (suc i)) else None;
  ends = λ n. nat_eq (n % served_limit) (length services) && r.ends (n / served_limit);
  last = joint r.last (length services);
  unserve = λ n i. if nat_lt i (length services) && nat_eq (n % served_limit) (suc i) then Some (joint (n / served_limit) i) else None;
  stage = λ n. n % served_limit;
  best = λ i. joint r.first i;
}

-- the first state is no worse than any other
pub record IsFirstBest (r : Ruler) : Type 0 where
  pub first : (k : ℕ) → r.no_worse r.first k ≡ true

-- with a number of served stops each state that a search comes to is one of 64 bits
pub record HasSmallStates (r : Ruler) : Type 0 where
  pub first : r.first < served_limit
  pub last : r.last < served_limit
  pub drives : (k minutes next : ℕ) → r.drive k minutes ≡ Some next → next < served_limit
  pub rests : (k minutes : ℕ) → k < served_limit → r.rest k minutes < served_limit
