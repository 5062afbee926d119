-- A label that is as good at a value is so at a larger one, and among more labels.
use Rattle.std.proofs.Common.{ℕ, ◌≤◌, ◌++◌, List, arith}
use Rattle.std.proofs.lemmas.List.Elements.{Contains-append_left, Contains-append_right}
use Rattle.state_dominance.specs.Inside.Product.{Ruler}
use Rattle.ruled_states.specs.declared.labels.Label.{Label}
use Rattle.ruled_bounds.specs.Inside.GoodLabels.{HasAsGood}

pub as_good_more : (r : Ruler) (labels : List Label) (value more need : ℕ) → value ≤ more → HasAsGood r labels value need → HasAsGood r labels more need
as_good_more r labels value more need le good = record {
  label = good.label;
  is_one = good.is_one;
  within = omega (arith, good.within, le);
  better = good.better;
}

pub as_good_left : (r : Ruler) (own far : List Label) (value need : ℕ) → HasAsGood r own value need → HasAsGood r (own ++ far) value need
as_good_left r own far value need good = record {
  label = good.label;
  is_one = Contains-append_left own far good.label good.is_one;
  within = good.within;
  better = good.better;
}

pub as_good_right : (r : Ruler) (own far : List Label) (value need : ℕ) → HasAsGood r far value need → HasAsGood r (own ++ far) value need
as_good_right r own far value need good = record {
  label = good.label;
  is_one = Contains-append_right own far good.label good.is_one;
  within = good.within;
  better = good.better;
}
