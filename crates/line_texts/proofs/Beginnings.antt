-- Texts of which only the beginning was appended.
use Rattle.std.proofs.Common.{ℕ, List, ◌++◌, ◌∙◌, ap, append_assoc}
use Rattle.line_texts.specs.Begun.{IsBegun}

-- what begins the first of two parts begins both
pub begun-longer : (held first next now : List ℕ) → IsBegun held first now → IsBegun held (first ++ next) now
begun-longer held first next now begun = record {
  done = begun.done;
  left = begun.left ++ next;
  all = ap (λ (w : List ℕ). w ++ next) begun.all ∙ append_assoc begun.done begun.left next;
  is = begun.is;
}
