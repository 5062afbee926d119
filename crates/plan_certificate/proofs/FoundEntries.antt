-- The bounds and functions of a search as entries by rising node.
use Rattle.std.proofs.Common.{◌≡◌, ◌≢◌, ℕ, ◌≤◌, Option, Some, None, List, [], ◌∷◌, All, length, get_or, refl, sym, ◌∙◌, ap}
use Rattle.route_base.specs.Net.{at_number}
use Rattle.route_base.specs.declared.types.Bound.{Bound}
use Rattle.route_base.specs.declared.types.NodeId.{NodeId}
use Rattle.route_base.proofs.Logic.{flat_some}
use Rattle.route_base.proofs.Numbered.{at_number-all, number_within}
use Rattle.cost_functions.specs.Pieces.{value_at, value_in}
use Rattle.cost_functions.specs.declared.pieces.Piece.{Piece}
use Rattle.potentials.specs.Sums.{bound_at}
use Rattle.propagation.specs.Found.{cost_at}
use Rattle.certificate.specs.ByNode.{item_at}
use Rattle.certificate.proofs.Entries.{item_at_place}
use Rattle.certificate_check.specs.Conditions.{value_of}
use Rattle.plan_certificate.specs.Inside.Entries.{AreEntriesOf, some_pieces, pieces_of}

module _ {A : Type 0} (items : ℕ → Option A) (entries : List (NodeId × A)) (are : AreEntriesOf items entries) where
  -- each entry has the item of its node
  pub each_entry : All (λ e. items e.0.0 ≡ Some e.1) entries
  each_entry k d within = let e = get_or entries k d in sym (are.at e.0.0) ∙ item_at_place entries k e.0.0 d are.rising within refl

  pub same_items : item_at entries ≡ items
  same_items = λ i v. are.at v i

-- each node with bounds is one of the list
pub bound_within : (bounds : List (Option Bound)) (entries : List (NodeId × Bound)) → AreEntriesOf (bound_at bounds) entries
    → All (λ e. (1 ≤ e.0.0) × (e.0.0 ≤ length bounds)) entries
bound_within bounds entries are k d within =
    let e = get_or entries k d in
    number_within bounds e.0.0 (Some e.1) (flat_some (at_number bounds e.0.0) e.1 (each_entry (bound_at bounds) entries are k d within))

some_function : (o : Option (List Piece)) (ps : List Piece) → some_pieces o ≡ Some ps → (o ≡ Some ps) × (ps ≢ [])
some_function None ps is = absurd (cc)
some_function (Some []) ps is = absurd (cc)
some_function (Some (p ∷ qs)) ps is = (is, λ none. let e : Some (p ∷ qs) ≡ Some [] = is ∙ ap (λ (w : List Piece). Some w) none in absurd (cc))

module _ (functions : List (List Piece)) (entries : List (NodeId × List Piece)) (are : AreEntriesOf (pieces_of functions) entries) where
  parts : All (λ e. (at_number functions e.0.0 ≡ Some e.1) × (e.1 ≢ [])) entries
  parts k d within = let e = get_or entries k d in some_function (at_number functions e.0.0) e.1 (each_entry (pieces_of functions) entries are k d within)

  -- each entry is the function of its node
  pub function_is : All (λ e. at_number functions e.0.0 ≡ Some e.1) entries
  function_is k d within = (parts k d within).0

  pub function_filled : All (λ e. e.1 ≢ []) entries
  function_filled k d within = (parts k d within).1

  pub function_within : All (λ e. (1 ≤ e.0.0) × (e.0.0 ≤ length functions)) entries
  function_within k d within = let e = get_or entries k d in number_within functions e.0.0 e.1 (function_is k d within)

  -- what all functions have, each entry has
  pub function_has : (P : List Piece → Type 0) → All P functions → All (λ e. P e.1) entries
  function_has P all k d within = let e = get_or entries k d in at_number-all P functions e.0.0 e.1 all (function_is k d within)

-- what has no pieces has no value
same_value : (o : Option (List Piece)) (t : ℕ) → value_in (some_pieces o) t ≡ value_in o t
unfolding value_at
same_value None t = refl
same_value (Some []) t = refl
same_value (Some (p ∷ ps)) t = refl

pub same_values : (functions : List (List Piece)) (entries : List (NodeId × List Piece)) → AreEntriesOf (pieces_of functions) entries
    → value_of entries ≡ cost_at functions
same_values functions entries are = λ i v t. values v t i
  where
    values : (v t : ℕ) → value_of entries v t ≡ cost_at functions v t
    values v t = ap (λ o. value_in o t) (are.at v) ∙ same_value (at_number functions v) t
