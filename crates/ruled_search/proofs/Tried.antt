-- The least spot among the places so far.
use Rattle.std.proofs.Common.{◌≡◌, ⊎_elim, ℕ, ◌+◌, ◌/◌, ◌<◌, ◌≤◌, Option, Some, None, List, length, get_or, refl, sym, ◌∙◌, ap, subst, arith}
use Rattle.std.specs.Prelude.{Contains, slice_get, IfSome, IsNone}
use Rattle.std.proofs.lemmas.Nat.{div-mul-add, mod-mul-add}
use Rattle.std.proofs.lemmas.Option.{same_Some, slice_get-get_or}
use Rattle.route_base.specs.Net.{at_number}
use Rattle.cost_functions.specs.declared.pieces.Piece.{Piece}
use Rattle.node_arcs.proofs.StarPlaces.{earlier_or_next}
use Rattle.propagation.specs.Found.{cost_at}
use Rattle.state_dominance.specs.Inside.Product.{code}
use Rattle.ruled_states.specs.Inside.Codes.{base, HaveSmallNodes}
use Rattle.ruled_states.specs.Inside.Tables.{IsStateOf, ArePlacesOf, code_of, number_in}
use Rattle.ruled_states.specs.declared.table.Info.{Info}
use Rattle.ruled_states.specs.declared.table.Place.{Place}
use Rattle.ruled_states.proofs.Numbers.{state_at}
use Rattle.ruled_search.specs.Inside.Sources.{IsKnownSpot, IsLeastAt, IsLesser, IsSpotIf}
use Rattle.ruled_search.specs.declared.sources.Spot.{Spot}

-- of the first places, those whose state this is said of
pub record IsLeastOf (infos : List Info) (cost : ℕ → ℕ → Option ℕ) (v minute x : ℕ) (is : ℕ → Type 0) (row : List Place) (count : ℕ) (found : Option Spot) : Type 0 where
  pub some : IfSome found (λ from. IsKnownSpot infos cost from.number minute x from × (from.info.node.0 ≡ v) × is from.info.state)
  pub least : IfSome found (λ from. (i : ℕ) (p : Place) → i < count → slice_get row i ≡ Some p → is p.state
      → cost (code base v p.state) minute ≡ Some x → from.info.state ≤ p.state)
  pub none : IsNone found → (i : ℕ) (p : Place) → i < count → slice_get row i ≡ Some p → is p.state → cost (code base v p.state) minute ≡ Some x → ⊥

filled : {A : Type 0} (a : A) → IsNone (Some a) → ⊥
filled a none = absurd (cc)

pub if_some : {A : Type 0} (Q : A → Type 0) (o : Option A) (a : A) → o ≡ Some a → IfSome o Q → Q a
if_some Q o a is h = subst (λ o. IfSome o Q) is h

module _ (infos : List Info) (cost : ℕ → ℕ → Option ℕ) (v minute x : ℕ) (is : ℕ → Type 0) (row : List Place) where
  pub none_yet : IsLeastOf infos cost v minute x is row 0 None
  none_yet = record { some = tt; least = tt; none = λ _ i p below. absurd (omega (arith, below)) }

  module _ (count : ℕ) (d : Place) (within : count < length row) where
    module _ (found at : Option Spot) (state : IsStateOf infos v (get_or row count d).state (get_or row count d).number)
        (read : IsSpotIf infos cost (get_or row count d).number minute x (is (get_or row count d).state) at)
        (old : IsLeastOf infos cost v minute x is row count found) where
      abbrev IsRight : Spot → Type 0
      IsRight from = IsKnownSpot infos cost from.number minute x from × (from.info.node.0 ≡ v) × is from.info.state

      -- the spot that was read is that of the place
      read_known : (a : Spot) → at ≡ Some a → IsKnownSpot infos cost (get_or row count d).number minute x a × is (get_or row count d).state
      read_known a there =
          if_some (λ (w : Spot). IsKnownSpot infos cost (get_or row count d).number minute x w × is (get_or row count d).state) at a there read.some

      read_info : (a : Spot) → at ≡ Some a → a.info ≡ state.info
      read_info a there = same_Some a.info state.info (sym (read_known a there).0.info ∙ state.at)

      read_state : (a : Spot) → at ≡ Some a → a.info.state ≡ (get_or row count d).state
      read_state a there = ap (λ (i : Info). i.state) (read_info a there) ∙ state.state

      read_right : (a : Spot) → at ≡ Some a → IsRight a
      read_right a there =
          let k = read_known a there in (
            record { same = refl; at = k.0.at; paid = k.0.paid; info = ap (at_number infos) k.0.same ∙ k.0.info; known = k.0.known },
            ap (λ (i : Info). i.node.0) (read_info a there) ∙ state.node,
            subst is (sym (read_state a there)) k.1,
          )

      code_is : code_of state.info ≡ code base v (get_or row count d).state
      code_is = ap (λ w. code base w state.info.state) state.node ∙ ap (λ w. code base v w) state.state

      missed : at ≡ None → (p : Place) → get_or row count d ≡ p → is p.state → cost (code base v p.state) minute ≡ Some x → ⊥
      missed none p here good known = read.none (subst (λ (o : Option Spot). IsNone o) (sym none) refl)
          (subst (λ (w : Place). is w.state) (sym here) good) state.info state.at
          (ap (λ c. cost c minute) code_is ∙ (ap (λ (w : Place). cost (code base v w.state) minute) here ∙ known))

      pub tried : (new : Option Spot) → IsLesser found at new → IsLeastOf infos cost v minute x is row (count + 1) new
      tried None lesser =
          let both = lesser.none refl in record {
            some = tt;
            least = tt;
            none = λ none i p below there good known. ⊎_elim
                (λ (before : i < count). old.none (subst (λ (o : Option Spot). IsNone o) (sym both.0) refl) i p before there good known)
                (λ (here : get_or row count d ≡ p). missed both.1 p here good known)
                (earlier_or_next row count i p d below there);
          }
      tried (Some n) lesser = record {
        some = ⊎_elim
            (λ (first : Some n ≡ found). if_some IsRight found n (sym first) old.some)
            (λ (second : Some n ≡ at). read_right n (sym second))
            lesser.either;
        least = λ i p below there good known. ⊎_elim
            (λ (before : i < count). old_least found old lesser.least.0 i p before there good known)
            (λ (here : get_or row count d ≡ p). new_least at refl lesser.least.1 p here good known)
            (earlier_or_next row count i p d below there);
        none = λ none. absurd (filled n none);
      }
        where
          old_least : (found : Option Spot) → IsLeastOf infos cost v minute x is row count found → IfSome found (λ b. n.info.state ≤ b.info.state)
              → (i : ℕ) (p : Place) → i < count → slice_get row i ≡ Some p → is p.state → cost (code base v p.state) minute ≡ Some x → n.info.state ≤ p.state
          old_least None old le i p before there good known = absurd (old.none refl i p before there good known)
          old_least (Some b) old le i p before there good known = let more = old.least i p before there good known in omega (arith, le, more)

          new_least : (o : Option Spot) → at ≡ o → IfSome o (λ b. n.info.state ≤ b.info.state) → (p : Place) → get_or row count d ≡ p → is p.state
              → cost (code base v p.state) minute ≡ Some x → n.info.state ≤ p.state
          new_least None is_none le p here good known = absurd (missed is_none p here good known)
          new_least (Some b) there le p here good known =
              let same = read_state b there in
              let own : (get_or row count d).state ≡ p.state = ap (λ (w : Place). w.state) here in
              omega (arith, le, same, own)

module _ (infos : List Info) (small : HaveSmallNodes infos) (functions : List (List Piece)) (v minute x : ℕ) (node : v < base)
    (is : ℕ → Type 0) (row : List Place) (places : ArePlacesOf infos v row) where
  -- a state of the node that has a cost has a place
  place_of_cost : (k : ℕ) → cost_at functions (number_in infos (code base v k)) minute ≡ Some x → (i : ℕ) × (p : Place) × (i < length row)
      × (slice_get row i ≡ Some p) × (p.state ≡ k)
  place_of_cost k known =
      let there = state_at infos small v functions (code base v k) minute x (number_in infos (code base v k)) refl known (mod-mul-add k base v node) in
      let p = places.full (code base v k / base) (number_in infos (code base v k)) there in
      let at : Contains row p.0 = p.1 in (
        at.0,
        p.0,
        at.1,
        slice_get-get_or row at.0 p.0 at.1 ∙ ap (λ (w : Place). Some w) at.2,
        p.2 ∙ div-mul-add k base v node,
      )

  pub least_of_all : (count : ℕ) (found : Option Spot) → length row ≤ count
      → IsLeastOf infos (λ c t. cost_at functions (number_in infos c) t) v minute x is row count found
      → IsLeastAt infos (λ c t. cost_at functions (number_in infos c) t) v minute x is found
  least_of_all count None all done = record {
    some = tt;
    least = tt;
    none = λ none k one known.
        let p = place_of_cost k known in
        done.none refl p.0 p.1 (omega (arith, p.2, all)) p.3 (subst is (sym p.4) one)
        (ap (λ j. cost_at functions (number_in infos (code base v j)) minute) p.4 ∙ known);
  }
  least_of_all count (Some b) all done = record {
    some = done.some;
    least = λ k one known.
        let p = place_of_cost k known in
        let le = done.least p.0 p.1 (omega (arith, p.2, all)) p.3 (subst is (sym p.4) one)
        (ap (λ j. cost_at functions (number_in infos (code base v j)) minute) p.4 ∙ known) in
        omega (arith, le, p.4);
    none = λ none. absurd (filled b none);
  }
