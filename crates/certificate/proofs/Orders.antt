-- Tests of neighbours, and facts of all pairs of a list.
use Rattle.std.proofs.Common.{◌≡◌, ◌<◌, ◌&&◌, suc, Bool, true, List, [], ◌∷◌, get_or, All, refl, ◌∙◌, ap, arith}
use Rattle.std.specs.Prelude.{AllPairs}
use Rattle.std.proofs.lemmas.Bool.{lt-ltb, ltb-true, and_parts}
use Rattle.std.proofs.lemmas.List.Elements.{All-cons, All-head, All-tail}
use Rattle.std.proofs.lemmas.List.Kept.{AllPairs-cons}
use Rattle.route_base.specs.Legs.{HasNoNeighbouringWaits}
use Rattle.route_base.specs.declared.types.Leg.{Leg}
use Rattle.route_base.specs.declared.types.Leg.TheVariants.{Drive, Wait}
use Rattle.route_base.specs.declared.types.NodeId.{NodeId}
use Rattle.cost_functions.specs.Lines.{IsPiece}
use Rattle.cost_functions.specs.Pieces.{ArePieces}
use Rattle.cost_functions.specs.declared.pieces.Piece.{Piece}
use Rattle.certificate.specs.ByNode.{AreRising}
use Rattle.certificate.specs.Inside.Reading.{neighbours_pass, may_follow_leg, may_follow_piece, may_follow_entry}

module _ {A : Type 0} (test : A → A → Bool) (R : A → A → Type 0) where
  module _ (P : A → Type 0) (holds : (x y : A) → test x y ≡ true → R x y) (across : (x y z : A) → P y → R x y → R y z → R x z) where
    pub pairs_from : (xs : List A) → All P xs → neighbours_pass test xs ≡ true → AllPairs R xs
    pairs_from [] all is = λ i j d before within. absurd (omega (arith, within))
    pairs_from (x ∷ []) all is = λ i j d before within. absurd (omega (arith, before, within))
    pairs_from (x ∷ y ∷ xs) all is =
        let parts = and_parts (test x y) (neighbours_pass test (y ∷ xs)) is in
        let others = All-tail P x (y ∷ xs) all in
        let rest = pairs_from (y ∷ xs) others parts.1 in
        let first = holds x y parts.0 in
        AllPairs-cons R x (y ∷ xs)
        (All-cons (R x) y xs first
        (λ k d within. across x y (get_or xs k d) (All-head P y xs others) first (rest 0 (suc k) d (omega arith) (omega (arith, within))))) rest

  module _ (passes : (x y : A) → R x y → test x y ≡ true) where
    pub pass_from : (xs : List A) → AllPairs R xs → neighbours_pass test xs ≡ true
    pass_from [] all = refl
    pass_from (x ∷ []) all = refl
    pass_from (x ∷ y ∷ xs) all =
        ap (λ b. b && neighbours_pass test (y ∷ xs)) (passes x y (all 0 1 x (omega arith) (omega arith)))
        ∙ pass_from (y ∷ xs) (λ i j d before within. all (suc i) (suc j) d (omega (arith, before)) (omega (arith, within)))

-- legs
pub waits_apart : (legs : List Leg) → neighbours_pass may_follow_leg legs ≡ true → HasNoNeighbouringWaits legs
waits_apart [] is = tt
waits_apart (Drive a ∷ []) is = tt
waits_apart (Wait k ∷ []) is = (tt, tt)
waits_apart (Drive a ∷ y ∷ legs) is = waits_apart (y ∷ legs) is
waits_apart (Wait k ∷ Drive b ∷ legs) is = (λ l same. absurd (cc), waits_apart (Drive b ∷ legs) is)
waits_apart (Wait k ∷ Wait l ∷ legs) is = absurd (cc)

pub waits_pass : (legs : List Leg) → HasNoNeighbouringWaits legs → neighbours_pass may_follow_leg legs ≡ true
waits_pass [] apart = refl
waits_pass (Drive a ∷ []) apart = refl
waits_pass (Wait k ∷ []) apart = refl
waits_pass (Drive a ∷ y ∷ legs) apart = waits_pass (y ∷ legs) apart
waits_pass (Wait k ∷ Drive b ∷ legs) apart = waits_pass (Drive b ∷ legs) apart.1
waits_pass (Wait k ∷ Wait l ∷ legs) apart = absurd (apart.0 l refl)

-- pieces
pub pieces_apart : (ps : List Piece) → All IsPiece ps → neighbours_pass may_follow_piece ps ≡ true → ArePieces ps
pieces_apart ps all is = record {
  each = all;
  apart = pairs_from may_follow_piece (λ p q. p.hi < q.lo) IsPiece (λ p q test. ltb-true p.hi q.lo test)
      (λ p q r piece before after. (let filled = piece.filled in omega (arith, filled, before, after))) ps all is;
}

pub pieces_pass : (ps : List Piece) → ArePieces ps → neighbours_pass may_follow_piece ps ≡ true
pieces_pass ps are = pass_from may_follow_piece (λ p q. p.hi < q.lo) (λ p q apart. lt-ltb p.hi q.lo apart) ps are.apart

-- entries
module _ {A : Type 0} where
  pub entries_rise : (es : List (NodeId × A)) → neighbours_pass may_follow_entry es ≡ true → AreRising es
  entries_rise es is =
      pairs_from may_follow_entry (λ d e. d.0.0 < e.0.0) (λ e. Unit) (λ d e test. ltb-true d.0.0 e.0.0 test)
      (λ c d e any before after. omega (arith, before, after)) es (λ k d within. tt) is

  pub entries_pass : (es : List (NodeId × A)) → AreRising es → neighbours_pass may_follow_entry es ≡ true
  entries_pass es rising = pass_from may_follow_entry (λ d e. d.0.0 < e.0.0) (λ d e less. lt-ltb d.0.0 e.0.0 less) es rising
