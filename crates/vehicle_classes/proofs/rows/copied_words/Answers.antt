use Rattle.std.proofs.Common.{ℕ, List, [], ◌∷◌, ◌++◌, Vec, Global, map, ap, ◌∙◌}
use Rattle.std.proofs.lemmas.List.{map-append}
use Rattle.vehicle_classes.proofs.CopiedWords.{kept, left}
use Rattle.vehicle_classes.proofs.rows.copied_words.Goals.{then-not-is_empty+in_ok-from_slice+in_ok-push, else-not-is_empty}
use Rattle.vehicle_classes.proofs.rows.copied_words.Goals as goal

abbrev copied : List (Vec ℕ Global) → List (List ℕ)
copied words = map (λ (w : Vec ℕ Global). w.items) words

pub loop-piece-preserved : goal.loop-piece-preserved
loop-piece-preserved c =
    let ps = c.args.pieces.now in
    let i = c.loop-piece.piece-index in
    let before = c.loop-piece.words.items in
    elim c.if-not-is_empty.branch [
      | then-not-is_empty+in_ok-from_slice+in_ok-push w ↦
          ap (λ (v : Vec (Vec ℕ Global) Global). copied v.items) w.words-is ∙ ap copied w.in_ok-push.ensures.items
          ∙ map-append (λ (w : Vec ℕ Global). w.items) before (w.in_ok-from_slice.field-0 ∷ [])
          ∙ ap (λ (x : List ℕ). copied before ++ x ∷ []) w.in_ok-from_slice.ensures.items
          ∙ kept ps i _ (copied before) c.loop-piece-test.true c.loop-piece.invariant w.if-not-is_empty.ensures
      | else-not-is_empty w ↦
          ap (λ (v : Vec (Vec ℕ Global) Global). copied v.items) w.words-is
          ∙ left ps i _ (copied before) c.loop-piece-test.true c.loop-piece.invariant w.if-not-is_empty.ensures
    ]
