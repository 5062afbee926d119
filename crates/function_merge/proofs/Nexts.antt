-- Stretches on which one function is the lesser, from the values of both.
use Rattle.std.proofs.Common.{◌≡◌, ⊎_elim, ℕ, ◌≤◌, ◌<◌, ◌&&◌, min, max, leb, ltb, Bool, true, false, Option, Some, None, List, All, length, refl, ◌∙◌, ap}
use Rattle.std.proofs.Common.{sym, arith}
use Rattle.cost_functions.specs.Lines.{line_at, IsSmallPiece}
use Rattle.cost_functions.specs.Pieces.{value_at, ArePieces}
use Rattle.function_merge.proofs.FirstPieces.{first_of, first_is, first_value, first_none}
use Rattle.cost_functions.specs.declared.pieces.Piece.{Piece}
use Rattle.route_base.specs.declared.limits.TheConstants.{LAST_INSTANT}
use Rattle.function_merge.specs.Least.{least_of, is_better, least_at, better_at}
use Rattle.function_merge.specs.Inside.Segments.{piece_of, improves, IsNextSegment}
use Rattle.minute_sets.specs.Combination.{IsSwept}
use Rattle.route_base.specs.declared.types.Run.{Run}
use Rattle.std.proofs.lemmas.Bool.{cases_lt, le-leb, lt-leb, ltb-false, false≢true}
use Rattle.function_merge.proofs.Lowest.{min_left}
use Rattle.cost_functions.proofs.Values.{none_before}
use Rattle.function_merge.specs.declared.lower_envelope.Segment.{Segment}

module _ (f g : List Piece) (t : ℕ) where
  pub least_none : value_at f t ≡ None → value_at g t ≡ None → least_at f g t ≡ None
  least_none first second = ap (λ v. least_of v (value_at g t)) first ∙ second

  pub better_none : value_at g t ≡ None → better_at f g t ≡ false
  better_none second = ap (λ v. is_better (value_at f t) v) second

  pub least_first : (a : ℕ) → value_at f t ≡ Some a → value_at g t ≡ None → least_at f g t ≡ Some a
  least_first a first second = ap (λ v. least_of v (value_at g t)) first ∙ ap (λ v. least_of (Some a) v) second

  pub least_second : (b : ℕ) → value_at f t ≡ None → value_at g t ≡ Some b → least_at f g t ≡ Some b
  least_second b first second = ap (λ v. least_of v (value_at g t)) first ∙ second

  pub better_second : (b : ℕ) → value_at f t ≡ None → value_at g t ≡ Some b → better_at f g t ≡ true
  better_second b first second = ap (λ v. is_better v (value_at g t)) first ∙ ap (λ v. is_better None v) second

  pub least_both : (a b : ℕ) → value_at f t ≡ Some a → value_at g t ≡ Some b → least_at f g t ≡ Some (min a b)
  least_both a b first second = ap (λ v. least_of v (value_at g t)) first ∙ ap (λ v. least_of (Some a) v) second

  pub better_both : (a b : ℕ) → value_at f t ≡ Some a → value_at g t ≡ Some b → better_at f g t ≡ ltb b a
  better_both a b first second = ap (λ v. is_better v (value_at g t)) first ∙ ap (λ v. is_better (Some a) v) second

module _ (f g : List Piece) (from : ℕ) (s : Segment) (starts : from ≤ (piece_of s).lo) (filled : (piece_of s).lo ≤ (piece_of s).hi)
    (minutes : (piece_of s).hi ≤ LAST_INSTANT)
    (small : IsSmallPiece (piece_of s))
    (gap_f : (t : ℕ) → from ≤ t → t < (piece_of s).lo → value_at f t ≡ None) (gap_g : (t : ℕ) → from ≤ t → t < (piece_of s).lo → value_at g t ≡ None) where
  next_with : ((t : ℕ) → (piece_of s).lo ≤ t → t ≤ (piece_of s).hi → least_at f g t ≡ Some (line_at (piece_of s) t))
      → ((t : ℕ) → (piece_of s).lo ≤ t → t ≤ (piece_of s).hi → better_at f g t ≡ improves s) → IsNextSegment f g from s
  next_with least better = record {
    starts = starts;
    filled = filled;
    minutes = minutes;
    small = small;
    gap_least = λ t late early. least_none f g t (gap_f t late early) (gap_g t late early);
    gap_better = λ t late early. better_none f g t (gap_g t late early);
    least = least;
    better = better;
  }

module _ (f g : List Piece) (from : ℕ) (s : Segment) (filled : (piece_of s).lo ≤ (piece_of s).hi) (small : IsSmallPiece (piece_of s)) where
  -- a part of the first piece of f, where g has nothing
  pub next_in_first : (some : 1 ≤ length f) → ArePieces f → (piece_of s).lo ≡ max from (first_of f).lo → (piece_of s).hi ≤ (first_of f).hi
      → ((t : ℕ) → (piece_of s).lo ≤ t → line_at (piece_of s) t ≡ line_at (first_of f) t) → ((t : ℕ) → from ≤ t → t ≤ (piece_of s).hi → value_at g t ≡ None)
      → improves s ≡ false → IsNextSegment f g from s
  next_in_first some are lo hi line none improves =
      let last = (first_is f some are).minutes in
      next_with f g from s (omega (arith, lo)) filled (omega (arith, hi, last)) small
      (λ t late early. first_none f some are t (omega (arith, late, early, lo)))
      (λ t late early. none t late (omega (arith, early, filled)))
      (λ t late upto.
      least_first f g t (line_at (first_of f) t) (first_value f some are t (omega (arith, late, lo)) (omega (arith, upto, hi)))
      (none t (omega (arith, late, lo)) upto) ∙ ap Some (sym (line t late)))
      (λ t late upto. better_none f g t (none t (omega (arith, late, lo)) upto) ∙ sym improves)

  -- a part of the first piece of g, where f has nothing
  pub next_in_second : (some : 1 ≤ length g) → ArePieces g → (piece_of s).lo ≡ max from (first_of g).lo → (piece_of s).hi ≤ (first_of g).hi
      → ((t : ℕ) → (piece_of s).lo ≤ t → line_at (piece_of s) t ≡ line_at (first_of g) t) → ((t : ℕ) → from ≤ t → t ≤ (piece_of s).hi → value_at f t ≡ None)
      → improves s ≡ true → IsNextSegment f g from s
  next_in_second some are lo hi line none improves =
      let last = (first_is g some are).minutes in
      let value = λ (t : ℕ) (late : (piece_of s).lo ≤ t) (upto : t ≤ (piece_of s).hi). first_value g some are t (omega (arith, late, lo))
      (omega (arith, upto, hi)) in
      next_with f g from s (omega (arith, lo)) filled (omega (arith, hi, last)) small
      (λ t late early. none t late (omega (arith, early, filled)))
      (λ t late early. first_none g some are t (omega (arith, late, early, lo)))
      (λ t late upto. least_second f g t (line_at (first_of g) t) (none t (omega (arith, late, lo)) upto) (value t late upto) ∙ ap Some (sym (line t late)))
      (λ t late upto. better_second f g t (line_at (first_of g) t) (none t (omega (arith, late, lo)) upto) (value t late upto) ∙ sym improves)

  -- a part of the first pieces of both
  pub next_in_both : (some : 1 ≤ length f) → (one : 1 ≤ length g) → ArePieces f → ArePieces g → (piece_of s).lo ≡ max from (first_of f).lo
      → (piece_of s).lo ≡ max from (first_of g).lo → (piece_of s).hi ≤ (first_of f).hi → (piece_of s).hi ≤ (first_of g).hi
      → ((t : ℕ) → (piece_of s).lo ≤ t → t ≤ (piece_of s).hi → line_at (piece_of s) t ≡ min (line_at (first_of f) t) (line_at (first_of g) t))
      → ((t : ℕ) → (piece_of s).lo ≤ t → t ≤ (piece_of s).hi → ltb (line_at (first_of g) t) (line_at (first_of f) t) ≡ improves s) → IsNextSegment f g from s
  next_in_both some one are also lo low hi high line lower =
      let last = (first_is f some are).minutes in
      let a = λ (t : ℕ). line_at (first_of f) t in
      let b = λ (t : ℕ). line_at (first_of g) t in
      let first = λ (t : ℕ) (late : (piece_of s).lo ≤ t) (upto : t ≤ (piece_of s).hi). first_value f some are t (omega (arith, late, lo))
      (omega (arith, upto, hi)) in
      let second = λ (t : ℕ) (late : (piece_of s).lo ≤ t) (upto : t ≤ (piece_of s).hi). first_value g one also t (omega (arith, late, low))
      (omega (arith, upto, high)) in
      next_with f g from s (omega (arith, lo)) filled (omega (arith, hi, last)) small
      (λ t late early. first_none f some are t (omega (arith, late, early, lo)))
      (λ t late early. first_none g one also t (omega (arith, late, early, low)))
      (λ t late upto. least_both f g t (a t) (b t) (first t late upto) (second t late upto) ∙ ap Some (sym (line t late upto)))
      (λ t late upto. better_both f g t (a t) (b t) (first t late upto) (second t late upto) ∙ lower t late upto)

-- the same values of both give the same
pub least_same : (f g h k : List Piece) (t : ℕ) → value_at f t ≡ value_at h t → value_at g t ≡ value_at k t → least_at f g t ≡ least_at h k t
least_same f g h k t first second = ap (λ v. least_of v (value_at g t)) first ∙ ap (λ v. least_of (value_at h t) v) second

pub better_same : (f g h k : List Piece) (t : ℕ) → value_at f t ≡ value_at h t → value_at g t ≡ value_at k t → better_at f g t ≡ better_at h k t
better_same f g h k t first second = ap (λ v. is_better v (value_at g t)) first ∙ ap (λ v. is_better (value_at h t) v) second

pub from_start : (start t : ℕ) (b : Bool) → start ≤ t → (leb start t && b) ≡ b
from_start start t b le = ap (λ a. a && b) (le-leb start t le)

pub marked_skip : (wanted : ℕ → Bool) (set : List Run) (from to : ℕ) → from ≤ to → IsSwept wanted set from → ((t : ℕ) → from ≤ t → t < to → wanted t ≡ false)
    → IsSwept wanted set to
marked_skip wanted set from to le marked gap = record {
  before = λ t early. ⊎_elim (λ (soon : t < from). marked.before t soon) (λ (late : from ≤ t). marked.after t late ∙ sym (gap t late early)) (cases_lt t from);
  after = λ t late. marked.after t (omega (arith, le, late));
  begins = λ k d within. (let begin = marked.begins k d within in omega (arith, begin, le));
}

kept : (a b : Option ℕ) → is_better a b ≡ false → least_of a b ≡ a
kept None None e = refl
kept None (Some b) e = absurd (false≢true (sym e))
kept (Some a) None e = refl
kept (Some a) (Some b) e = ap Some (sym (min_left a b (ltb-false b a e)))

-- where the second isn't better, the first stands
pub least_kept : (f g : List Piece) (t : ℕ) → better_at f g t ≡ false → least_at f g t ≡ value_at f t
least_kept f g t worse = kept (value_at f t) (value_at g t) worse

alone : (o : Option ℕ) → least_of o None ≡ o
alone None = refl
alone (Some a) = refl

-- where the second has no value, the first stands
pub least_alone : (f g : List Piece) (t : ℕ) → value_at g t ≡ None → least_at f g t ≡ value_at f t
least_alone f g t none = ap (λ v. least_of (value_at f t) v) none ∙ alone (value_at f t)

pub before_start : (start t : ℕ) (b : Bool) → t < start → (leb start t && b) ≡ false
before_start start t b lt = ap (λ a. a && b) (lt-leb start t lt)

-- before the first piece of g
pub none_until : (g : List Piece) (first t : ℕ) → All (λ p. first ≤ p.lo) g → t < first → value_at g t ≡ None
none_until g first t begins early = none_before g t (λ k d within. (let begin = begins k d within in omega (arith, begin, early)))
