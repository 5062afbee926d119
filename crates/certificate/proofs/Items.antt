-- Items read from the front one after another.
use Rattle.std.proofs.Common.{◌≡◌, ◌≢◌, ℕ, ◌≤◌, ◌<◌, zero, suc, Option, Some, None, List, [], ◌∷◌, ◌++◌, length, map, flat_map, All, append_assoc, append-nil}
use Rattle.std.proofs.Common.{length-append, refl, sym, ◌∙◌, ap, subst, arith}
use Rattle.std.specs.Prelude.{option_map, unwrap_or}
use Rattle.std.proofs.lemmas.List.Concat.{flat_map_single}
use Rattle.std.proofs.lemmas.List.Elements.{All-nil, All-cons, All-head, All-tail}
use Rattle.certificate.specs.CertificateText.{Tokens}
use Rattle.certificate.specs.Inside.Reading.{Reading, first_line, items_in, items_up_to, Takes, AreTaken}
use Rattle.certificate.proofs.CutLines.{read_first, first_found}

module _ {A : Type 0} (read : Reading A) where
  items_end : (k : ℕ) (lines : List Tokens) → read lines ≡ None → items_up_to read k lines ≡ ([], lines)
  items_end zero lines is = refl
  items_end (suc k) lines is = ap (λ o. unwrap_or (option_map (λ r. (r.0 ∷ (items_up_to read k r.1).0, (items_up_to read k r.1).1)) o) ([], lines)) is

  items_next : (k : ℕ) (lines : List Tokens) (x : A) (others : List Tokens) → read lines ≡ Some (x, others)
      → items_up_to read (suc k) lines ≡ (x ∷ (items_up_to read k others).0, (items_up_to read k others).1)
  items_next k lines x others is = ap (λ o. unwrap_or (option_map (λ r. (r.0 ∷ (items_up_to read k r.1).0, (items_up_to read k r.1).1)) o) ([], lines)) is

  pub taken_none : (lines : List Tokens) → AreTaken read lines [] lines
  taken_none lines = record { left = length lines; enough = omega arith; so_far = refl }

  pub taken_more : (lines : List Tokens) (items : List A) (others : List Tokens) (x : A) (behind : List Tokens) → AreTaken read lines items others
      → read others ≡ Some (x, behind) → length behind < length others → AreTaken read lines (items ++ x ∷ []) behind
  taken_more lines items others x behind taken is fewer = more taken.left taken.enough taken.so_far
    where
      more : (left : ℕ) → length others ≤ left → items_in read lines ≡ (items ++ (items_up_to read left others).0, (items_up_to read left others).1)
          → AreTaken read lines (items ++ x ∷ []) behind
      more zero enough so_far = absurd (omega (arith, enough, fewer))
      more (suc k) enough so_far = record {
        left = k;
        enough = omega (arith, enough, fewer);
        so_far = so_far ∙ ap (λ r. (items ++ r.0, r.1)) (items_next k others x behind is)
            ∙ ap (λ xs. (xs, (items_up_to read k behind).1)) (sym (append_assoc items (x ∷ []) (items_up_to read k behind).0));
      }

  pub taken_all : (lines : List Tokens) (items : List A) (others : List Tokens) → AreTaken read lines items others → read others ≡ None
      → (items, others) ≡ items_in read lines
  taken_all lines items others taken is =
      sym (taken.so_far ∙ ap (λ r. (items ++ r.0, r.1)) (items_end taken.left others is) ∙ ap (λ xs. (xs, others)) (append-nil items))

  -- an answer that is known
  pub taken_some : (lines : List Tokens) (o : Option A) (others : List Tokens) (x : A) → Takes read lines o others → o ≡ Some x → read lines ≡ Some (x, others)
  taken_some lines None others x takes is = absurd (cc)
  taken_some lines (Some y) others x takes is = takes ∙ ap (λ w. Some (unwrap_or w y, others)) is

  pub taken_gone : (lines : List Tokens) (o : Option A) (others : List Tokens) → Takes read lines o others → o ≡ None → read lines ≡ None
  taken_gone lines None others takes is = takes
  taken_gone lines (Some y) others takes is = absurd (cc)

  -- all that is read, where the next answer is none and takes no lines
  pub taken_end : (lines : List Tokens) (items : List A) (others left : List Tokens) (o : Option A) → AreTaken read lines items others
      → Takes read others o left → o ≡ None → left ≡ others → (items, left) ≡ items_in read lines
  taken_end lines items others left o taken takes is kept = subst (λ ls. (items, ls) ≡ items_in read lines) (sym kept)
      (taken_all lines items others taken (taken_gone others o left takes is))

  -- no lines come
  module _ (shorter : (lines : List Tokens) (x : A) (others : List Tokens) → read lines ≡ Some (x, others) → length others < length lines) where
    left_of : (k : ℕ) (lines : List Tokens) → length (items_up_to read k lines).1 ≤ length lines
    left_of zero lines = omega arith
    left_of (suc k) lines = by (left_of k) (read lines) refl
      where
        by : ((ls : List Tokens) → length (items_up_to read k ls).1 ≤ length ls) → (o : Option (A × List Tokens)) → read lines ≡ o
            → length (items_up_to read (suc k) lines).1 ≤ length lines
        by more None is = omega (arith, ap (λ (r : List A × List Tokens). length r.1) (items_end (suc k) lines is))
        by more (Some r) is = omega (arith, ap (λ (r : List A × List Tokens). length r.1) (items_next k lines r.0 r.1 is), more r.1, shorter lines r.0 r.1 is)

    pub items_left : (lines : List Tokens) (xs : List A) (others : List Tokens) → items_in read lines ≡ (xs, others) → length others ≤ length lines
    items_left lines xs others is = omega (arith, left_of (length lines) lines, ap (λ (r : List A × List Tokens). length r.1) is)

    pub items_fewer : (lines : List Tokens) (x : A) (behind : List Tokens) (xs : List A) (others : List Tokens) → read lines ≡ Some (x, behind)
        → items_in read lines ≡ (xs, others)
        → (length others < length lines) × (xs ≢ [])
    items_fewer [] x behind xs others first is = absurd (let fewer = shorter [] x behind first in omega (arith, fewer))
    items_fewer (line ∷ lines) x behind xs others first is =
        let next = sym is ∙ items_next (length lines) (line ∷ lines) x behind first in (
          omega (arith, ap (λ (r : List A × List Tokens). length r.1) next, left_of (length lines) behind, shorter (line ∷ lines) x behind first),
          λ none. absurd (omega (arith, ap (λ (r : List A × List Tokens). length r.0) next, ap length none)),
        )

  -- both ways between items and their lines
  module _ (spell : A → List Tokens) where
    module _ (P : A → Type 0)
        (each : (lines : List Tokens) (x : A) (others : List Tokens) → read lines ≡ Some (x, others) → (lines ≡ spell x ++ others) × P x) where
      abbrev FoundItems : List Tokens → List A × List Tokens → Type 0
      FoundItems lines r = (lines ≡ flat_map spell r.0 ++ r.1) × All P r.0

      up_to_found : (k : ℕ) (lines : List Tokens) → FoundItems lines (items_up_to read k lines)
      up_to_found zero lines = (refl, All-nil P)
      up_to_found (suc k) lines = by (up_to_found k) (read lines) refl
        where
          by : ((ls : List Tokens) → FoundItems ls (items_up_to read k ls)) → (o : Option (A × List Tokens)) → read lines ≡ o
              → FoundItems lines (items_up_to read (suc k) lines)
          by more None is = subst (FoundItems lines) (sym (items_end (suc k) lines is)) (refl, All-nil P)
          by more (Some r) is =
              let first = each lines r.0 r.1 is in
              let others = more r.1 in
              let found = items_up_to read k r.1 in
              subst (FoundItems lines) (sym (items_next k lines r.0 r.1 is)) (
                first.0 ∙ ap (λ ls. spell r.0 ++ ls) others.0 ∙ sym (append_assoc (spell r.0) (flat_map spell found.0) found.1),
                All-cons P r.0 found.0 first.1 others.1,
              )

      pub items_found : (lines : List Tokens) (xs : List A) (others : List Tokens) → items_in read lines ≡ (xs, others)
          → (lines ≡ flat_map spell xs ++ others) × All P xs
      items_found lines xs others is = subst (FoundItems lines) is (up_to_found (length lines) lines)

    -- each item is read from its lines, and then no other
    abbrev pub AreReadAgain : List A → List Tokens → Type 0
    AreReadAgain [] others = read others ≡ None
    AreReadAgain (x ∷ xs) others = (0 < length (spell x)) × (read (spell x ++ (flat_map spell xs ++ others)) ≡ Some (x, flat_map spell xs ++ others))
        × AreReadAgain xs others

    up_to_again : (xs : List A) (others : List Tokens) (k : ℕ) → length xs ≤ k → AreReadAgain xs others
        → items_up_to read k (flat_map spell xs ++ others) ≡ (xs, others)
    up_to_again [] others k enough end = items_end k others end
    up_to_again (x ∷ xs) others zero enough are = absurd (omega (arith, enough))
    up_to_again (x ∷ xs) others (suc k) enough are =
        ap (items_up_to read (suc k)) (append_assoc (spell x) (flat_map spell xs) others)
        ∙ items_next k (spell x ++ (flat_map spell xs ++ others)) x (flat_map spell xs ++ others) are.1
        ∙ ap (λ (r : List A × List Tokens). (x ∷ r.0, r.1)) (up_to_again xs others k (omega (arith, enough)) are.2)

    long : (xs : List A) (others : List Tokens) → AreReadAgain xs others → length xs ≤ length (flat_map spell xs)
    long [] others end = omega arith
    long (x ∷ xs) others are = omega (arith, are.0, long xs others are.2, length-append (spell x) (flat_map spell xs))

    pub items_again : (xs : List A) (others : List Tokens) → AreReadAgain xs others → items_in read (flat_map spell xs ++ others) ≡ (xs, others)
    items_again xs others are =
        up_to_again xs others (length (flat_map spell xs ++ others)) (omega (arith, long xs others are, length-append (flat_map spell xs) others)) are

-- the same where each item has one line
module _ {A : Type 0} (read : Tokens → Option A) (line : A → Tokens) where
  pub lines_again : (xs : List A) (others : List Tokens) → All (λ x. read (line x) ≡ Some x) xs → 0 < length others → first_line read others ≡ None
      → items_in (first_line read) (map line xs ++ others) ≡ (xs, others)
  lines_again xs others all some end =
      ap (λ ls. items_in (first_line read) (ls ++ others)) (sym (flat_map_single line xs))
      ∙ items_again (first_line read) (λ x. line x ∷ []) xs others (are xs all)
    where
      are : (ys : List A) → All (λ x. read (line x) ≡ Some x) ys → AreReadAgain (first_line read) (λ x. line x ∷ []) ys others
      are [] rest = end
      are (y ∷ ys) rest = (
        omega arith,
        read_first read (line y) (flat_map (λ x. line x ∷ []) ys ++ others) y (omega (arith, some, length-append (flat_map (λ x. line x ∷ []) ys) others))
            (All-head (λ x. read (line x) ≡ Some x) y ys rest),
        are ys (All-tail (λ x. read (line x) ≡ Some x) y ys rest),
      )

  module _ (P : A → Type 0) (each : (tokens : Tokens) (x : A) → read tokens ≡ Some x → (tokens ≡ line x) × P x) where
    pub lines_found : (lines : List Tokens) (xs : List A) (others : List Tokens) → items_in (first_line read) lines ≡ (xs, others)
        → (lines ≡ map line xs ++ others) × All P xs
    lines_found lines xs others is =
        let found = items_found (first_line read) (λ x. line x ∷ []) P first lines xs others is in
        (found.0 ∙ ap (λ ls. ls ++ others) (flat_map_single line xs), found.1)
      where
        first : (ls : List Tokens) (x : A) (rest : List Tokens) → first_line read ls ≡ Some (x, rest) → (ls ≡ (line x ∷ []) ++ rest) × P x
        first ls x rest e =
            let parts = first_found read ls x rest e in
            let same = each parts.line x parts.is_read in
            (parts.lines_are ∙ ap (λ l. l ∷ rest) same.0, same.1)
