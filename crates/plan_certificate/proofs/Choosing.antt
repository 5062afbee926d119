-- Entries that are made from the items of nodes one after another.
use Rattle.std.proofs.Common.{◌≡◌, ⊎_elim, ℕ, suc, ◌+◌, ◌≤◌, ◌<◌, cond, Option, Some, None, List, [], ◌∷◌, ◌++◌, length, All}
use Rattle.std.proofs.Common.{refl, sym, ◌∙◌, ap, subst, arith}
use Rattle.std.specs.Prelude.{slice_get}
use Rattle.std.proofs.lemmas.Bool.{cases_lt, cases_eq, eq-eqb, ne_eqb}
use Rattle.std.proofs.lemmas.List.Elements.{All-nil, All-push, All-weaker, All-head, All-tail}
use Rattle.std.proofs.lemmas.List.Quantifiers.{all_pairs_push}
use Rattle.route_base.specs.Net.{at_number}
use Rattle.route_base.specs.declared.types.NodeId.{NodeId}
use Rattle.cost_functions.specs.declared.pieces.Piece.{Piece}
use Rattle.certificate.specs.ByNode.{item_at, AreRising}
use Rattle.certificate.proofs.Entries.{item_nowhere}
use Rattle.plan_certificate.specs.Inside.Entries.{AreEntriesOf, some_pieces}

module _ {A : Type 0} (e : NodeId × A) (es : List (NodeId × A)) (v : ℕ) where
  item_here : e.0.0 ≡ v → item_at (e ∷ es) v ≡ Some e.1
  item_here same = ap (λ b. cond b (Some e.1) (item_at es v)) (eq-eqb e.0.0 v same)

  item_there : (e.0.0 ≡ v → ⊥) → item_at (e ∷ es) v ≡ item_at es v
  item_there other = ap (λ b. cond b (Some e.1) (item_at es v)) (ne_eqb e.0.0 v other)

-- an entry behind others is found at its node alone
item_last : {A : Type 0} (es : List (NodeId × A)) (e : NodeId × A) (v : ℕ) → e.0.0 ≡ v → All (λ d. d.0.0 < v) es → item_at (es ++ e ∷ []) v ≡ Some e.1
item_last [] e v is before = item_here e [] v is
item_last {A} (d ∷ es) e v is before =
    let apart : d.0.0 < v = All-head (λ (f : NodeId × A). f.0.0 < v) d es before in
    item_there d (es ++ e ∷ []) v (λ same. omega (arith, apart, same))
    ∙ item_last es e v is (All-tail (λ (f : NodeId × A). f.0.0 < v) d es before)

item_front : {A : Type 0} (es : List (NodeId × A)) (e : NodeId × A) (v : ℕ) → (e.0.0 ≡ v → ⊥) → item_at (es ++ e ∷ []) v ≡ item_at es v
item_front [] e v other = item_there e [] v other
item_front (d ∷ es) e v other = ⊎_elim
    (λ (same : d.0.0 ≡ v). item_here d (es ++ e ∷ []) v same ∙ sym (item_here d es v same))
    (λ (apart : d.0.0 ≡ v → ⊥). item_there d (es ++ e ∷ []) v apart ∙ item_front es e v other ∙ sym (item_there d es v apart))
    (cases_eq d.0.0 v)

-- the entries are those of the nodes up to n
pub record AreChosen {A : Type 0} (items : ℕ → Option A) (n : ℕ) (entries : List (NodeId × A)) : Type 0 where
  pub rising : AreRising entries
  pub upto : All (λ e. e.0.0 ≤ n) entries
  pub at : (v : ℕ) → v ≤ n → item_at entries v ≡ items v

module _ {A : Type 0} (items : ℕ → Option A) where
  -- no entry yet
  pub none_chosen : items 0 ≡ None → AreChosen items 0 []
  none_chosen none = record {
    rising = λ i j d lt within. absurd (omega (arith, within));
    upto = All-nil (λ (e : NodeId × A). e.0.0 ≤ 0);
    at = λ v le. let e : 0 ≡ v = omega (arith, le) in subst (λ n. None ≡ items n) e (sym none);
  }

  module _ (n : ℕ) (entries : List (NodeId × A)) (chosen : AreChosen items n entries) where
    pub before_next : All (λ e. e.0.0 < n + 1) entries
    before_next = All-weaker (λ (e : NodeId × A). e.0.0 ≤ n) (λ e. e.0.0 < n + 1) (λ e le. omega (arith, le)) entries chosen.upto

    nothing_at : item_at entries (n + 1) ≡ None
    nothing_at = item_nowhere entries (n + 1)
        (All-weaker (λ (e : NodeId × A). e.0.0 ≤ n) (λ e. e.0.0 ≡ n + 1 → ⊥) (λ e le same. omega (arith, le, same)) entries chosen.upto)

    -- the next node has none
    pub choose_none : items (n + 1) ≡ None → AreChosen items (n + 1) entries
    choose_none none = record {
      rising = chosen.rising;
      upto = All-weaker (λ (e : NodeId × A). e.0.0 ≤ n) (λ e. e.0.0 ≤ n + 1) (λ e le. omega (arith, le)) entries chosen.upto;
      at = λ v le. ⊎_elim
          (λ (before : v < n + 1). chosen.at v (omega (arith, before)))
          (λ (here : n + 1 ≤ v). let same : n + 1 ≡ v = omega (arith, here, le) in
          subst (λ w. item_at entries w ≡ items w) same (nothing_at ∙ sym none))
          (cases_lt v (n + 1));
    }

    -- the next node has this one
    pub choose : (e : NodeId × A) → e.0.0 ≡ n + 1 → items (n + 1) ≡ Some e.1 → AreChosen items (n + 1) (entries ++ e ∷ [])
    choose e node is = record {
      rising = all_pairs_push (λ (d f : NodeId × A). d.0.0 < f.0.0) entries e chosen.rising
          (λ k d within. omega (arith, chosen.upto k d within, node));
      upto = All-push (λ (f : NodeId × A). f.0.0 ≤ n + 1) entries e
          (All-weaker (λ (f : NodeId × A). f.0.0 ≤ n) (λ f. f.0.0 ≤ n + 1) (λ f le. omega (arith, le)) entries chosen.upto)
          (omega (arith, node));
      at = λ v le. ⊎_elim
          (λ (before : v < n + 1). item_front entries e v (λ same. omega (arith, same, node, before)) ∙ chosen.at v (omega (arith, before)))
          (λ (here : n + 1 ≤ v). let same : n + 1 ≡ v = omega (arith, here, le) in
          subst (λ w. item_at (entries ++ e ∷ []) w ≡ items w) same (item_last entries e (n + 1) node before_next ∙ sym is))
          (cases_lt v (n + 1));
    }

    -- no node behind has an item
    pub all_chosen : ((v : ℕ) → n < v → items v ≡ None) → AreEntriesOf items entries
    all_chosen none = record {
      rising = chosen.rising;
      at = λ v. ⊎_elim
          (λ (behind : n < v). item_nowhere entries v
          (All-weaker (λ (e : NodeId × A). e.0.0 ≤ n) (λ e. e.0.0 ≡ v → ⊥) (λ e le same. omega (arith, le, same, behind)) entries chosen.upto)
          ∙ sym (none v behind))
          (λ (within : v ≤ n). chosen.at v within)
          (cases_lt n v);
    }

-- the item behind others, by its number
pub next_item : {A : Type 0} (done rest all : List A) (x : A) → done ++ x ∷ rest ≡ all → at_number all (length done + 1) ≡ Some x
next_item {A} done rest all x whole = subst (λ (w : List A). at_number w (length done + 1) ≡ Some x) whole
    (let e : length done + 1 ≡ suc (length done) = omega arith in ap (λ n. at_number (done ++ x ∷ rest) n) e ∙ here done)
  where
    here : (xs : List A) → slice_get (xs ++ x ∷ rest) (length xs) ≡ Some x
    here [] = refl
    here (y ∷ xs) = here xs

pub pieces_there : (ps : List Piece) → 1 ≤ length ps → some_pieces (Some ps) ≡ Some ps
pieces_there [] some = absurd (omega (arith, some))
pieces_there (p ∷ ps) some = refl

pub pieces_missing : (ps : List Piece) → length ps ≡ 0 → some_pieces (Some ps) ≡ None
pieces_missing [] none = refl
pieces_missing (p ∷ ps) none = absurd (omega (arith, none))
