-- Lists of pieces with a mark between them.
use Rattle.std.proofs.Common.{◌≡◌, Bool, true, false, cond, not, List, [], ◌∷◌, ◌++◌, Option, Some, None, refl, sym, ap, subst, ◌∙◌}
use Rattle.std.specs.Prelude.{option_and_then, option_map}
use Rattle.std.specs.List.{onto_first, take_while}
use Rattle.std.proofs.lemmas.List.Sums.{take_while-cons}
use Rattle.opening_hours.specs.declared.tokens.Token.{Token}
use Rattle.opening_hours.specs.declared.tokens.Part.{Part}
use Rattle.opening_hours.specs.Grammar.{Joined}
use Rattle.opening_hours.specs.Grammar as grammar
use Rattle.opening_hours.specs.Inside.Parser.{belongs, behind, pieces, all_read}
use Rattle.opening_hours.proofs.Parts.{later_pieces, pieces_are}

-- each token passes
abbrev pub Made : (Token → Bool) → List Token → Type 0
Made p [] = Unit {0}
Made p (t ∷ ts) = (p t ≡ true) × Made p ts

-- there is a first token, and it passes
abbrev pub Heads : (Token → Bool) → List Token → Type 0
Heads p [] = ⊥
Heads p (t ∷ ts) = p t ≡ true

-- the first token, if there is one, passes
abbrev pub Starts : (Token → Bool) → List Token → Type 0
Starts p [] = Unit {0}
Starts p (t ∷ ts) = p t ≡ true

-- the first item, if there is one, fails
abbrev pub Stops : {A : Type 0} → (A → Bool) → List A → Type 0
Stops p [] = Unit {0}
Stops p (t ∷ ts) = p t ≡ false

pub Made-append : (p : Token → Bool) (ts us : List Token) → Made p ts → Made p us → Made p (ts ++ us)
Made-append p [] us h k = k
Made-append p (t ∷ ts) us h k = (h.0, Made-append p ts us h.1 k)

pub Made-weaker : (p q : Token → Bool) → ((t : Token) → p t ≡ true → q t ≡ true) → (ts : List Token) → Made p ts → Made q ts
Made-weaker p q weaker [] h = tt
Made-weaker p q weaker (t ∷ ts) h = (weaker t h.0, Made-weaker p q weaker ts h.1)

pub Heads-append : (p : Token → Bool) (ts us : List Token) → Heads p ts → Heads p (ts ++ us)
Heads-append p [] us h = absurd h
Heads-append p (t ∷ ts) us h = h

pub Starts-append : (p : Token → Bool) (ts us : List Token) → Starts p ts → Starts p us → Starts p (ts ++ us)
Starts-append p [] us h k = k
Starts-append p (t ∷ ts) us h k = h

pub Starts-heads : (p : Token → Bool) (ts : List Token) → Heads p ts → Starts p ts
Starts-heads p [] h = absurd h
Starts-heads p (t ∷ ts) h = h

pub Stops-starts : (p q : Token → Bool) → ((t : Token) → p t ≡ true → q t ≡ false) → (ts : List Token) → Starts p ts → Stops q ts
Stops-starts p q fails [] h = tt
Stops-starts p q fails (t ∷ ts) h = fails t h

front-nil : (p : Token → Bool) (us : List Token) → Stops p us → take_while p us ≡ []
front-nil p [] h = refl
front-nil p (u ∷ us) h = take_while-cons p u us ∙ ap (λ b. cond b (u ∷ take_while p us) []) h

pub front_made : (p : Token → Bool) (ts us : List Token) → Made p ts → Stops p us → take_while p (ts ++ us) ≡ ts
front_made p [] us h s = front-nil p us s
front_made p (t ∷ ts) us h s = take_while-cons p t (ts ++ us) ∙ ap (λ b. cond b (t ∷ take_while p (ts ++ us)) []) h.0
    ∙ ap (λ (vs : List Token). t ∷ vs) (front_made p ts us h.1 s)

pub behind_made : (p : Token → Bool) (ts us : List Token) → Made p ts → Stops p us → behind p (ts ++ us) ≡ us
behind_made p [] [] h s = refl
behind_made p [] (u ∷ us) h s = ap (λ b. cond b (behind p us) (u ∷ us)) s
behind_made p (t ∷ ts) us h s = ap (λ b. cond b (behind p (ts ++ us)) (t ∷ (ts ++ us))) h.0 ∙ behind_made p ts us h.1 s

-- the two parts at the first token that fails, put together again
pub front_behind : (p : Token → Bool) (ts : List Token) → take_while p ts ++ behind p ts ≡ ts
front_behind p [] = refl
front_behind p (t ∷ ts) =
    let rest = front_behind p ts in
    ap (λ (us : List Token). us ++ cond (p t) (behind p ts) (t ∷ ts)) (take_while-cons p t ts)
    ∙ elim (p t) as (λ b. cond b (t ∷ take_while p ts) [] ++ cond b (behind p ts) (t ∷ ts) ≡ t ∷ ts)
    [ true ↦ ap (λ (us : List Token). t ∷ us) rest | false ↦ refl ]

-- pieces with a mark between them, put together
abbrev pub join : Token → List (List Token) → List Token
join mark [] = []
join mark (p ∷ []) = p
join mark (p ∷ q ∷ ps) = p ++ mark ∷ join mark (q ∷ ps)

-- there is a first piece
abbrev pub Heads2 : List (List Token) → Type 0
Heads2 [] = ⊥
Heads2 (p ∷ ps) = Unit {0}

join-onto : (mark t : Token) (ps : List (List Token)) → Heads2 ps → join mark (onto_first t ps) ≡ t ∷ join mark ps
join-onto mark t [] h = absurd h
join-onto mark t (p ∷ []) h = refl
join-onto mark t (p ∷ q ∷ ps) h = refl

join-nil : (mark : Token) (ps : List (List Token)) → Heads2 ps → join mark ([] ∷ ps) ≡ mark ∷ join mark ps
join-nil mark [] h = absurd h
join-nil mark (p ∷ ps) h = refl

pub join_pieces : (part : Part) (mark : Token) → ((t : Token) → belongs part t ≡ false → t ≡ mark) → (ts : List Token)
    → join mark (pieces part ts) ≡ ts
join_pieces part mark ends [] = refl
join_pieces part mark ends (t ∷ ts) =
    let rest = join_pieces part mark ends ts in
    let some : Heads2 (pieces part ts) = subst Heads2 (sym (pieces_are part ts)) tt in
    let by : (b : Bool) → belongs part t ≡ b → join mark (cond (not b) ([] ∷ pieces part ts) (onto_first t (pieces part ts))) ≡ t ∷ ts =
    λ b. elim b as (λ v. belongs part t ≡ v → join mark (cond (not v) ([] ∷ pieces part ts) (onto_first t (pieces part ts))) ≡ t ∷ ts) [
      | true ↦ λ e. join-onto mark t (pieces part ts) some ∙ ap (λ (us : List Token). t ∷ us) rest
      | false ↦ λ e. join-nil mark (pieces part ts) some
          ∙ ap (λ (u : Token). u ∷ join mark (pieces part ts)) (sym (ends t e)) ∙ ap (λ (us : List Token). t ∷ us) rest
    ] in
    by (belongs part t) refl

module _ {A : Type 0} (Is : List Token → A → Type 0) (f : List Token → Option A) (part : Part) (mark : Token) where
  some_map : (x : A) (o : Option (List A)) (xs : List A) → option_map (λ ys. x ∷ ys) o ≡ Some xs → (ys : List A) × (o ≡ Some ys) × (x ∷ ys ≡ xs)
  some_map x (Some ys) xs e = (ys, refl, cc)
  some_map x None xs e = absurd cc

  some_then : (o : Option A) (rest : Option (List A)) (xs : List A)
      → option_and_then (λ x. option_map (λ ys. x ∷ ys) rest) o ≡ Some xs → (x : A) × (ys : List A) × (o ≡ Some x) × (rest ≡ Some ys) × (x ∷ ys ≡ xs)
  some_then (Some x) rest xs e = let m = some_map x rest xs e in (x, m.0, refl, m.1, m.2)
  some_then None rest xs e = absurd cc

  read_joined : ((ts : List Token) (x : A) → f ts ≡ Some x → Is ts x) → (ps : List (List Token)) (xs : List A) → Heads2 ps
      → all_read f ps ≡ Some xs → Joined Is mark (join mark ps) xs
  read_joined found [] xs h e = absurd h
  read_joined found (p ∷ []) xs h e =
      let s = some_then (f p) (Some []) xs e in
      let last : [] ≡ s.1 = cc in
      let whole : s.0 ∷ [] ≡ xs = ap (λ (ys : List A). s.0 ∷ ys) last ∙ s.4 in
      subst (λ (ys : List A). Joined Is mark p ys) whole (grammar.one (found p s.0 s.2))
  read_joined found (p ∷ q ∷ ps) xs h e =
      let s = some_then (f p) (all_read f (q ∷ ps)) xs e in
      subst (λ (ys : List A). Joined Is mark (p ++ mark ∷ join mark (q ∷ ps)) ys) s.4
      (grammar.more (found p s.0 s.2) (read_joined found (q ∷ ps) s.1 tt s.3))

  pub list_found : ((t : Token) → belongs part t ≡ false → t ≡ mark) → ((ts : List Token) (x : A) → f ts ≡ Some x → Is ts x)
      → (ts : List Token) (xs : List A) → all_read f (pieces part ts) ≡ Some xs → Joined Is mark ts xs
  list_found ends found ts xs e =
      subst (λ (us : List Token). Joined Is mark us xs) (join_pieces part mark ends ts)
      (read_joined found (pieces part ts) xs (subst Heads2 (sym (pieces_are part ts)) tt) e)

  one_piece : (ts : List Token) → Made (belongs part) ts → pieces part ts ≡ ts ∷ []
  one_piece [] h = refl
  one_piece (t ∷ ts) h = ap (λ b. cond (not b) ([] ∷ pieces part ts) (onto_first t (pieces part ts))) h.0 ∙ ap (onto_first t) (one_piece ts h.1)

  pub list_again : belongs part mark ≡ false → ((ts : List Token) (x : A) → Is ts x → Made (belongs part) ts)
      → ((ts : List Token) (x : A) → Is ts x → f ts ≡ Some x)
      → {ts : List Token} {xs : List A} → Joined Is mark ts xs → all_read f (pieces part ts) ≡ Some xs
  list_again stops made again (grammar.one {ts = ts} {x = x} p) = ap (all_read f) (one_piece ts (made ts x p)) ∙ rw (again ts x p) refl
  list_again stops made again (grammar.more {ts = ts} {us = us} {x = x} {xs = xs} p ps) =
      let front = front_made (belongs part) ts (mark ∷ us) (made ts x p) stops in
      let rest = behind_made (belongs part) ts (mark ∷ us) (made ts x p) stops in
      let cut : pieces part (ts ++ mark ∷ us) ≡ ts ∷ pieces part us = pieces_are part (ts ++ mark ∷ us)
      ∙ ap (λ (vs : List Token). vs ∷ later_pieces part (behind (belongs part) (ts ++ mark ∷ us))) front
      ∙ ap (λ (vs : List Token). ts ∷ later_pieces part vs) rest in
      ap (all_read f) cut ∙ rw (again ts x p, list_again stops made again ps) refl
