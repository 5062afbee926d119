-- Single lines, both ways: each line that can be written is read as what it writes, and a line that is read is written so.
use Rattle.std.proofs.Common.{◌≡◌, ⊎_elim, ◌==◌, ◌&&◌, ◌||◌, ℕ, ◌^◌, ◌≤◌, ◌<◌, Bool, true, false, cond, Option, Some, None, List, [], ◌∷◌, refl, sym, ◌∙◌, ap}
use Rattle.std.proofs.Common.{subst, arith, rules}
use Rattle.std.specs.Prelude.{codes, decimal, nat_le, nat_lt, option_map, option_and_then}
use Rattle.std.specs.Str.{bytes_eq}
use Rattle.std.proofs.lemmas.Bool.{cases_lt, le-leb, lt-leb, lt-ltb, le-ltb, eq-eqb, ne_eqb, eqb-true, and_parts}
use Rattle.std.proofs.lemmas.Option.{same_Some}
use Rattle.std.proofs.lemmas.Slice.Eq.{bytes_eq-Decides}
use Rattle.route_base.specs.Digits.{plain_number_of}
use Rattle.route_base.specs.declared.limits.TheConstants.{HIGHEST_COST, LAST_INSTANT, MOST_ARCS, MOST_NODES}
use Rattle.route_base.specs.declared.types.Bound.{Bound}
use Rattle.route_base.specs.declared.types.Leg.{Leg}
use Rattle.route_base.specs.declared.types.Leg.TheVariants.{Drive, Wait}
use Rattle.route_base.specs.declared.types.NodeId.{NodeId}
use Rattle.route_base.specs.declared.types.Pair.{Pair}
use Rattle.route_base.proofs.Logic.{then_some, map_some, behind_test}
use Rattle.cost_functions.specs.Lines.{IsPiece}
use Rattle.cost_functions.specs.declared.TheConstants.{HIGHEST_PIECE_COST}
use Rattle.cost_functions.specs.declared.pieces.Piece.{Piece}
use Rattle.certificate.specs.CertificateText.{Tokens, leg_line, bound_line, piece_line}
use Rattle.certificate.specs.Writable.{IsWritableLeg, IsWritableNode}
use Rattle.certificate.specs.declared.limits.TheConstants.{LONGEST_BOUND}
use Rattle.certificate.specs.Inside.LineForms.{number_within, node_from, leg_in, pair_from, pair_in, bound_from, bound_in, piece_from, piece_in, piece_at}
use Rattle.certificate.specs.Inside.LineForms.{count_in}
use Rattle.certificate.proofs.PlainNumbers.{plain_again, plain_found}

pub same_bytes : (w : List ℕ) → bytes_eq w w ≡ true
same_bytes w = search rules

le_true : (m n : ℕ) → nat_le m n ≡ true → m ≤ n
le_true m n h = ⊎_elim (λ (over : n < m). absurd (let bad = sym h ∙ lt-leb m n over in cc)) (λ (upto : m ≤ n). upto) (cases_lt n m)

-- numbers
pub number_again : (least most n : ℕ) → least ≤ n → n ≤ most → most < 10 ^ 18 → number_within least most (decimal n) ≡ Some n
number_again least most n low high small =
    ap (λ o. option_and_then (λ m. cond (nat_le least m && nat_le m most) (Some m) None) o) (plain_again n (omega (arith, high, small)))
    ∙ ap (λ b. cond (b && nat_le n most) (Some n) None) (le-leb least n low)
    ∙ ap (λ b. cond b (Some n) None) (le-leb n most high)

pub record IsNumberOf (least most : ℕ) (token : List ℕ) (n : ℕ) : Type 0 where
  pub token_is : token ≡ decimal n
  pub low : least ≤ n
  pub high : n ≤ most

pub number_found : (least most : ℕ) (token : List ℕ) (n : ℕ) → number_within least most token ≡ Some n → IsNumberOf least most token n
number_found least most token n is =
    let parts = then_some (plain_number_of token) (λ m. cond (nat_le least m && nat_le m most) (Some m) None) n is in
    let tests = behind_test (nat_le least parts.0 && nat_le parts.0 most) (Some parts.0) n parts.2 in
    let limits = and_parts (nat_le least parts.0) (nat_le parts.0 most) tests.0 in
    let same : parts.0 ≡ n = same_Some parts.0 n tests.1 in
    record {
      token_is = sym (plain_found token parts.0 parts.1) ∙ ap decimal same;
      low = omega (arith, le_true least parts.0 limits.0, same);
      high = omega (arith, le_true parts.0 most limits.1, same);
    }

-- two numbers from 0 on, of which something is made
both_found : {A : Type 0} (make : ℕ → ℕ → A) (most more : ℕ) (one two : List ℕ) (P : A → Type 0) (x : A)
    → option_and_then (λ a. option_map (λ c. make a c) (number_within 0 more two)) (number_within 0 most one) ≡ Some x
    → ((a c : ℕ) → IsNumberOf 0 most one a → IsNumberOf 0 more two c → P (make a c)) → P x
both_found make most more one two P x is each =
    let first = then_some (number_within 0 most one) (λ a. option_map (λ c. make a c) (number_within 0 more two)) x is in
    let second = map_some (number_within 0 more two) (λ c. make first.0 c) x first.2 in
    subst P second.2 (each first.0 second.0 (number_found 0 most one first.0 first.1) (number_found 0 more two second.0 second.1))

pub node_again : (v : NodeId) → IsWritableNode v → node_from (decimal v.0) ≡ Some v
node_again v writable = ap (λ o. option_map (λ n. record { 0 = n }) o) (number_again 1 MOST_NODES v.0 writable.0 writable.1 (omega arith))

pub node_found : (token : List ℕ) (v : NodeId) → node_from token ≡ Some v → (token ≡ decimal v.0) × IsWritableNode v
node_found token v is =
    let parts = map_some (number_within 1 MOST_NODES token) (λ n. record { 0 = n }) v is in
    let number = number_found 1 MOST_NODES token parts.0 parts.1 in
    let same : parts.0 ≡ v.0 = ap (λ (u : NodeId). u.0) parts.2 in
    (number.token_is ∙ ap decimal same, (omega (arith, number.low, same), omega (arith, number.high, same)))

-- legs
pub leg_again : (leg : Leg) → IsWritableLeg leg → leg_in (leg_line leg) ≡ Some leg
leg_again (Drive arc) writable = ap (λ o. option_map (λ n. Drive (record { 0 = n })) o) (number_again 1 MOST_ARCS arc.0 writable.0 writable.1 (omega arith))
leg_again (Wait minutes) writable = ap (λ o. option_map (λ n. Wait n) o) (number_again 1 LAST_INSTANT minutes writable.0 writable.1 (omega arith))

module _ (word number : List ℕ) (leg : Leg) where
  drive_found : word ≡ codes "drive" → option_map (λ n. Drive (record { 0 = n })) (number_within 1 MOST_ARCS number) ≡ Some leg
      → (word ∷ number ∷ [] ≡ leg_line leg) × IsWritableLeg leg
  drive_found named is =
      let parts = map_some (number_within 1 MOST_ARCS number) (λ n. Drive (record { 0 = n })) leg is in
      let found = number_found 1 MOST_ARCS number parts.0 parts.1 in
      subst (λ (l : Leg). (word ∷ number ∷ [] ≡ leg_line l) × IsWritableLeg l) parts.2
      (ap (λ w. w ∷ number ∷ []) named ∙ ap (λ t. codes "drive" ∷ t ∷ []) found.token_is, (found.low, found.high))

  wait_found : word ≡ codes "wait" → option_map (λ n. Wait n) (number_within 1 LAST_INSTANT number) ≡ Some leg
      → (word ∷ number ∷ [] ≡ leg_line leg) × IsWritableLeg leg
  wait_found named is =
      let parts = map_some (number_within 1 LAST_INSTANT number) (λ n. Wait n) leg is in
      let found = number_found 1 LAST_INSTANT number parts.0 parts.1 in
      subst (λ (l : Leg). (word ∷ number ∷ [] ≡ leg_line l) × IsWritableLeg l) parts.2
      (ap (λ w. w ∷ number ∷ []) named ∙ ap (λ t. codes "wait" ∷ t ∷ []) found.token_is, (found.low, found.high))

  waiting_found : (b : Bool) → bytes_eq word (codes "wait") ≡ b → cond b (option_map (λ n. Wait n) (number_within 1 LAST_INSTANT number)) None ≡ Some leg
      → (word ∷ number ∷ [] ≡ leg_line leg) × IsWritableLeg leg
  waiting_found true named is = wait_found ((bytes_eq-Decides word (codes "wait")).0 named) is
  waiting_found false named is = absurd (cc)

  leg_from_found : (b : Bool) → bytes_eq word (codes "drive") ≡ b
      → cond b (option_map (λ n. Drive (record { 0 = n })) (number_within 1 MOST_ARCS number))
      (cond (bytes_eq word (codes "wait")) (option_map (λ n. Wait n) (number_within 1 LAST_INSTANT number)) None) ≡ Some leg
      → (word ∷ number ∷ [] ≡ leg_line leg) × IsWritableLeg leg
  leg_from_found true named is = drive_found ((bytes_eq-Decides word (codes "drive")).0 named) is
  leg_from_found false named is = waiting_found (bytes_eq word (codes "wait")) refl is

pub leg_found : (tokens : Tokens) (leg : Leg) → leg_in tokens ≡ Some leg → (tokens ≡ leg_line leg) × IsWritableLeg leg
leg_found [] leg is = absurd (cc)
leg_found (word ∷ []) leg is = absurd (cc)
leg_found (word ∷ number ∷ []) leg is = leg_from_found word number leg (bytes_eq word (codes "drive")) refl is
leg_found (word ∷ number ∷ other ∷ tokens) leg is = absurd (cc)

-- pairs
pub record IsWritablePair (p : Pair) : Type 0 where
  pub arrival : p.arrival ≤ LAST_INSTANT
  pub cost : p.cost ≤ HIGHEST_PIECE_COST

pub pair_again : (p : Pair) (legs : List ℕ) → IsWritablePair p → pair_in (codes "pair" ∷ decimal p.arrival ∷ decimal p.cost ∷ legs ∷ []) ≡ Some (p, legs)
pair_again p legs writable =
    ap (λ o. option_map (λ q. (q, legs))
    (option_and_then (λ a. option_map (λ c. record { arrival = a; cost = c }) (number_within 0 HIGHEST_PIECE_COST (decimal p.cost))) o))
    (number_again 0 LAST_INSTANT p.arrival (omega arith) writable.arrival (omega arith))
    ∙ ap (λ o. option_map (λ q. (q, legs)) (option_map (λ c. record { arrival = p.arrival; cost = c }) o))
    (number_again 0 HIGHEST_PIECE_COST p.cost (omega arith) writable.cost (omega arith))

pair_from_found : (arrival cost : List ℕ) (p : Pair) → pair_from arrival cost ≡ Some p
    → (arrival ≡ decimal p.arrival) × (cost ≡ decimal p.cost) × IsWritablePair p
pair_from_found arrival cost p is = both_found {A = Pair} (λ a c. record { arrival = a; cost = c }) LAST_INSTANT HIGHEST_PIECE_COST arrival cost
    (λ q. (arrival ≡ decimal q.arrival) × (cost ≡ decimal q.cost) × IsWritablePair q) p is
    (λ a c first second. (first.token_is, second.token_is, record { arrival = first.high; cost = second.high }))

pub pair_found : (tokens : Tokens) (p : Pair) (legs : List ℕ) → pair_in tokens ≡ Some (p, legs)
    → (tokens ≡ codes "pair" ∷ decimal p.arrival ∷ decimal p.cost ∷ legs ∷ []) × IsWritablePair p
pair_found [] p legs is = absurd (cc)
pair_found (word ∷ []) p legs is = absurd (cc)
pair_found (word ∷ a ∷ []) p legs is = absurd (cc)
pair_found (word ∷ a ∷ c ∷ []) p legs is = absurd (cc)
pair_found (word ∷ a ∷ c ∷ n ∷ []) p legs is =
    let tests = behind_test (bytes_eq word (codes "pair")) (option_map (λ q. (q, n)) (pair_from a c)) (p, legs) is in
    let parts = map_some (pair_from a c) (λ q. (q, n)) (p, legs) tests.1 in
    let same : parts.0 ≡ p = ap (λ (r : Pair × List ℕ). r.0) parts.2 in
    let last : n ≡ legs = ap (λ (r : Pair × List ℕ). r.1) parts.2 in
    let numbers = pair_from_found a c p (parts.1 ∙ ap Some same) in (
      ap (λ w. w ∷ a ∷ c ∷ n ∷ []) ((bytes_eq-Decides word (codes "pair")).0 tests.0)
          ∙ ap (λ t. codes "pair" ∷ t ∷ c ∷ n ∷ []) numbers.0
          ∙ ap (λ t. codes "pair" ∷ decimal p.arrival ∷ t ∷ n ∷ []) numbers.1
          ∙ ap (λ t. codes "pair" ∷ decimal p.arrival ∷ decimal p.cost ∷ t ∷ []) last,
      numbers.2,
    )
pair_found (word ∷ a ∷ c ∷ n ∷ other ∷ tokens) p legs is = absurd (cc)

-- bounds
pub record IsWritableBound (b : Bound) : Type 0 where
  pub minutes : b.minutes ≤ LONGEST_BOUND
  pub cost : b.cost ≤ HIGHEST_PIECE_COST

pub bound_again : (e : NodeId × Bound) → IsWritableNode e.0 → IsWritableBound e.1 → bound_in (bound_line e) ≡ Some e
bound_again e node bound =
    ap (λ o. option_and_then (λ v. option_map (λ b. (v, b)) (bound_from (decimal e.1.minutes) (decimal e.1.cost))) o) (node_again e.0 node)
    ∙ ap (λ o. option_map (λ b. (e.0, b))
    (option_and_then (λ m. option_map (λ c. record { minutes = m; cost = c }) (number_within 0 HIGHEST_PIECE_COST (decimal e.1.cost))) o))
    (number_again 0 LONGEST_BOUND e.1.minutes (omega arith) bound.minutes (omega arith))
    ∙ ap (λ o. option_map (λ b. (e.0, b)) (option_map (λ c. record { minutes = e.1.minutes; cost = c }) o))
    (number_again 0 HIGHEST_PIECE_COST e.1.cost (omega arith) bound.cost (omega arith))

bound_from_found : (minutes cost : List ℕ) (b : Bound) → bound_from minutes cost ≡ Some b
    → (minutes ≡ decimal b.minutes) × (cost ≡ decimal b.cost) × IsWritableBound b
bound_from_found minutes cost b is = both_found {A = Bound} (λ m c. record { minutes = m; cost = c }) LONGEST_BOUND HIGHEST_PIECE_COST minutes cost
    (λ q. (minutes ≡ decimal q.minutes) × (cost ≡ decimal q.cost) × IsWritableBound q) b is
    (λ m c first second. (first.token_is, second.token_is, record { minutes = first.high; cost = second.high }))

pub bound_found : (tokens : Tokens) (e : NodeId × Bound) → bound_in tokens ≡ Some e → (tokens ≡ bound_line e) × IsWritableNode e.0 × IsWritableBound e.1
bound_found [] e is = absurd (cc)
bound_found (word ∷ []) e is = absurd (cc)
bound_found (word ∷ v ∷ []) e is = absurd (cc)
bound_found (word ∷ v ∷ m ∷ []) e is = absurd (cc)
bound_found (word ∷ v ∷ m ∷ c ∷ []) e is =
    let tests = behind_test (bytes_eq word (codes "bound")) (option_and_then (λ u. option_map (λ b. (u, b)) (bound_from m c)) (node_from v)) e is in
    let outer = then_some (node_from v) (λ u. option_map (λ b. (u, b)) (bound_from m c)) e tests.1 in
    let inner = map_some (bound_from m c) (λ b. (outer.0, b)) e outer.2 in
    let node = node_found v outer.0 outer.1 in
    let numbers = bound_from_found m c inner.0 inner.1 in
    subst (λ (d : NodeId × Bound). (word ∷ v ∷ m ∷ c ∷ [] ≡ bound_line d) × IsWritableNode d.0 × IsWritableBound d.1) inner.2 (
      ap (λ w. w ∷ v ∷ m ∷ c ∷ []) ((bytes_eq-Decides word (codes "bound")).0 tests.0)
          ∙ ap (λ t. codes "bound" ∷ t ∷ m ∷ c ∷ []) node.0
          ∙ ap (λ t. codes "bound" ∷ decimal outer.0.0 ∷ t ∷ c ∷ []) numbers.0
          ∙ ap (λ t. codes "bound" ∷ decimal outer.0.0 ∷ decimal inner.0.minutes ∷ t ∷ []) numbers.1,
      node.1,
      numbers.2,
    )
bound_found (word ∷ v ∷ m ∷ c ∷ other ∷ tokens) e is = absurd (cc)

-- pieces
test_again : (p : Piece) → IsPiece p → (nat_lt p.lo p.hi || (p.lo == p.hi && p.slope == 0)) ≡ true
test_again p piece =
    ⊎_elim
    (λ (less : p.lo < p.hi). ap (λ b. b || (p.lo == p.hi && p.slope == 0)) (lt-ltb p.lo p.hi less))
    (λ (upto : p.hi ≤ p.lo). (let same : p.lo ≡ p.hi = omega (arith, upto, piece.filled) in
    last (nat_lt p.lo p.hi) (p.lo == p.hi) (p.slope == 0) (eq-eqb p.lo p.hi same) (eq-eqb p.slope 0 (piece.single same))))
    (cases_lt p.lo p.hi)
  where
    last : (a b c : Bool) → b ≡ true → c ≡ true → (a || (b && c)) ≡ true
    last true b c h k = refl
    last false b c h k = ap (λ d. d && c) h ∙ k

test_found : (l h s : ℕ) → (nat_lt l h || (l == h && s == 0)) ≡ true → (l ≤ h) × (l ≡ h → s ≡ 0)
test_found l h s is = ⊎_elim
    (λ (less : l < h). (omega (arith, less), λ (same : l ≡ h). omega (arith, less, same)))
    (λ (upto : h ≤ l). (let both = and_parts (l == h) (s == 0) (sym (ap (λ b. b || (l == h && s == 0)) (le-ltb l h upto)) ∙ is) in
    (omega (arith, eqb-true l h both.0), λ (same : l ≡ h). eqb-true s 0 both.1)))
    (cases_lt l h)

pub piece_from_again : (p : Piece) → IsPiece p → piece_from (decimal p.lo) (decimal p.hi) (decimal p.cost) (decimal p.slope) ≡ Some p
piece_from_again p piece =
    rw (
      number_again 0 LAST_INSTANT p.lo (omega arith) (omega (arith, piece.filled, piece.minutes)) (omega arith),
      number_again 0 LAST_INSTANT p.hi (omega arith) piece.minutes (omega arith),
      number_again 0 HIGHEST_PIECE_COST p.cost (omega arith) piece.cost (omega arith),
      number_again 0 HIGHEST_COST p.slope (omega arith) piece.slope (omega arith),
      test_again p piece,
    )

pub piece_again : (v : NodeId) (p : Piece) → IsWritableNode v → IsPiece p → piece_in (piece_line v p) ≡ Some (v, p)
piece_again v p node piece =
    ap (λ o. option_and_then (λ u. option_map (λ q. (u, q)) (piece_from (decimal p.lo) (decimal p.hi) (decimal p.cost) (decimal p.slope))) o)
    (node_again v node)
    ∙ ap (λ o. option_map (λ q. (v, q)) o) (piece_from_again p piece)

pub record IsPieceOf (lo hi cost slope : List ℕ) (p : Piece) : Type 0 where
  pub lo_is : lo ≡ decimal p.lo
  pub hi_is : hi ≡ decimal p.hi
  pub cost_is : cost ≡ decimal p.cost
  pub slope_is : slope ≡ decimal p.slope
  pub piece : IsPiece p

-- a piece of four numbers
abbrev tested : ℕ → ℕ → ℕ → ℕ → Option Piece
tested l h c s = cond (nat_lt l h || (l == h && s == 0)) (Some (record { lo = l; hi = h; cost = c; slope = s })) None

pub piece_from_found : (lo hi cost slope : List ℕ) (p : Piece) → piece_from lo hi cost slope ≡ Some p → IsPieceOf lo hi cost slope p
piece_from_found lo hi cost slope p is =
    let first = then_some (number_within 0 LAST_INSTANT lo)
    (λ l. option_and_then (λ h. option_and_then (λ c. option_and_then (λ s. tested l h c s)
    (number_within 0 HIGHEST_COST slope)) (number_within 0 HIGHEST_PIECE_COST cost)) (number_within 0 LAST_INSTANT hi)) p is in
    let second = then_some (number_within 0 LAST_INSTANT hi)
    (λ h. option_and_then (λ c. option_and_then (λ s. tested first.0 h c s) (number_within 0 HIGHEST_COST slope))
    (number_within 0 HIGHEST_PIECE_COST cost)) p first.2 in
    let third = then_some (number_within 0 HIGHEST_PIECE_COST cost)
    (λ c. option_and_then (λ s. tested first.0 second.0 c s) (number_within 0 HIGHEST_COST slope)) p second.2 in
    let fourth = then_some (number_within 0 HIGHEST_COST slope) (λ s. tested first.0 second.0 third.0 s) p third.2 in
    let l = number_found 0 LAST_INSTANT lo first.0 first.1 in
    let h = number_found 0 LAST_INSTANT hi second.0 second.1 in
    let c = number_found 0 HIGHEST_PIECE_COST cost third.0 third.1 in
    let s = number_found 0 HIGHEST_COST slope fourth.0 fourth.1 in
    let made : Option Piece = Some (record { lo = first.0; hi = second.0; cost = third.0; slope = fourth.0 }) in
    let test = behind_test (nat_lt first.0 second.0 || (first.0 == second.0 && fourth.0 == 0)) made p fourth.2 in
    let minutes = test_found first.0 second.0 fourth.0 test.0 in
    subst (λ (q : Piece). IsPieceOf lo hi cost slope q)
    (same_Some (record { lo = first.0; hi = second.0; cost = third.0; slope = fourth.0 }) p test.1) (record {
      lo_is = l.token_is;
      hi_is = h.token_is;
      cost_is = c.token_is;
      slope_is = s.token_is;
      piece = record { filled = minutes.0; minutes = h.high; cost = c.high; slope = s.high; single = minutes.1 };
    })

pub piece_found : (tokens : Tokens) (v : NodeId) (p : Piece) → piece_in tokens ≡ Some (v, p) → (tokens ≡ piece_line v p) × IsWritableNode v × IsPiece p
piece_found [] v p is = absurd (cc)
piece_found (word ∷ []) v p is = absurd (cc)
piece_found (word ∷ n ∷ []) v p is = absurd (cc)
piece_found (word ∷ n ∷ l ∷ []) v p is = absurd (cc)
piece_found (word ∷ n ∷ l ∷ h ∷ []) v p is = absurd (cc)
piece_found (word ∷ n ∷ l ∷ h ∷ c ∷ []) v p is = absurd (cc)
piece_found (word ∷ n ∷ l ∷ h ∷ c ∷ s ∷ []) v p is =
    let tests = behind_test (bytes_eq word (codes "piece")) (option_and_then (λ u. option_map (λ q. (u, q)) (piece_from l h c s)) (node_from n)) (v, p) is in
    let outer = then_some (node_from n) (λ u. option_map (λ q. (u, q)) (piece_from l h c s)) (v, p) tests.1 in
    let inner = map_some (piece_from l h c s) (λ q. (outer.0, q)) (v, p) outer.2 in
    let node = node_found n outer.0 outer.1 in
    let numbers = piece_from_found l h c s inner.0 inner.1 in
    subst (λ (d : NodeId × Piece). (word ∷ n ∷ l ∷ h ∷ c ∷ s ∷ [] ≡ piece_line d.0 d.1) × IsWritableNode d.0 × IsPiece d.1) inner.2 (
      ap (λ w. w ∷ n ∷ l ∷ h ∷ c ∷ s ∷ []) ((bytes_eq-Decides word (codes "piece")).0 tests.0)
          ∙ ap (λ t. codes "piece" ∷ t ∷ l ∷ h ∷ c ∷ s ∷ []) node.0
          ∙ ap (λ t. codes "piece" ∷ decimal outer.0.0 ∷ t ∷ h ∷ c ∷ s ∷ []) numbers.lo_is
          ∙ ap (λ t. codes "piece" ∷ decimal outer.0.0 ∷ decimal inner.0.lo ∷ t ∷ c ∷ s ∷ []) numbers.hi_is
          ∙ ap (λ t. codes "piece" ∷ decimal outer.0.0 ∷ decimal inner.0.lo ∷ decimal inner.0.hi ∷ t ∷ s ∷ []) numbers.cost_is
          ∙ ap (λ t. codes "piece" ∷ decimal outer.0.0 ∷ decimal inner.0.lo ∷ decimal inner.0.hi ∷ decimal inner.0.cost ∷ t ∷ []) numbers.slope_is,
      node.1,
      numbers.piece,
    )
piece_found (word ∷ n ∷ l ∷ h ∷ c ∷ s ∷ other ∷ tokens) v p is = absurd (cc)

-- pieces of one node
same_node : (u v : NodeId) → (u.0 == v.0) ≡ true → u ≡ v
same_node u v is = ap (λ n. record { 0 = n }) (eqb-true u.0 v.0 is)

pub piece_at_again : (v : NodeId) (p : Piece) → IsWritableNode v → IsPiece p → piece_at v (piece_line v p) ≡ Some p
piece_at_again v p node piece =
    ap (λ o. option_and_then (λ e. cond (e.0.0 == v.0) (Some e.1) None) o) (piece_again v p node piece)
    ∙ ap (λ b. cond b (Some p) None) (eq-eqb v.0 v.0 refl)

pub piece_at_found : (v : NodeId) (tokens : Tokens) (p : Piece) → piece_at v tokens ≡ Some p → (tokens ≡ piece_line v p) × IsWritableNode v × IsPiece p
piece_at_found v tokens p is =
    let parts = then_some (piece_in tokens) (λ e. cond (e.0.0 == v.0) (Some e.1) None) p is in
    let test = behind_test (parts.0.0.0 == v.0) (Some parts.0.1) p parts.2 in
    let node = same_node parts.0.0 v test.0 in
    let piece = same_Some parts.0.1 p test.1 in
    piece_found tokens v p (parts.1 ∙ ap (λ u. Some (u, parts.0.1)) node ∙ ap (λ q. Some (v, q)) piece)

-- the line of another node's piece
pub piece_at_other : (v u : NodeId) (p : Piece) → IsWritableNode u → IsPiece p → v.0 < u.0 → piece_at v (piece_line u p) ≡ None
piece_at_other v u p node piece less =
    ap (λ o. option_and_then (λ e. cond (e.0.0 == v.0) (Some e.1) None) o) (piece_again u p node piece)
    ∙ ap (λ b. cond b (Some p) None) (ne_eqb u.0 v.0 (λ (same : u.0 ≡ v.0). omega (arith, less, same)))

-- counts
pub count_again : (word count : List ℕ) → count_in word (word ∷ count ∷ []) ≡ Some count
count_again word count = ap (λ b. cond b (Some count) None) (same_bytes word)

pub count_found : (word : List ℕ) (tokens : Tokens) (count : List ℕ) → count_in word tokens ≡ Some count → tokens ≡ word ∷ count ∷ []
count_found word [] count is = absurd (cc)
count_found word (w ∷ []) count is = absurd (cc)
count_found word (w ∷ n ∷ []) count is =
    let tests = behind_test (bytes_eq w word) (Some n) count is in
    ap (λ v. v ∷ n ∷ []) ((bytes_eq-Decides w word).0 tests.0) ∙ ap (λ t. word ∷ t ∷ []) (same_Some n count tests.1)
count_found word (w ∷ n ∷ other ∷ tokens) count is = absurd (cc)
