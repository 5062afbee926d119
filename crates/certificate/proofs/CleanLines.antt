-- Lines whose tokens have no space and no line feed: their text has just these lines.
use Rattle.std.proofs.Common.{◌≡◌, ◌==◌, ◌&&◌, ℕ, ◌+◌, ◌/◌, ◌%◌, ◌<◌, zero, suc, Bool, true, false, not, cond, List, [], ◌∷◌, ◌++◌, length, map, flat_map}
use Rattle.std.proofs.Common.{All, append_assoc, refl, ◌∙◌, ap, arith}
use Rattle.std.specs.Prelude.{codes, decimal}
use Rattle.std.specs.Fmt.{digits, digits_onto, digit_glyph}
use Rattle.std.specs.List.{join_with_byte}
use Rattle.std.proofs.lemmas.Bool.{lt-ltb, ne_eqb, and_parts, and_from}
use Rattle.std.proofs.lemmas.List.Elements.{All-nil, All-cons, All-head, All-tail, All-append}
use Rattle.std.proofs.lemmas.List.Splits.{slice_split_none, slice_split_at}
use Rattle.route_base.specs.declared.types.Bound.{Bound}
use Rattle.route_base.specs.declared.types.Leg.{Leg}
use Rattle.route_base.specs.declared.types.Leg.TheVariants.{Drive, Wait}
use Rattle.route_base.specs.declared.types.NodeId.{NodeId}
use Rattle.route_base.specs.declared.types.Route.{Route}
use Rattle.cost_functions.specs.declared.pieces.Piece.{Piece}
use Rattle.certificate.specs.CertificateText.{Tokens, line_text, count_line, leg_line, pair_line, route_lines, bound_line, piece_line, function_lines}
use Rattle.certificate.specs.CertificateText.{all_pieces, certificate_lines}
use Rattle.certificate.specs.declared.Certificate.{Certificate}
use Rattle.certificate.specs.Inside.LineForms.{spaced_tokens}
use Rattle.certificate.specs.Inside.Reading.{token_lines}

-- whether a byte is neither a space nor a line feed
abbrev is_plain : ℕ → Bool
is_plain b = not (b == 32) && not (b == 10)

abbrev are_plain : List ℕ → Bool
are_plain [] = true
are_plain (b ∷ bs) = is_plain b && are_plain bs

-- whether there is a token, and all are plain
abbrev pub is_clean : Tokens → Bool
is_clean [] = false
is_clean (t ∷ []) = are_plain t
is_clean (t ∷ u ∷ ts) = are_plain t && is_clean (u ∷ ts)

not_true : (b : Bool) → not b ≡ true → b ≡ false
not_true false is = refl
not_true true is = absurd (cc)

no_space : (bs : List ℕ) → are_plain bs ≡ true → All (λ b. (b == 32) ≡ false) bs
no_space [] is = All-nil (λ b. (b == 32) ≡ false)
no_space (b ∷ bs) is =
    let parts = and_parts (is_plain b) (are_plain bs) is in
    All-cons (λ c. (c == 32) ≡ false) b bs (not_true (b == 32) (and_parts (not (b == 32)) (not (b == 10)) parts.0).0) (no_space bs parts.1)

no_feed : (bs : List ℕ) → are_plain bs ≡ true → All (λ b. (b == 10) ≡ false) bs
no_feed [] is = All-nil (λ b. (b == 10) ≡ false)
no_feed (b ∷ bs) is =
    let parts = and_parts (is_plain b) (are_plain bs) is in
    All-cons (λ c. (c == 10) ≡ false) b bs (not_true (b == 10) (and_parts (not (b == 32)) (not (b == 10)) parts.0).1) (no_feed bs parts.1)

-- tokens that are joined and cut again
tokens_again : (ts : Tokens) → is_clean ts ≡ true → spaced_tokens (join_with_byte 32 ts) ≡ ts
tokens_again [] clean = absurd (cc)
tokens_again (t ∷ []) clean = slice_split_none (λ b. b == 32) t (no_space t clean)
tokens_again (t ∷ u ∷ ts) clean =
    let parts = and_parts (are_plain t) (is_clean (u ∷ ts)) clean in
    slice_split_at (λ b. b == 32) t 32 (join_with_byte 32 (u ∷ ts)) (no_space t parts.0) refl ∙ ap (λ l. t ∷ l) (tokens_again (u ∷ ts) parts.1)

feedless : (ts : Tokens) → is_clean ts ≡ true → All (λ b. (b == 10) ≡ false) (join_with_byte 32 ts)
feedless [] clean = absurd (cc)
feedless (t ∷ []) clean = no_feed t clean
feedless (t ∷ u ∷ ts) clean =
    let parts = and_parts (are_plain t) (is_clean (u ∷ ts)) clean in
    All-append (λ b. (b == 10) ≡ false) t (32 ∷ join_with_byte 32 (u ∷ ts)) (no_feed t parts.0)
    (All-cons (λ b. (b == 10) ≡ false) 32 (join_with_byte 32 (u ∷ ts)) refl (feedless (u ∷ ts) parts.1))

abbrev pub AreClean : List Tokens → Type 0
AreClean lines = All (λ l. is_clean l ≡ true) lines

-- the text of clean lines has just these lines, and an empty one behind the last line feed
pub lines_of_text : (lines : List Tokens) → AreClean lines → token_lines (flat_map line_text lines) ≡ lines ++ ([] ∷ []) ∷ []
lines_of_text [] clean = refl
lines_of_text (l ∷ lines) clean =
    let first = All-head (λ k. is_clean k ≡ true) l lines clean in
    let others = flat_map line_text lines in
    ap token_lines (append_assoc (join_with_byte 32 l) (10 ∷ []) others)
    ∙ ap (map spaced_tokens) (slice_split_at (λ b. b == 10) (join_with_byte 32 l) 10 others (feedless l first) refl)
    ∙ ap (λ t. t ∷ token_lines others) (tokens_again l first)
    ∙ ap (λ ls. l ∷ ls) (lines_of_text lines (All-tail (λ k. is_clean k ≡ true) l lines clean))

-- digits are plain
glyph_plain : (d : ℕ) → d < 10 → is_plain (digit_glyph false d) ≡ true
glyph_plain d small =
    ap is_plain (ap (λ b. cond b (48 + d) (87 + d)) (lt-ltb d 10 small))
    ∙ and_from (not (48 + d == 32)) (not (48 + d == 10))
    (ap not (ne_eqb (48 + d) 32 (λ same. omega (arith, same)))) (ap not (ne_eqb (48 + d) 10 (λ same. omega (arith, same))))

onto_plain : (k n : ℕ) (acc : List ℕ) → are_plain acc ≡ true → are_plain (digits_onto k 10 false n acc) ≡ true
onto_plain zero n acc plain = plain
onto_plain (suc k) n acc plain = chosen (n / 10 == 0) (onto_plain k (n / 10) (digit_glyph false (n % 10) ∷ acc) more)
  where
    more : are_plain (digit_glyph false (n % 10) ∷ acc) ≡ true
    more = and_from (is_plain (digit_glyph false (n % 10))) (are_plain acc) (glyph_plain (n % 10) (omega arith)) plain

    chosen : (b : Bool) → are_plain (digits_onto k 10 false (n / 10) (digit_glyph false (n % 10) ∷ acc)) ≡ true
        → are_plain (cond b (digit_glyph false (n % 10) ∷ acc) (digits_onto k 10 false (n / 10) (digit_glyph false (n % 10) ∷ acc))) ≡ true
    chosen true others = more
    chosen false others = others

pub decimal_plain : (n : ℕ) → are_plain (decimal n) ≡ true
unfolding digits
decimal_plain n = onto_plain 64 n [] refl

-- all lines of a certificate are clean
leg_clean : (leg : Leg) → is_clean (leg_line leg) ≡ true
leg_clean (Drive arc) = decimal_plain arc.0
leg_clean (Wait minutes) = decimal_plain minutes

two_clean : (a b : List ℕ) → are_plain a ≡ true → are_plain b ≡ true → is_clean (a ∷ b ∷ []) ≡ true
two_clean a b h k = and_from (are_plain a) (are_plain b) h k

pair_clean : (route : Route) → is_clean (pair_line route) ≡ true
pair_clean route = and_from (are_plain (decimal route.pair.arrival))
    (is_clean (decimal route.pair.cost ∷ decimal (length route.legs) ∷ [])) (decimal_plain route.pair.arrival)
    (two_clean (decimal route.pair.cost) (decimal (length route.legs)) (decimal_plain route.pair.cost) (decimal_plain (length route.legs)))

bound_clean : (e : NodeId × Bound) → is_clean (bound_line e) ≡ true
bound_clean e = and_from (are_plain (decimal e.0.0)) (is_clean (decimal e.1.minutes ∷ decimal e.1.cost ∷ [])) (decimal_plain e.0.0)
    (two_clean (decimal e.1.minutes) (decimal e.1.cost) (decimal_plain e.1.minutes) (decimal_plain e.1.cost))

piece_clean : (v : NodeId) (p : Piece) → is_clean (piece_line v p) ≡ true
piece_clean v p =
    let last = two_clean (decimal p.cost) (decimal p.slope) (decimal_plain p.cost) (decimal_plain p.slope) in
    let third = and_from (are_plain (decimal p.hi)) (is_clean (decimal p.cost ∷ decimal p.slope ∷ [])) (decimal_plain p.hi) last in
    let second = and_from (are_plain (decimal p.lo)) (is_clean (decimal p.hi ∷ decimal p.cost ∷ decimal p.slope ∷ [])) (decimal_plain p.lo) third in
    and_from (are_plain (decimal v.0)) (is_clean (decimal p.lo ∷ decimal p.hi ∷ decimal p.cost ∷ decimal p.slope ∷ [])) (decimal_plain v.0) second

mapped_clean : {A : Type 0} (line : A → Tokens) → ((x : A) → is_clean (line x) ≡ true) → (xs : List A) → AreClean (map line xs)
mapped_clean line each [] = All-nil (λ l. is_clean l ≡ true)
mapped_clean line each (x ∷ xs) = All-cons (λ l. is_clean l ≡ true) (line x) (map line xs) (each x) (mapped_clean line each xs)

joined_clean : {A : Type 0} (lines : A → List Tokens) → ((x : A) → AreClean (lines x)) → (xs : List A) → AreClean (flat_map lines xs)
joined_clean lines each [] = All-nil (λ l. is_clean l ≡ true)
joined_clean lines each (x ∷ xs) = All-append (λ l. is_clean l ≡ true) (lines x) (flat_map lines xs) (each x) (joined_clean lines each xs)

pub certificate_clean : (c : Certificate) → AreClean (certificate_lines c)
certificate_clean c =
    let P = λ (l : Tokens). is_clean l ≡ true in
    let routes = joined_clean route_lines
    (λ r. All-cons P (pair_line r) (map leg_line r.legs) (pair_clean r) (mapped_clean leg_line leg_clean r.legs)) c.routes in
    let bounds = mapped_clean bound_line bound_clean c.bounds in
    let functions = joined_clean function_lines (λ e. mapped_clean (piece_line e.0) (piece_clean e.0) e.1) c.functions in
    let first = (codes "lorry-certificate" ∷ codes "1" ∷ []) ∷ count_line (codes "pairs") (length c.routes) ∷ flat_map route_lines c.routes in
    let second = count_line (codes "bounds") (length c.bounds) ∷ map bound_line c.bounds in
    let third = count_line (codes "pieces") (length (all_pieces c.functions)) ∷ flat_map function_lines c.functions in
    All-append P (first ++ second ++ third) ((codes "end" ∷ []) ∷ [])
    (All-append P (first ++ second) third
    (All-append P first second
    (All-cons P (codes "lorry-certificate" ∷ codes "1" ∷ []) (count_line (codes "pairs") (length c.routes) ∷ flat_map route_lines c.routes) refl
    (All-cons P (count_line (codes "pairs") (length c.routes)) (flat_map route_lines c.routes) (decimal_plain (length c.routes)) routes))
    (All-cons P (count_line (codes "bounds") (length c.bounds)) (map bound_line c.bounds) (decimal_plain (length c.bounds)) bounds))
    (All-cons P (count_line (codes "pieces") (length (all_pieces c.functions))) (flat_map function_lines c.functions)
    (decimal_plain (length (all_pieces c.functions))) functions))
    (All-cons P (codes "end" ∷ []) [] refl (All-nil P))
