-- The lines of an itinerary's file, and the legs that are read of them.
use Rattle.std.proofs.Common.{◌≡◌, ℕ, suc, ◌+◌, ◌≤◌, ◌<◌, ◌&&◌, Bool, not, cond, Option, Some, None, List, [], ◌∷◌, ◌++◌, length, map, take, drop, get_or}
use Rattle.std.proofs.Common.{refl, sym, ◌∙◌, ap, subst, arith, append_assoc, append-nil, length-append}
use Rattle.std.specs.List.{AllZip, filter_map, cons_option, position, position_or_len}
use Rattle.std.specs.Option.{is_some, option_map, option_and_then, option_or}
use Rattle.std.specs.Prelude.{codes, nat_le, nat_lt}
use Rattle.std.specs.Str.{bytes_eq}
use Rattle.std.proofs.Math.Seq.{take-append_seam, drop-append_seam}
use Rattle.std.proofs.lemmas.Bool.{le-leb, leb-true, lt-ltb, le-ltb, and_parts}
use Rattle.std.proofs.lemmas.List.{take-append-drop, map-append}
use Rattle.std.proofs.lemmas.Option.{same_Some}
use Rattle.std.proofs.lemmas.Slice.Eq.{bytes_eq-Decides}
use Rattle.std.proofs.lemmas.Slice.Zip.{AllZip-long}
use Rattle.route_base.specs.Digits.{plain_number_of}
use Rattle.route_base.specs.Legs.{HasNoEmptyWait}
use Rattle.route_base.specs.declared.limits.TheConstants.{LONGEST_HORIZON}
use Rattle.route_base.specs.declared.types.Leg.{Leg}
use Rattle.route_base.specs.declared.types.Leg.TheVariants.{Drive, Wait}
use Rattle.route_base.proofs.LegLists.{some_wait}
use Rattle.route_base.proofs.Logic.{behind_test, then_some, found_within, none_mapped}
use Rattle.dimacs_reader.specs.Lines.{lines_of}
use Rattle.trip_explain.specs.ItineraryFile.{number_behind, leg_of, bad_line_of, legs_of, IsWordAndNumber, IsLegLine}

-- a number behind a word, both ways
module _ (word : List ℕ) (most : ℕ) (line : List ℕ) where
  tested : ℕ → Option ℕ
  tested n = cond (nat_le 1 n && nat_le n most) (Some n) None

  number_again : (n : ℕ) → IsWordAndNumber word most line n → number_behind word most line ≡ Some n
  unfolding tested
  number_again n h =
      let front : take (length word) line ≡ word = ap (take (length word)) h.text ∙ take-append_seam word h.digits in
      let rest : drop (length word) line ≡ h.digits = ap (drop (length word)) h.text ∙ drop-append_seam word h.digits in
      ap (λ b. cond b (option_and_then tested (plain_number_of (drop (length word) line))) None)
      ((bytes_eq-Decides (take (length word) line) word).1 front)
      ∙ ap (λ t. option_and_then tested (plain_number_of t)) rest
      ∙ ap (option_and_then tested) h.value
      ∙ ap (λ b. cond (b && nat_le n most) (Some n) None) (le-leb 1 n h.some)
      ∙ ap (λ b. cond b (Some n) None) (le-leb n most h.within)

  number_found : (n : ℕ) → number_behind word most line ≡ Some n → IsWordAndNumber word most line n
  unfolding tested
  number_found n is =
      let digits = drop (length word) line in
      let parts = behind_test (bytes_eq (take (length word) line) word) (option_and_then tested (plain_number_of digits)) n is in
      let number = then_some (plain_number_of digits) tested n parts.1 in
      let tests = behind_test (nat_le 1 number.0 && nat_le number.0 most) (Some number.0) n number.2 in
      let limits = and_parts (nat_le 1 number.0) (nat_le number.0 most) tests.0 in
      let same : number.0 ≡ n = same_Some number.0 n tests.1 in
      let low : 1 ≤ number.0 = leb-true 1 number.0 limits.0 in
      let high : number.0 ≤ most = leb-true number.0 most limits.1 in
      record {
        digits = digits;
        text = sym (take-append-drop (length word) line)
            ∙ ap (λ (t : List ℕ). t ++ digits) ((bytes_eq-Decides (take (length word) line) word).0 parts.0);
        value = number.1 ∙ ap Some same;
        some = omega (arith, low, same);
        within = omega (arith, high, same);
      }

-- the line of a drive begins with another byte than that of a wait
no_drive_waits : (line : List ℕ) (n m : ℕ) → IsWordAndNumber (codes "drive ") 4294967295 line n → IsWordAndNumber (codes "wait ") LONGEST_HORIZON line m → ⊥
no_drive_waits line n m h k =
    let first : 100 ≡ 119 = ap (λ (l : List ℕ). get_or l 0 0) (sym h.text ∙ k.text) in
    omega (arith, first)

abbrev drive_of : Option ℕ → Option Leg
drive_of o = option_map (λ n. Drive (record { 0 = n })) o

abbrev wait_of : Option ℕ → Option Leg
wait_of o = option_map (λ n. Wait n) o

-- the leg of a line, by the numbers that may be behind its words
pub drive_read : (line : List ℕ) (n : ℕ) → number_behind (codes "drive ") 4294967295 line ≡ Some n → Some (Drive (record { 0 = n })) ≡ leg_of line
unfolding leg_of
drive_read line n is = ap (λ o. option_or (drive_of o) (wait_of (number_behind (codes "wait ") LONGEST_HORIZON line))) (sym is)

pub wait_read : (line : List ℕ) (n : ℕ) → number_behind (codes "drive ") 4294967295 line ≡ None → number_behind (codes "wait ") LONGEST_HORIZON line ≡ Some n
    → Some (Wait n) ≡ leg_of line
unfolding leg_of
wait_read line n none is =
    ap wait_of (sym is) ∙ ap (λ o. option_or (drive_of o) (wait_of (number_behind (codes "wait ") LONGEST_HORIZON line))) (sym none)

pub none_read : (line : List ℕ) → number_behind (codes "drive ") 4294967295 line ≡ None → number_behind (codes "wait ") LONGEST_HORIZON line ≡ None
    → None ≡ leg_of line
unfolding leg_of
none_read line none no_wait =
    ap wait_of (sym no_wait) ∙ ap (λ o. option_or (drive_of o) (wait_of (number_behind (codes "wait ") LONGEST_HORIZON line))) (sym none)

pub leg_again : (line : List ℕ) (leg : Leg) → IsLegLine line leg → leg_of line ≡ Some leg
unfolding leg_of
leg_again line (Drive arc) h =
    ap (λ o. option_or (drive_of o) (wait_of (number_behind (codes "wait ") LONGEST_HORIZON line))) (number_again (codes "drive ") 4294967295 line arc.0 h)
leg_again line (Wait minutes) h =
    waits (number_behind (codes "drive ") 4294967295 line) refl
    ∙ ap wait_of (number_again (codes "wait ") LONGEST_HORIZON line minutes h)
  where
    waits : (o : Option ℕ) → number_behind (codes "drive ") 4294967295 line ≡ o
        → option_or (drive_of o) (wait_of (number_behind (codes "wait ") LONGEST_HORIZON line)) ≡ wait_of (number_behind (codes "wait ") LONGEST_HORIZON line)
    waits None is = refl
    waits (Some n) is = absurd (no_drive_waits line n minutes (number_found (codes "drive ") 4294967295 line n is) h)

module _ (line : List ℕ) (leg : Leg) where
  found : (drive wait : Option ℕ) → number_behind (codes "drive ") 4294967295 line ≡ drive → number_behind (codes "wait ") LONGEST_HORIZON line ≡ wait
      → option_or (drive_of drive) (wait_of wait) ≡ Some leg → IsLegLine line leg
  found (Some n) wait drives waits is =
      subst (IsLegLine line) (same_Some (Drive (record { 0 = n })) leg is) (number_found (codes "drive ") 4294967295 line n drives)
  found None (Some n) drives waits is =
      subst (IsLegLine line) (same_Some (Wait n) leg is) (number_found (codes "wait ") LONGEST_HORIZON line n waits)
  found None None drives waits is = absurd (cc)

  pub leg_found : leg_of line ≡ Some leg → IsLegLine line leg
  unfolding leg_of
  leg_found is = found (number_behind (codes "drive ") 4294967295 line) (number_behind (codes "wait ") LONGEST_HORIZON line) refl refl is

abbrev HasLeg : List ℕ → Leg → Type 0
HasLeg line leg = leg_of line ≡ Some leg

abbrev is_bad : List ℕ → Bool
is_bad line = not (is_some (leg_of line))

-- each line has the leg at its place
zipped : (lines : List (List ℕ)) (legs : List Leg) → map leg_of lines ≡ map Some legs → AllZip HasLeg lines legs
zipped [] [] same = tt
zipped [] (y ∷ legs) same = absurd (cc)
zipped (x ∷ lines) [] same = absurd (cc)
zipped (x ∷ lines) (y ∷ legs) same = (cc, zipped lines legs (cc))

-- the legs of lines that have each one
legs_are : (lines : List (List ℕ)) (legs : List Leg) → AllZip HasLeg lines legs → legs ≡ filter_map leg_of lines
legs_are [] [] each = refl
legs_are [] (y ∷ legs) each = absurd each
legs_are (x ∷ lines) [] each = absurd each
legs_are (x ∷ lines) (y ∷ legs) each = rw each.0 (ap (λ (ys : List Leg). y ∷ ys) (legs_are lines legs each.1))

no_empty : (lines : List (List ℕ)) (legs : List Leg) → AllZip HasLeg lines legs → HasNoEmptyWait legs
no_empty [] [] each = tt
no_empty [] (leg ∷ legs) each = absurd each
no_empty (line ∷ lines) [] each = absurd each
no_empty (line ∷ lines) (Drive arc ∷ legs) each = (λ same. cc, no_empty lines legs each.1)
no_empty (line ∷ lines) (Wait minutes ∷ legs) each = (some_wait minutes (leg_found line (Wait minutes) each.0).some, no_empty lines legs each.1)

-- the first line that may be bad is the one behind those that have a leg
passed : (lines : List (List ℕ)) (legs : List Leg) (more : List (List ℕ)) → AllZip HasLeg lines legs
    → position_or_len is_bad (lines ++ more) ≡ length legs + position_or_len is_bad more
passed [] [] more each = omega arith
passed [] (y ∷ legs) more each = absurd each
passed (x ∷ lines) [] more each = absurd each
passed (x ∷ lines) (y ∷ legs) more each = rw each.0 (let rest = passed lines legs more each.1 in omega arith)

-- the legs of the lines before, and what is left of the file
pub record HasReadLegs (bytes rest : List ℕ) (legs : List Leg) : Type 0 where
  pub before : List (List ℕ)
  pub lines : lines_of bytes ≡ before ++ lines_of rest
  pub good : map leg_of before ≡ map Some legs
  pub few : length legs + length rest ≤ length bytes

pub read_none : (bytes : List ℕ) → HasReadLegs bytes bytes []
read_none bytes = record { before = []; lines = refl; good = refl; few = omega arith }

-- one line more
pub read_more : (bytes rest line more : List ℕ) (legs : List Leg) (leg : Leg) → HasReadLegs bytes rest legs
    → lines_of rest ≡ line ∷ lines_of more → length more < length rest → leg_of line ≡ Some leg → HasReadLegs bytes more (legs ++ leg ∷ [])
read_more bytes rest line more legs leg h cuts less here =
    let count : length (legs ++ leg ∷ []) ≡ length legs + 1 = length-append legs (leg ∷ []) in
    let few = h.few in
    record {
      before = h.before ++ line ∷ [];
      lines = h.lines ∙ ap (λ (ls : List (List ℕ)). h.before ++ ls) cuts ∙ sym (append_assoc h.before (line ∷ []) (lines_of more));
      good = map-append leg_of h.before (line ∷ [])
          ∙ ap (λ (os : List (Option Leg)). os ++ leg_of line ∷ []) h.good
          ∙ ap (λ (o : Option Leg). map Some legs ++ o ∷ []) here
          ∙ sym (map-append Some legs (leg ∷ []));
      few = omega arith;
    }

-- a bad line
pub line_refused : (bytes rest line more : List ℕ) (legs : List Leg) → HasReadLegs bytes rest legs → lines_of rest ≡ line ∷ lines_of more
    → leg_of line ≡ None → bad_line_of bytes ≡ Some (length legs + 1)
unfolding bad_line_of
line_refused bytes rest line more legs h cuts none =
    let all : lines_of bytes ≡ h.before ++ line ∷ lines_of more = h.lines ∙ ap (λ (ls : List (List ℕ)). h.before ++ ls) cuts in
    let here : position_or_len is_bad (line ∷ lines_of more) ≡ 0 = ap (λ o. cond (not (not (is_some o))) (1 + position_or_len is_bad (lines_of more)) 0) none in
    let each = zipped h.before legs h.good in
    let place : position_or_len is_bad (h.before ++ line ∷ lines_of more) ≡ length legs = passed h.before legs (line ∷ lines_of more) each ∙ omega arith in
    let count = length-append h.before (line ∷ lines_of more) in
    let long = AllZip-long HasLeg h.before legs each in
    let inside : length legs < length (h.before ++ line ∷ lines_of more) = omega arith in
    ap (λ (ls : List (List ℕ)). option_map (λ k. k + 1) (position is_bad ls)) all
    ∙ ap (λ k. option_map (λ k. k + 1) (cond (nat_lt k (length (h.before ++ line ∷ lines_of more))) (Some k) None)) place
    ∙ ap (λ b. option_map (λ k. k + 1) (cond b (Some (length legs)) None)) (lt-ltb (length legs) (length (h.before ++ line ∷ lines_of more)) inside)

-- the end of the file
all_lines : (bytes rest : List ℕ) (legs : List Leg) (h : HasReadLegs bytes rest legs) → rest ≡ [] → lines_of bytes ≡ h.before
all_lines bytes rest legs h none = h.lines ∙ ap (λ r. h.before ++ lines_of r) none ∙ append-nil h.before

pub end_legs : (bytes rest : List ℕ) (legs : List Leg) → HasReadLegs bytes rest legs → rest ≡ [] → legs ≡ legs_of bytes
unfolding legs_of
end_legs bytes rest legs h none = legs_are h.before legs (zipped h.before legs h.good) ∙ ap (filter_map leg_of) (sym (all_lines bytes rest legs h none))

pub end_waits : (bytes rest : List ℕ) (legs : List Leg) → HasReadLegs bytes rest legs → HasNoEmptyWait legs
end_waits bytes rest legs h = no_empty h.before legs (zipped h.before legs h.good)

no_bad : (lines : List (List ℕ)) (legs : List Leg) → AllZip HasLeg lines legs → position is_bad lines ≡ None
no_bad lines legs each =
    let place : position_or_len is_bad lines ≡ length lines = all_good lines legs each in
    ap (λ b. cond b (Some (position_or_len is_bad lines)) None) (le-ltb (position_or_len is_bad lines) (length lines) (omega (arith, place)))
  where
    all_good : (lines : List (List ℕ)) (legs : List Leg) → AllZip HasLeg lines legs → position_or_len is_bad lines ≡ length lines
    all_good [] [] each = refl
    all_good [] (y ∷ legs) each = absurd each
    all_good (x ∷ lines) [] each = absurd each
    all_good (x ∷ lines) (y ∷ legs) each = rw each.0 (let rest = all_good lines legs each.1 in omega arith)

pub end_faultless : (bytes rest : List ℕ) (legs : List Leg) → HasReadLegs bytes rest legs → rest ≡ [] → bad_line_of bytes ≡ None
unfolding bad_line_of
end_faultless bytes rest legs h none =
    ap (λ (ls : List (List ℕ)). option_map (λ k. k + 1) (position is_bad ls)) (all_lines bytes rest legs h none)
    ∙ ap (option_map (λ k. k + 1)) (no_bad h.before legs (zipped h.before legs h.good))

-- each line has its leg, where none is bad
one_more : (line : List ℕ) (lines : List (List ℕ)) (o : Option Leg) → leg_of line ≡ o
    → suc (length lines) ≤ cond (not (not (is_some o))) (1 + position_or_len is_bad lines) 0
    → (length lines ≤ position_or_len is_bad lines → AllZip IsLegLine lines (filter_map leg_of lines))
    → AllZip IsLegLine (line ∷ lines) (cons_option o (filter_map leg_of lines))
one_more line lines None is few rest = absurd (omega (arith, few))
one_more line lines (Some leg) is few rest = (leg_found line leg is, rest (omega (arith, few)))

each_leg : (lines : List (List ℕ)) → length lines ≤ position_or_len is_bad lines → AllZip IsLegLine lines (filter_map leg_of lines)
each_leg [] few = tt
each_leg (line ∷ lines) few = one_more line lines (leg_of line) refl few (each_leg lines)

pub each_line : (bytes : List ℕ) → bad_line_of bytes ≡ None → AllZip IsLegLine (lines_of bytes) (legs_of bytes)
unfolding bad_line_of legs_of
each_line bytes none = each_leg (lines_of bytes) (few (lines_of bytes) none)
  where
    few : (lines : List (List ℕ)) → option_map (λ k. k + 1) (position is_bad lines) ≡ None → length lines ≤ position_or_len is_bad lines
    few lines is = found_within (position_or_len is_bad lines) (length lines) (position_or_len is_bad lines)
        (none_mapped (λ (k : ℕ). k + 1) (position is_bad lines) is)
