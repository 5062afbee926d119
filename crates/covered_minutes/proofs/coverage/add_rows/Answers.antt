use Rattle.std.proofs.Common.{◌≡◌, ⊎_elim, true, ◌-◌, ◌<◌, ◌≤◌, ◌||◌, ◌&&◌, ◌+ℤ◌, pos, unsigned_abs, Some, Bool}
use Rattle.std.proofs.Common.{List, ◌∷◌, length, get_or, take, drop, All, AllPairs, IsTrue, refl, sym, subst, ◌∙◌, ap, arith}
use Rattle.std.proofs.lemmas.Bool.{and_parts, leb-true, ltb-true, cases_eq}
use Rattle.std.proofs.lemmas.List.Elements.{All-tail}
use Rattle.route_base.proofs.Lists.{first_and_rest}
use Rattle.route_base.specs.Runs.{has_minute, any_has}
use Rattle.route_base.proofs.Logic.{or-false}
use Rattle.zone_rules.specs.Zones.{is_offset, row_at}
use Rattle.zone_rules.specs.declared.rows.ZoneRow.{ZoneRow}
use Rattle.zone_rules.proofs.SoundZones.{some_there}
use Rattle.covered_minutes.specs.Coverage.{covered_at}
use Rattle.covered_minutes.specs.LocalDays.{local_covered}
use Rattle.covered_minutes.proofs.Algebra.{or_part, and_agree}
use Rattle.covered_minutes.proofs.Changes.{first_counts, others_count, rows_tail, before_starts, covered_by, both_parts}
use Rattle.covered_minutes.proofs.Changes.{no_minutes, starts_increase}
use Rattle.covered_minutes.proofs.coverage.add_rows.Goals as goal

pub rows-init : goal.rows-init
rows-init c = record {
  begun = omega arith;
  upto = omega arith;
  ended = λ none. absurd (omega (arith, none, some_there c.args.rows.now c.requires.zone.some));
  rising = starts_increase c.args.rows.now c.requires.zone;
  offsets = c.requires.zone.offsets;
  same = λ t late early. refl;
  minutes = λ t.
      (let o : Bool = any_has c.args.runs.now.items t in
      let x : Bool = covered_at c.args.hours.now c.args.holidays.now c.args.rows.now t in
      sym (ap (λ b. o || (b && x)) (no_minutes c.args.window.lo t) ∙ or-false o));
}

pub rows-preserved : goal.rows-preserved
rows-preserved c =
    let inv = c.rows.invariant in
    let rules = c.args.hours.now in
    let holidays = c.args.holidays.now in
    let rows = c.args.rows.now in
    let window = c.args.window in
    let left = c.rows.left.now in
    let from = c.rows.from in
    let until = c.change_after-until.result in
    let change = c.change_after-until.ensures in
    let one = c.in-len1-up.len_at_least in
    let none : ZoneRow = record { start = 0; offset = pos 0 } in
    let row : ZoneRow = get_or left 0 (record { start = 0; offset = pos 0 }) in
    let rest : List ZoneRow = take (length left - 1) (drop 1 left) in
    let split : left ≡ row ∷ rest = first_and_rest left none one in
    let rising : AllPairs (λ p q. p.start < q.start) rest =
    rows_tail row rest (subst (λ (rs : List ZoneRow). AllPairs (λ p q. p.start < q.start) rs) split inv.rising) in
    record {
      begun = omega (arith, inv.begun, change.from);
      upto = omega (arith, inv.upto, change.end);
      ended = λ e. (let is = change.none e in omega (arith, is));
      rising = rising;
      offsets = All-tail (λ r. IsTrue (is_offset r.offset)) row rest
          (subst (λ (rs : List ZoneRow). All (λ r. IsTrue (is_offset r.offset)) rs) split inv.offsets);
      same = λ t late early.
          (let some : 0 < length rest =
          ⊎_elim
          (λ (e : length rest ≡ 0). (let is = change.none e in absurd (omega (arith, is, late, early))))
          (λ (other : length rest ≡ 0 → ⊥). omega (arith, other))
          (cases_eq (length rest) 0) in
          let start = change.some (omega (arith, late, early)) none in
          sym (others_count row rest t none some (omega (arith, start, late)))
          ∙ ap (λ rs. row_at rs t) (sym split)
          ∙ inv.same t (omega (arith, late, change.from)) early);
      minutes = λ t.
          (let o : Bool = any_has c.args.runs.now.items t in
          let a : Bool = has_minute t (record { lo = window.lo; hi = from }) in
          let b : Bool = has_minute t (record { lo = from; hi = until }) in
          let x : Bool = covered_at rules holidays rows t in
          let y : Bool = local_covered rules holidays (unsigned_abs (pos t +ℤ row.offset)) in
          c.in_ok-add_minutes.ensures t
          ∙ ap (λ w. w || (b && y)) (inv.minutes t)
          ∙ ap (λ w. (o || (a && x)) || w) (and_agree b y x (λ (inside : b ≡ true).
          let parts = and_parts _ _ inside in
          let low : from ≤ t = leb-true _ _ parts.0 in
          let high : t < until = ltb-true _ _ parts.1 in
          let counts : row_at rows t ≡ Some row =
          sym (inv.same t low (omega (arith, low, high, change.end)))
          ∙ ap (λ rs. row_at rs t) split
          ∙ first_counts row rest t (before_starts rest t rising (λ d some. (let start = change.start d some in omega (arith, start, low, high)))) in
          covered_by rules holidays rows row t counts))
          ∙ or_part o a b x
          ∙ ap (λ w. o || (w && x)) (both_parts window.lo from until t inv.begun change.from));
    }
