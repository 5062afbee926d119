-- What the latest minutes keep while they are made, and that they are right for each state.
use Rattle.std.proofs.Common.{◌≡◌, ◌⊎◌, inl, inr, ⊎_elim, ℕ, suc, ◌-◌, ◌≤◌, ◌<◌, Option, Some, List, [], ◌∷◌, ◌++◌, length, refl, sym, ◌∙◌, ap, subst, arith}
use Rattle.std.specs.Prelude.{slice_get, unwrap_or}
use Rattle.std.proofs.lemmas.Bool.{cases_lt}
use Rattle.std.proofs.lemmas.List.{length_push}
use Rattle.std.proofs.lemmas.Option.{same_Some, slice_get_within, slice_get-get_or}
use Rattle.route_base.specs.declared.types.Bound.{Bound}
use Rattle.route_base.proofs.Items.{slice_get-append_left, slice_get-push_end}
use Rattle.state_dominance.specs.Inside.Product.{Ruler, IsStaged, AreLatest}
use Rattle.ruled_states.specs.Inside.Latest.{latest_by, IsInTime, AreInTime}

-- what a list with one more has at a place
pushed_cases : (xs : List ℕ) (y j x : ℕ) → slice_get (xs ++ y ∷ []) j ≡ Some x → (slice_get xs j ≡ Some x) ⊎ ((j ≡ length xs) × (y ≡ x))
pushed_cases xs y j x is = ⊎_elim
    (λ (less : j < length xs). inl (sym (slice_get-append_left xs (y ∷ []) j less) ∙ is))
    (λ (from : length xs ≤ j).
    let within = slice_get_within (xs ++ y ∷ []) j x is in
    let last : j ≡ length xs = omega (arith, from, within, length_push xs y) in
    inr (last, same_Some y x (sym (slice_get-push_end xs y) ∙ ap (slice_get (xs ++ y ∷ [])) (sym last) ∙ is)))
    (cases_lt j (length xs))

module _ (r : Ruler) (until : ℕ) (bound : ℕ → ℕ → Option Bound) where
  pub one_in_time : AreInTime r until bound (until ∷ [])
  one_in_time = record {
    first = refl;
    low = λ j x is. ⊎_elim
        (λ (none : slice_get [] j ≡ Some x). let bad = slice_get_within [] j x none in absurd (omega (arith, bad)))
        (λ (last : (j ≡ 0) × (until ≡ x)). omega (arith, last.1))
        (pushed_cases [] until j x is);
    steps = λ j after before here there. let bad = slice_get_within (until ∷ []) (suc j) before there in absurd (omega (arith, bad));
  }

  -- one more
  pub in_time_push : (minutes : List ℕ) (n latest next : ℕ) → length minutes ≡ suc n → slice_get minutes n ≡ Some latest → next ≤ latest
      → IsInTime r bound (length r.services - suc n) latest next → AreInTime r until bound minutes → AreInTime r until bound (minutes ++ next ∷ [])
  in_time_push minutes n latest next count last less step old = record {
    first = slice_get-append_left minutes (next ∷ []) 0 (omega (arith, count)) ∙ old.first;
    low = λ j x is. ⊎_elim
        (λ (was : slice_get minutes j ≡ Some x). old.low j x was)
        (λ (new : (j ≡ length minutes) × (next ≡ x)). let low = old.low n latest last in omega (arith, low, less, new.1))
        (pushed_cases minutes next j x is);
    steps = λ j after before here there. ⊎_elim
        (λ (was : slice_get minutes (suc j) ≡ Some before).
        let within = slice_get_within minutes (suc j) before was in
        old.steps j after before (sym (slice_get-append_left minutes (next ∷ []) j (omega (arith, within))) ∙ here) was)
        (λ (new : (suc j ≡ length minutes) × (next ≡ before)).
        let at : j ≡ n = omega (arith, new.0, count) in
        let earlier : slice_get minutes j ≡ Some after = sym (slice_get-append_left minutes (next ∷ []) j (omega (arith, at, count))) ∙ here in
        let same : latest ≡ after = same_Some latest after (sym last ∙ ap (slice_get minutes) (sym at) ∙ earlier) in
        subst (λ i. IsInTime r bound (length r.services - suc i) after before) (sym at)
        (subst (λ x. IsInTime r bound (length r.services - suc n) x before) same
        (subst (λ x. IsInTime r bound (length r.services - suc n) latest x) new.1 step)))
        (pushed_cases minutes next (suc j) before there);
  }

  -- with one for each service they are right
  module _ (minutes : List ℕ) (count : length minutes ≡ suc (length r.services)) (stages : IsStaged r) (all : AreInTime r until bound minutes) where
    abbrev latest : ℕ → ℕ
    latest k = latest_by r minutes until k

    abbrev latest_at : ℕ → ℕ
    latest_at stage = unwrap_or (slice_get minutes (length r.services - stage)) until

    there : (stage : ℕ) → slice_get minutes (length r.services - stage) ≡ Some (latest_at stage)
    there stage =
        let is = slice_get-get_or minutes (length r.services - stage) 0 (omega (arith, count)) in
        is ∙ ap (λ (n : ℕ). Some n) (sym (ap (λ o. unwrap_or o until) is))

    equal : (j k : ℕ) → r.stage j ≡ r.stage k → latest j ≡ latest k
    equal j k same = ap latest_at same

    pub are_latest : AreLatest r until bound (latest_by r minutes until)
    are_latest = record {
      low = λ k. all.low (length r.services - r.stage k) (latest k) (there (r.stage k));
      ends = λ k ends.
          let none : length r.services - r.stage k ≡ 0 = omega (arith, stages.ends k ends) in
          same_Some (latest k) until (sym (there (r.stage k)) ∙ ap (slice_get minutes) none ∙ all.first);
      falls = λ j k better. let same = equal j k (stages.falls j k better) in omega (arith, same);
      drives = λ k length next is. let same = equal next k (stages.drive k length next is) in omega (arith, same);
      rests = λ k length. let same = equal (r.rest k length) k (stages.rest k length) in omega (arith, same);
      serves = λ i k next c h is allowed far.
          let at = stages.serve k i next allowed in
          let within = slice_get_within r.services i c is in
          let after : length r.services - r.stage next ≡ length r.services - suc i = ap (λ n. length r.services - n) at.1 in
          let before : length r.services - r.stage k ≡ suc (length r.services - suc i) = omega (arith, within, at.0) in
          let place : i ≡ length r.services - suc (length r.services - suc i) = omega (arith, within) in
          all.steps (length r.services - suc i) (latest next) (latest k) (ap (slice_get minutes) (sym after) ∙ there (r.stage next))
          (ap (slice_get minutes) (sym before) ∙ there (r.stage k)) next c h (ap (slice_get r.services) (sym place) ∙ is)
          (at.1 ∙ ap suc place) far;
    }
