-- Landed points stay landed while only later costs change.
use Rattle.std.proofs.Common.{◌≡◌, inl, inr, ⊎_elim, ℕ, ◌≤◌, ◌∙◌, subst, arith}
use Rattle.route_base.specs.Setting.{Setting}
use Rattle.route_base.specs.Itinerary.{Step, Moves}
use Rattle.route_base.specs.declared.types.Request.{Request}
use Rattle.plain_search.specs.Inside.Costs.{ChangesLater, ComesByStep, ComesBySteps, IsRelaxedFrom}

pub changes-append : (a b c : ℕ → ℕ → ℕ) (t : ℕ) → ChangesLater a b t → ChangesLater b c t → ChangesLater a c t
changes-append a b c t one two = record {
  less = λ v k. omega (arith, one.less v k, two.less v k);
  same = λ v k le. two.same v k le ∙ one.same v k le;
}

pub lands_kept : (s : Setting) (until : ℕ) (old new : ℕ → ℕ → ℕ) (t : ℕ) (x : Step) (v k : ℕ) → ChangesLater old new t → k ≤ t
    → IsRelaxedFrom s until old x v k → IsRelaxedFrom s until new x v k
lands_kept s until old new t x v k changes le lands known q move =
    let same = changes.same v k le in
    let before = lands (omega (arith, same, known)) q (subst (λ (c : ℕ). Moves s until x (record { node = v; minute = k; cost = c }) q) same move) in
    omega (arith, before, changes.less q.node q.minute)

pub founded_later : (s : Setting) (r : Request) (cost : ℕ → ℕ → ℕ) (now later : ℕ) → now ≤ later → ComesBySteps s r cost now
    → ComesBySteps s r cost later
founded_later s r cost now later le founded = record {
  start = founded.start;
  each = λ v t known. ⊎_elim
      (λ (first : (v ≡ r.origin.0) × (t ≡ r.depart)). inl first)
      (λ (from : ComesByStep s r.until cost now v t). inr
      (record {
        step = from.step;
        node = from.node;
        minute = from.minute;
        early = omega (arith, from.early, le);
        known = from.known;
        move = from.move;
      }))
      (founded.each v t known);
}
