-- The least value of a label that fits.
use Rattle.std.proofs.Common.{◌≡◌, ◌⊎◌, inl, inr, ⊎_elim, ℕ, zero, suc, ◌≤◌, ◌<◌, min, Bool, true, false, Option, Some, None, List, [], ◌∷◌, ◌++◌, refl, sym, ◌∙◌, ap, arith}
use Rattle.std.specs.Prelude.{if◌then◌else◌, Contains, IfSome}
use Rattle.std.proofs.lemmas.Bool.{cases_lt}
use Rattle.std.proofs.lemmas.Option.{same_Some}
use Rattle.route_base.specs.declared.types.Bound.{Bound}
use Rattle.function_merge.specs.Least.{least_of}
use Rattle.state_dominance.specs.Inside.Product.{Ruler}
use Rattle.ruled_states.specs.Inside.Labels.{fit_value, least_fit, both_parts, far_labels, label_bound, labels_at, labels_for, IsSure}
use Rattle.ruled_states.specs.declared.labels.Label.{Label}
use Rattle.ruled_states.proofs.Least.{least_of-assoc}

least_left : (a : ℕ) (b : Option ℕ) → (y : ℕ) × (least_of (Some a) b ≡ Some y) × (y ≤ a)
least_left a None = (a, refl, omega arith)
least_left a (Some b) = (min a b, refl, omega arith)

least_right : (a : Option ℕ) (b : ℕ) → (y : ℕ) × (least_of a (Some b) ≡ Some y) × (y ≤ b)
least_right None b = (b, refl, omega arith)
least_right (Some a) b = (min a b, refl, omega arith)

min_cases : (m n x : ℕ) → min m n ≡ x → (m ≡ x) ⊎ (n ≡ x)
min_cases m n x same = ⊎_elim
    (λ (less : m < n). inl (omega (arith, less, same)))
    (λ (more : n ≤ m). inr (omega (arith, more, same)))
    (cases_lt m n)

least_cases : (a b : Option ℕ) (y : ℕ) → least_of a b ≡ Some y → (a ≡ Some y) ⊎ (b ≡ Some y)
least_cases None b y is = inr is
least_cases (Some a) None y is = inl is
least_cases (Some a) (Some b) y is = by (same_Some (min a b) y is)
  where
    by : min a b ≡ y → (Some a ≡ Some y) ⊎ (Some b ≡ Some y)
    by same = ⊎_elim
        (λ (first : a ≡ y). inl (ap (λ (n : ℕ). Some n) first))
        (λ (second : b ≡ y). inr (ap (λ (n : ℕ). Some n) second))
        (min_cases a b y same)

module _ (r : Ruler) where
  fit_yes : (k : ℕ) (l : Label) → r.fits k l.need ≡ true → fit_value r k l ≡ Some l.value
  fit_yes k l fits = ap (λ b. if b then Some l.value else None) fits

  -- a label that fits is worth no less than the least
  pub fit_least : (ls : List Label) (k : ℕ) (l : Label) → Contains ls l → r.fits k l.need ≡ true → (y : ℕ) × (least_fit r ls k ≡ Some y) × (y ≤ l.value)
  fit_least [] k l one fits = absurd (omega (arith, one.1))
  fit_least (x ∷ xs) k l (zero, within, is) fits =
      let same : x ≡ l = is in
      let here : fit_value r k x ≡ Some l.value = ap (fit_value r k) same ∙ fit_yes k l fits in
      let least = least_left l.value (least_fit r xs k) in
      (least.0, ap (λ o. least_of o (least_fit r xs k)) here ∙ least.1, least.2)
  fit_least (x ∷ xs) k l (suc n, within, is) fits =
      let rest = fit_least xs k l (n, omega (arith, within), is) fits in
      let least = least_right (fit_value r k x) rest.0 in
      (least.0, ap (λ o. least_of (fit_value r k x) o) rest.1 ∙ least.1, omega (arith, least.2, rest.2))

  fit_cases : (k : ℕ) (l : Label) (y : ℕ) → fit_value r k l ≡ Some y → (r.fits k l.need ≡ true) × (l.value ≡ y)
  fit_cases k l y = by (r.fits k l.need) refl
    where
      by : (b : Bool) → r.fits k l.need ≡ b → (if b then Some l.value else None) ≡ Some y → (r.fits k l.need ≡ true) × (l.value ≡ y)
      by true fits is = (fits, same_Some l.value y is)
      by false fits is = let bad : None ≡ Some y = is in cc

  -- the least value is that of a label that fits
  pub least_is : (ls : List Label) (k y : ℕ) → least_fit r ls k ≡ Some y → (l : Label) × Contains ls l × (r.fits k l.need ≡ true) × (l.value ≡ y)
  least_is [] k y is = let bad : None ≡ Some y = is in cc
  least_is (x ∷ xs) k y is = ⊎_elim
      (λ (here : fit_value r k x ≡ Some y). let h = fit_cases k x y here in (x, (0, omega arith, refl), h.0, h.1))
      (λ (later : least_fit r xs k ≡ Some y). let h = least_is xs k y later in (h.0, (suc h.1.0, omega (arith, h.1.1), h.1.2), h.2, h.3))
      (least_cases (fit_value r k x) (least_fit r xs k) y is)

-- the least of two lists is the lesser of those of each
pub least_append : (r : Ruler) (xs ys : List Label) (k : ℕ) → least_fit r (xs ++ ys) k ≡ least_of (least_fit r xs k) (least_fit r ys k)
least_append r [] ys k = refl
least_append r (x ∷ xs) ys k =
    ap (λ o. least_of (fit_value r k x) o) (least_append r xs ys k)
    ∙ sym (least_of-assoc (fit_value r k x) (least_fit r xs k) (least_fit r ys k))

pub both_is : (m c : Option ℕ) (b : Bound) → both_parts m c ≡ Some b → (m ≡ Some b.minutes) × (c ≡ Some b.cost)
both_is None c b is = let bad : None ≡ Some b = is in cc
both_is (Some m) None b is = let bad : None ≡ Some b = is in cc
both_is (Some m) (Some c) b is =
    let made : Bound = record { minutes = m; cost = c } in
    let same : made ≡ b = same_Some made b is in
    (ap (λ (w : Bound). Some w.minutes) same, ap (λ (w : Bound). Some w.cost) same)

-- no bound of a stage has more minutes than an own label that is sure to fit
sure_most : (r : Ruler) (own far : List Label) (costs : Option ℕ) (stage value : ℕ) → IsSure r own stage value → (k : ℕ) (b : Bound) → r.stage k ≡ stage
    → both_parts (least_fit r (own ++ far) k) costs ≡ Some b → b.minutes ≤ value
sure_most r own far costs stage value sure k b at is =
    let y = fit_least r own k sure.label sure.is_one (sure.fits k at) in
    let m = least_left y.0 (least_fit r far k) in
    let whole : least_fit r (own ++ far) k ≡ Some m.0 = least_append r own far k ∙ (ap (λ o. least_of o (least_fit r far k)) y.1 ∙ m.1) in
    let same : m.0 ≡ b.minutes = same_Some m.0 b.minutes (sym whole ∙ (both_is (least_fit r (own ++ far) k) costs b is).0) in
    omega (arith, same, m.2, y.2, sure.value_is)

pub sure_bounds : (r : Ruler) (minutes costs : List (List Label)) (v stage : ℕ) (o : Option ℕ) → IfSome o (IsSure r (labels_at minutes v) stage)
    → IfSome o (λ most. (k : ℕ) (b : Bound) → r.stage k ≡ stage → label_bound r minutes costs v k ≡ Some b → b.minutes ≤ most)
sure_bounds r minutes costs v stage None sure = tt
sure_bounds r minutes costs v stage (Some most) sure = λ k b at is.
    sure_most r (labels_at minutes v) (far_labels minutes) (least_fit r (labels_for costs v) k) stage most sure k b at is
