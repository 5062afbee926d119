-- The tour that the first walk over states tells is the first: a least walk to one minute that comes later tells the same tour or a later one.
use Rattle.std.proofs.Common.{◌≡◌, ◌⊎◌, inl, inr, ⊎_elim, ℕ, zero, suc, ◌+◌, ◌-◌, ◌/◌, ◌%◌, ◌≤◌, ◌<◌, Some, List, [], ◌∷◌, ◌++◌}
use Rattle.std.proofs.Common.{length, map, replicate, refl, sym, ◌∙◌, ap, subst, arith, length-append}
use Rattle.std.proofs.lemmas.Bool.{cases_lt, cases_order}
use Rattle.std.specs.Prelude.{reverse}
use Rattle.std.proofs.lemmas.List.{reverse-reverse}
use Rattle.std.proofs.lemmas.Nat.{div-add-mod'}
use Rattle.std.proofs.lemmas.Option.{same_Some}
use Rattle.std.proofs.Math.Nat.{mul-le-mul_right, mod-lt}
use Rattle.route_base.specs.Setting.{Setting, Road}
use Rattle.route_base.specs.Itinerary.{Step, drive, wait}
use Rattle.route_base.specs.Net.{at_number}
use Rattle.route_base.proofs.Arcs.{TakesTime}
use Rattle.drive_breaks.specs.Rested.{IsStretch}
use Rattle.drive_breaks.proofs.LastBreak.{some_stretch, stretch_least}
use Rattle.drive_breaks.proofs.Since.{HasSince, has_first, has_wait, has_break}
use Rattle.drive_states.specs.declared.rule.BreakRule.{BreakRule}
use Rattle.ruled_search.specs.Routes.{AreAlikeSteps, ComesRuledBefore, IsAlikeStep, IsKindBefore, IsRuledStepBefore, state_before}
use Rattle.state_dominance.specs.Serving.{served_limit}
use Rattle.stop_tour.specs.Tours.{IsTourStepBefore, TourPosition, TourStep, TourWalks, go, serve}
use Rattle.stop_tour.specs.declared.stops.Stop.{Stop}
use Rattle.rested_tours.specs.RestedTours.{ComesRestedTourBefore, seen}
use Rattle.rested_tours.proofs.Reading.{read, read_road, reads, reads_reverse}
use Rattle.rested_tours.proofs.StateSteps.{HasDriven, HasStretch, IsAnyStep, IsFoundBack, IsLeastBack, IsState, IsTraced, RestsOnce, alike_read, alike_reads, minutes_before, seen_of}
use Rattle.rested_tours.proofs.TourWalking.{seen_behind, tour_later}

-- of two states with as many served stops that of fewer minutes has the smaller number
minutes_less : (j k : ℕ) → j % served_limit ≡ k % served_limit → j < k → j / served_limit < k / served_limit
minutes_less j k same less = ⊎_elim
    (λ (yes_less : j / served_limit < k / served_limit). yes_less)
    (λ (le : k / served_limit ≤ j / served_limit).
    absurd (omega (arith, less, same, div-add-mod' j served_limit, div-add-mod' k served_limit, mul-le-mul_right served_limit le)))
    (cases_lt (j / served_limit) (k / served_limit))

minutes_at_most : (j k : ℕ) → j % served_limit ≡ k % served_limit → j ≤ k → j / served_limit ≤ k / served_limit
minutes_at_most j k same le = ⊎_elim
    (λ (one : j ≡ k). omega (arith, ap (λ n. n / served_limit) one))
    (λ (apart : (j < k) ⊎ (k < j)). ⊎_elim
    (λ (less : j < k). omega (arith, minutes_less j k same less))
    (λ (more : k < j). absurd (omega (arith, more, le)))
    apart)
    (cases_order j k)

-- a walk that comes before another leads to no larger state
not_above : (base j k : ℕ) (xs ys : List Step) → ComesRuledBefore base j xs k ys → j ≤ k
not_above base j k [] ys before = omega (arith, before)
not_above base j k (x ∷ xs) [] before = omega (arith, before)
not_above base j k (x ∷ xs) (y ∷ ys) (inl less) = omega (arith, less)
not_above base j k (x ∷ xs) (y ∷ ys) (inr more) = omega (arith, more.0)

-- each road over states has one of three kinds
kinds : (x : ℕ) → (x % 3 ≡ 0) ⊎ ((x % 3 ≡ 1) ⊎ (x % 3 ≡ 2))
kinds x = by (x % 3) (mod-lt x (omega arith))
  where
    by : (n : ℕ) → n < 3 → (n ≡ 0) ⊎ ((n ≡ 1) ⊎ (n ≡ 2))
    by zero low = inl refl
    by (suc zero) low = inr (inl refl)
    by (suc (suc zero)) low = inr (inr refl)
    by (suc (suc (suc n))) low = absurd (omega (arith, low))

module _ (s : Setting) (stops : List Stop) (rule : BreakRule) (base until : ℕ) (start : TourPosition) (takes : TakesTime s)
    (long : (i : ℕ) (stop : Stop) → at_number stops i ≡ Some stop → 1 ≤ stop.service) (some : 1 ≤ rule.rest) where
  -- the first tour is the second, or comes before it
  abbrev pub IsFirstOf : List TourStep → List TourStep → Type 0
  IsFirstOf ts us = (ts ≡ us) ⊎ ComesRestedTourBefore s.road rule.rest ts us

  abbrev told : List Step → List TourStep
  told zs = reads rule.rest base zs

  abbrev Found : ℕ → List Step → TourPosition → Type 0
  Found j xs p = IsFoundBack s stops rule base until start j xs p

  abbrev Least : ℕ → List Step → TourPosition → Type 0
  Least k ys q = IsLeastBack s stops rule base until start k ys q

  abbrev HasDrivenHere : ℕ → List Step → Type 0
  HasDrivenHere = HasDriven s stops rule base until start

  abbrev HasStretchHere : ℕ → List Step → Type 0
  HasStretchHere = HasStretch s stops rule base until start

  abbrev AnyStepHere : Step → List Step → Type 0
  AnyStepHere = IsAnyStep s stops rule base until start

  abbrev RestsHere : Step → List Step → Type 0
  RestsHere = RestsOnce s stops rule base until start

  none_at_start : (k : ℕ) → IsStretch s.road rule.rest [] k → k ≡ 0
  none_at_start k stretch = omega (arith, stretch_least s.road rule [] 0 k (has_first s.road rule) stretch)

  none_behind_break : (back : List Step) (k : ℕ) → IsStretch s.road rule.rest (replicate rule.rest wait ++ back) k → k ≡ 0
  none_behind_break back k stretch =
      omega (arith, stretch_least s.road rule (replicate rule.rest wait ++ back) 0 k (has_break s.road rule back) stretch)

  has_waits : (n : ℕ) (back : List Step) (j : ℕ) → HasSince s.road rule back j → HasSince s.road rule (replicate n wait ++ back) j
  has_waits zero back j has = has
  has_waits (suc n) back j has = has_wait s.road rule (replicate n wait ++ back) j (has_waits n back j has)

  -- where less was driven since some break than is the other's stretch, the first tour comes before
  less_first : (ts us : List TourStep) (j k : ℕ) → 1 ≤ length ts → j < k → HasSince s.road rule (map seen ts) j → IsStretch s.road rule.rest (map seen us) k
      → IsFirstOf ts us
  less_first [] us j k any less has stretch = absurd (omega (arith, any))
  less_first (t ∷ ts) [] j k any less has stretch = absurd (omega (arith, less, none_at_start k stretch))
  less_first (t ∷ ts) (u ∷ us) j k any less has stretch =
      let x = some_stretch s.road rule.rest (map seen (t ∷ ts)) some in
      inr (inl (x.0, k, x.1, stretch, omega (arith, less, stretch_least s.road rule (map seen (t ∷ ts)) j x.0 has x.1)))

  -- where no more was driven, the last step decides
  step_first : (t u : TourStep) (ts us : List TourStep) (j k : ℕ) → j ≤ k → HasSince s.road rule (map seen (t ∷ ts)) j
      → IsStretch s.road rule.rest (map seen (u ∷ us)) k → IsTourStepBefore t u ⊎ ((t ≡ u) × IsFirstOf ts us) → IsFirstOf (t ∷ ts) (u ∷ us)
  step_first t u ts us j k le has stretch next =
      let x = some_stretch s.road rule.rest (map seen (t ∷ ts)) some in
      ⊎_elim
      (λ (even : x.0 ≡ k).
      let also : IsStretch s.road rule.rest (map seen (t ∷ ts)) k = subst (IsStretch s.road rule.rest (map seen (t ∷ ts))) even x.1 in
      ⊎_elim
      (λ (before : IsTourStepBefore t u). inr (inr ((k, also, stretch), inl before)))
      (λ (same : (t ≡ u) × IsFirstOf ts us). ⊎_elim
      (λ (all : ts ≡ us). inl (λ i. same.0 i ∷ all i))
      (λ (before : ComesRestedTourBefore s.road rule.rest ts us). inr (inr ((k, also, stretch), inr (same.0, before))))
      same.1)
      next)
      (λ (apart : (x.0 < k) ⊎ (k < x.0)). ⊎_elim
      (λ (less : x.0 < k). inr (inl (x.0, k, x.1, stretch, less)))
      (λ (more : k < x.0). absurd (omega (arith, more, le, stretch_least s.road rule (map seen (t ∷ ts)) j x.0 has x.1)))
      apart)
      (cases_order x.0 k)

  -- the same of tours whose last steps are known
  told_first : (t u : TourStep) (ts us top under : List TourStep) (j k : ℕ) → top ≡ t ∷ ts → under ≡ u ∷ us → j ≤ k → HasSince s.road rule (map seen top) j
      → IsStretch s.road rule.rest (map seen under) k → IsTourStepBefore t u ⊎ ((t ≡ u) × IsFirstOf ts us) → IsFirstOf top under
  told_first t u ts us top under j k first second le has stretch next =
      subst (λ (w : List TourStep). IsFirstOf w under) (sym first)
      (subst (λ (w : List TourStep). IsFirstOf (t ∷ ts) w) (sym second)
      (step_first t u ts us j k le
      (subst (λ (w : List TourStep). HasSince s.road rule (map seen w) j) first has)
      (subst (λ (w : List TourStep). IsStretch s.road rule.rest (map seen w) k) second stretch)
      next))

  -- waits of both that end no break
  waits_first : (n : ℕ) (ts us : List TourStep) (j k : ℕ) → n < rule.rest → j ≤ k → HasSince s.road rule (map seen ts) j
      → ((i : ℕ) → i < rule.rest → IsStretch s.road rule.rest (replicate i wait ++ map seen us) k) → IsFirstOf ts us
      → IsFirstOf (map go (replicate n wait) ++ ts) (map go (replicate n wait) ++ us)
  waits_first zero ts us j k less le has each first = first
  waits_first (suc n) ts us j k less le has each first =
      step_first (go wait) (go wait) (map go (replicate n wait) ++ ts) (map go (replicate n wait) ++ us) j k le
      (subst (λ (w : List Step). HasSince s.road rule w j) (sym (seen_behind (replicate (suc n) wait) ts)) (has_waits (suc n) (map seen ts) j has))
      (subst (λ (w : List Step). IsStretch s.road rule.rest w k) (sym (seen_behind (replicate (suc n) wait) us)) (each (suc n) less))
      (inr (refl, waits_first n ts us j k (omega (arith, less)) le has each first))

  -- what a drive, a rest and a service tell
  reads_drive : (x : ℕ) (zs : List Step) → x % 3 ≡ 0 → told (drive x ∷ zs) ≡ go (drive (x / 3 % base)) ∷ told zs
  reads_drive x zs kind = ap (λ n. read_road rule.rest n (x / 3 % base) ++ told zs) kind

  reads_break : (x : ℕ) (zs : List Step) → x % 3 ≡ 1 → told (drive x ∷ zs) ≡ map go (replicate rule.rest wait) ++ told zs
  reads_break x zs kind = ap (λ n. read_road rule.rest n (x / 3 % base) ++ told zs) kind

  reads_rest : (x : ℕ) (zs : List Step) → x % 3 ≡ 1 → told (drive x ∷ zs) ≡ go wait ∷ (map go (replicate (rule.rest - 1) wait) ++ told zs)
  reads_rest x zs kind =
      let whole : rule.rest ≡ suc (rule.rest - 1) = omega (arith, some) in
      reads_break x zs kind ∙ ap (λ n. map go (replicate n wait) ++ told zs) whole

  reads_service : (x : ℕ) (zs : List Step) → x % 3 ≡ 2 → told (drive x ∷ zs) ≡ serve (suc (x / 3 % base)) ∷ told zs
  reads_service x zs kind = ap (λ n. read_road rule.rest n (x / 3 % base) ++ told zs) kind

  -- each step over states tells some steps
  reads_some : (x : Step) (zs : List Step) → 1 ≤ length (told (x ∷ zs))
  reads_some wait zs = omega arith
  reads_some (drive x) zs = ⊎_elim
      (λ (kind : x % 3 ≡ 0). omega (arith, ap (λ (w : List TourStep). length w) (reads_drive x zs kind)))
      (λ (other : (x % 3 ≡ 1) ⊎ (x % 3 ≡ 2)). ⊎_elim
      (λ (kind : x % 3 ≡ 1). omega (arith, ap (λ (w : List TourStep). length w) (reads_rest x zs kind)))
      (λ (kind : x % 3 ≡ 2). omega (arith, ap (λ (w : List TourStep). length w) (reads_service x zs kind)))
      other)
      (kinds x)

  module _ (known : ℕ → List Step → Type 0) (stepped : Step → List Step → Type 0) where
    state_of : (k : ℕ) (zs : List Step) (q : TourPosition) → IsTraced s stops rule base until start known stepped k zs q
        → IsState s stops rule base until start known k (seen_of s stops rule base until start zs) q
    state_of k [] q traced = traced.0
    state_of k (z ∷ zs) q traced = traced.0

    later : (k : ℕ) (zs : List Step) (q : TourPosition) → IsTraced s stops rule base until start known stepped k zs q
        → length (told zs) + start.at.minute ≤ q.at.minute
    later k [] q traced = omega (arith, ap (λ (w : TourPosition). w.at.minute) traced.1)
    later k (z ∷ zs) q traced = omega (
      arith,
      later (state_before base z k) zs traced.2 traced.4,
      tour_later s stops until takes long (read rule.rest base z) traced.2 q traced.3,
      length-append (read rule.rest base z) (told zs),
    )

  -- the same steps to one minute begin at one minute, and with as many served stops
  same_before : (xs : List TourStep) (p q u v : TourPosition) → TourWalks s stops until xs p u → TourWalks s stops until xs q v
      → u.at.minute ≡ v.at.minute → u.served ≡ v.served → (p.at.minute ≡ q.at.minute) × (p.served ≡ q.served)
  same_before [] p q u v one two minute served = (
    omega (arith, ap (λ (w : TourPosition). w.at.minute) one, ap (λ (w : TourPosition). w.at.minute) two, minute),
    omega (arith, ap (λ (w : TourPosition). w.served) one, ap (λ (w : TourPosition). w.served) two, served),
  )
  same_before (go wait ∷ xs) p q u v one two minute served =
      let more = same_before xs one.0 two.0 u v one.2 two.2 minute served in
      (omega (arith, more.0, one.1.0.minute, two.1.0.minute), omega (arith, more.1, one.1.1, two.1.1))
  same_before (go (drive a) ∷ xs) p q u v one two minute served =
      let more = same_before xs one.0 two.0 u v one.2 two.2 minute served in
      let road = same_Some one.1.0.road two.1.0.road (sym one.1.0.is ∙ two.1.0.is) in (
        omega (arith, more.0, one.1.0.minute, two.1.0.minute, ap (λ (w : Road). w.minutes) road),
        omega (arith, more.1, one.1.1, two.1.1),
      )
  same_before (serve i ∷ xs) p q u v one two minute served =
      let more = same_before xs one.0 two.0 u v one.2 two.2 minute served in
      let stop = same_Some one.1.stop two.1.stop (sym one.1.is ∙ two.1.is) in (
        omega (arith, more.0, one.1.minute, two.1.minute, ap (λ (w : Stop). w.service) stop),
        omega (arith, one.1.next, two.1.next),
      )

  -- behind some step over states some steps are told
  some_told : (ys : List Step) (k : ℕ) → 1 ≤ k → IsStretch s.road rule.rest (map seen (told ys)) k → 1 ≤ length (told ys)
  some_told [] k any stretch = absurd (omega (arith, any, none_at_start k stretch))
  some_told (y ∷ ys) k any stretch = reads_some y ys

  -- a found walk whose last step is a wait, to the minute at which a rest behind other steps ends, has more steps
  wait_behind : (xs ys : List Step) (j k b : ℕ) (p q r : TourPosition) → Found j xs r → TourWalks s stops until (go wait ∷ []) r p → Least k (drive b ∷ ys) q
      → p.at.minute ≡ q.at.minute → b % 3 ≡ 1 → 1 ≤ length (told ys) → 1 ≤ length (told xs)
  wait_behind [] ys j k b p q r one walk two minute kind any = absurd (omega (
    arith,
    any,
    minute,
    some,
    later HasStretchHere RestsHere k (drive b ∷ ys) q two,
    ap (λ (w : List TourStep). length w) (reads_rest b ys kind),
    length-append (map go (replicate (rule.rest - 1) wait)) (told ys),
    ap (λ (w : TourPosition). w.at.minute) one.1,
    ap (λ (w : TourPosition). w.at.minute) walk.2,
    walk.1.0.minute,
  ))
  wait_behind (x ∷ xs) ys j k b p q r one walk two minute kind any = reads_some x xs

  -- the found walk ends with a wait, and the least one with a rest: before the wait the found one was at a break already
  rest_behind : (b : ℕ) (xs ys : List Step) (j k : ℕ) (p q : TourPosition) → Found j (wait ∷ xs) p → Least k (drive b ∷ ys) q → p.at.minute ≡ q.at.minute
      → j ≡ k → b % 3 ≡ 1 → IsFirstOf (told xs) (map go (replicate (rule.rest - 1) wait) ++ told ys)
  rest_behind b xs ys j k p q one two minute same kind =
      let once = two.1 kind in
      let none : k / served_limit ≡ 0 = none_behind_break (seen_of s stops rule base until start ys) (k / served_limit)
      (subst (λ (w : List Step). IsStretch s.road rule.rest w (k / served_limit))
      (ap (map seen) (reads_break b ys kind) ∙ seen_behind (replicate rule.rest wait) (told ys)) two.0.minutes) in
      less_first (told xs) (map go (replicate (rule.rest - 1) wait) ++ told ys) (j / served_limit) (minutes_before base b)
      (wait_behind xs ys j k b p q one.2 one.4 one.3 two minute kind (some_told ys (minutes_before base b) once.some (once.stays 0 (omega (arith, some)))))
      (omega (arith, none, once.some, ap (λ n. n / served_limit) same))
      (state_of HasDrivenHere AnyStepHere j xs one.2 one.4).minutes
      (subst (λ (w : List Step). IsStretch s.road rule.rest w (minutes_before base b)) (sym (seen_behind (replicate (rule.rest - 1) wait) (told ys)))
      (once.stays (rule.rest - 1) (omega (arith, some))))

  -- two walks that end in one state at one minute, of which the first is a found one and the second a least one
  record AreOneEnd (x y : Step) (xs ys : List Step) (j k : ℕ) (p q : TourPosition) : Type 0 where
    pub found : Found j (x ∷ xs) p
    pub least : Least k (y ∷ ys) q
    pub minute : p.at.minute ≡ q.at.minute
    pub served : p.served ≡ q.served
    pub state : j ≡ k

  -- the last steps of both decide
  last_first : (t u : TourStep) (ts us : List TourStep) (x y : Step) (xs ys : List Step) (j k : ℕ) (p q : TourPosition) → AreOneEnd x y xs ys j k p q
      → told (x ∷ xs) ≡ t ∷ ts → told (y ∷ ys) ≡ u ∷ us → IsTourStepBefore t u ⊎ ((t ≡ u) × IsFirstOf ts us) → IsFirstOf (told (x ∷ xs)) (told (y ∷ ys))
  last_first t u ts us x y xs ys j k p q ends first second next =
      told_first t u ts us (told (x ∷ xs)) (told (y ∷ ys)) (j / served_limit) (k / served_limit) first second
      (omega (arith, ap (λ n. n / served_limit) ends.state)) ends.found.0.minutes ends.least.0.minutes next

  wait_first : (b : ℕ) (xs ys : List Step) (j k : ℕ) (p q : TourPosition) → AreOneEnd wait (drive b) xs ys j k p q
      → IsFirstOf (told (wait ∷ xs)) (told (drive b ∷ ys))
  wait_first b xs ys j k p q ends = ⊎_elim
      (λ (kind : b % 3 ≡ 0).
      last_first (go wait) (go (drive (b / 3 % base))) (told xs) (told ys) wait (drive b) xs ys j k p q ends refl (reads_drive b ys kind) (inl tt))
      (λ (other : (b % 3 ≡ 1) ⊎ (b % 3 ≡ 2)). ⊎_elim
      (λ (kind : b % 3 ≡ 1).
      last_first (go wait) (go wait) (told xs) (map go (replicate (rule.rest - 1) wait) ++ told ys) wait (drive b) xs ys j k p q ends refl
      (reads_rest b ys kind) (inr (refl, rest_behind b xs ys j k p q ends.found ends.least ends.minute ends.state kind)))
      (λ (kind : b % 3 ≡ 2).
      last_first (go wait) (serve (suc (b / 3 % base))) (told xs) (told ys) wait (drive b) xs ys j k p q ends refl (reads_service b ys kind) (inl tt))
      other)
      (kinds b)

  kind_first : (a b : ℕ) (xs ys : List Step) (j k : ℕ) (p q : TourPosition) → AreOneEnd (drive a) (drive b) xs ys j k p q → IsKindBefore (a % 3) (b % 3)
      → IsFirstOf (told (drive a ∷ xs)) (told (drive b ∷ ys))
  kind_first a b xs ys j k p q ends before =
      let rest : List TourStep = map go (replicate (rule.rest - 1) wait) ++ told xs in
      ⊎_elim
      (λ (rests : (a % 3 ≡ 1) × ((b % 3 ≡ 0) ⊎ (b % 3 ≡ 2))). ⊎_elim
      (λ (kind : b % 3 ≡ 0).
      last_first (go wait) (go (drive (b / 3 % base))) rest (told ys) (drive a) (drive b) xs ys j k p q ends (reads_rest a xs rests.0)
      (reads_drive b ys kind) (inl tt))
      (λ (kind : b % 3 ≡ 2).
      last_first (go wait) (serve (suc (b / 3 % base))) rest (told ys) (drive a) (drive b) xs ys j k p q ends (reads_rest a xs rests.0)
      (reads_service b ys kind) (inl tt))
      rests.1)
      (λ (drives : (a % 3 ≡ 0) × (b % 3 ≡ 2)).
      last_first (go (drive (a / 3 % base))) (serve (suc (b / 3 % base))) (told xs) (told ys) (drive a) (drive b) xs ys j k p q ends
      (reads_drive a xs drives.0) (reads_service b ys drives.1) (inl tt))
      before

  place_first : (a b : ℕ) (xs ys : List Step) (j k : ℕ) (p q : TourPosition) → AreOneEnd (drive a) (drive b) xs ys j k p q → a % 3 ≡ b % 3
      → a / 3 % base < b / 3 % base → IsFirstOf (told (drive a ∷ xs)) (told (drive b ∷ ys))
  place_first a b xs ys j k p q ends same less = ⊎_elim
      (λ (kind : a % 3 ≡ 0).
      last_first (go (drive (a / 3 % base))) (go (drive (b / 3 % base))) (told xs) (told ys) (drive a) (drive b) xs ys j k p q ends
      (reads_drive a xs kind) (reads_drive b ys (sym same ∙ kind)) (inl less))
      (λ (other : (a % 3 ≡ 1) ⊎ (a % 3 ≡ 2)). ⊎_elim
      (λ (kind : a % 3 ≡ 1). absurd (omega (arith, less, (ends.least.1 (sym same ∙ kind)).place)))
      (λ (kind : a % 3 ≡ 2).
      last_first (serve (suc (a / 3 % base))) (serve (suc (b / 3 % base))) (told xs) (told ys) (drive a) (drive b) xs ys j k p q ends
      (reads_service a xs kind) (reads_service b ys (sym same ∙ kind)) (inl (omega (arith, less))))
      other)
      (kinds a)

  -- a step over states that comes before another
  steps_first : (x y : Step) (xs ys : List Step) (j k : ℕ) (p q : TourPosition) → AreOneEnd x y xs ys j k p q → IsRuledStepBefore base x y
      → IsFirstOf (told (x ∷ xs)) (told (y ∷ ys))
  steps_first wait wait xs ys j k p q ends before = absurd before
  steps_first (drive a) wait xs ys j k p q ends before = absurd before
  steps_first wait (drive b) xs ys j k p q ends before = wait_first b xs ys j k p q ends
  steps_first (drive a) (drive b) xs ys j k p q ends before = ⊎_elim
      (λ (kind : IsKindBefore (a % 3) (b % 3)). kind_first a b xs ys j k p q ends kind)
      (λ (place : (a % 3 ≡ b % 3) × (a / 3 % base < b / 3 % base)). place_first a b xs ys j k p q ends place.0 place.1)
      before

  -- steps over states that are alike, behind walks of which the first comes before
  alike_first : (x y : Step) (xs ys : List Step) (j k : ℕ) (p q : TourPosition) → (ends : AreOneEnd x y xs ys j k p q) → IsAlikeStep base x y
      → state_before base x j / served_limit ≤ state_before base y k / served_limit → IsFirstOf (told xs) (told ys)
      → IsFirstOf (told (x ∷ xs)) (told (y ∷ ys))
  alike_first wait wait xs ys j k p q ends alike le first =
      last_first (go wait) (go wait) (told xs) (told ys) wait wait xs ys j k p q ends refl refl (inr (refl, first))
  alike_first wait (drive b) xs ys j k p q ends alike le first = absurd alike
  alike_first (drive a) wait xs ys j k p q ends alike le first = absurd alike
  alike_first (drive a) (drive b) xs ys j k p q ends alike le first = ⊎_elim
      (λ (kind : a % 3 ≡ 0).
      last_first (go (drive (a / 3 % base))) (go (drive (b / 3 % base))) (told xs) (told ys) (drive a) (drive b) xs ys j k p q ends
      (reads_drive a xs kind) (reads_drive b ys (sym alike.0 ∙ kind)) (inr (ap (λ n. go (drive n)) alike.1, first)))
      (λ (other : (a % 3 ≡ 1) ⊎ (a % 3 ≡ 2)). ⊎_elim
      (λ (kind : a % 3 ≡ 1).
      last_first (go wait) (go wait) (map go (replicate (rule.rest - 1) wait) ++ told xs) (map go (replicate (rule.rest - 1) wait) ++ told ys)
      (drive a) (drive b) xs ys j k p q ends (reads_rest a xs kind) (reads_rest b ys (sym alike.0 ∙ kind))
      (inr (
        refl,
        waits_first (rule.rest - 1) (told xs) (told ys) (minutes_before base a) (minutes_before base b) (omega (arith, some)) le
            (state_of HasDrivenHere AnyStepHere (state_before base (drive a) j) xs ends.found.2 ends.found.4).minutes
            (ends.least.1 (sym alike.0 ∙ kind)).stays first,
      )))
      (λ (kind : a % 3 ≡ 2).
      last_first (serve (suc (a / 3 % base))) (serve (suc (b / 3 % base))) (told xs) (told ys) (drive a) (drive b) xs ys j k p q ends
      (reads_service a xs kind) (reads_service b ys (sym alike.0 ∙ kind)) (inr (ap (λ n. serve (suc n)) alike.1, first)))
      other)
      (kinds a)

  -- of a found walk that comes before a least one to its minute, with as many served stops, the tour is the same or comes before
  pub first_of : (xs ys : List Step) (j k : ℕ) (p q : TourPosition) → Found j xs p → Least k ys q → p.at.minute ≡ q.at.minute → p.served ≡ q.served
      → ComesRuledBefore base j xs k ys → IsFirstOf (told xs) (told ys)
  first_of [] [] j k p q found least minute served before =
      absurd (omega (
        arith,
        minutes_less j k (found.0.served ∙ served ∙ sym least.0.served) before,
        none_at_start (k / served_limit) least.0.minutes,
      ))
  first_of [] (y ∷ ys) j k p q found least minute served before = absurd (omega (
    arith,
    later HasStretchHere RestsHere k (y ∷ ys) q least,
    ap (λ (w : TourPosition). w.at.minute) found.1,
    minute,
    reads_some y ys,
  ))
  first_of (x ∷ xs) [] j k p q found least minute served before = absurd (omega (
    arith,
    later HasDrivenHere AnyStepHere j (x ∷ xs) p found,
    ap (λ (w : TourPosition). w.at.minute) least.1,
    minute,
    reads_some x xs,
  ))
  first_of (x ∷ xs) (y ∷ ys) j k p q found least minute served (inl less) =
      less_first (told (x ∷ xs)) (told (y ∷ ys)) (j / served_limit) (k / served_limit) (reads_some x xs)
      (minutes_less j k (found.0.served ∙ served ∙ sym least.0.served) less) found.0.minutes least.0.minutes
  first_of (x ∷ xs) (y ∷ ys) j k p q found least minute served (inr (state, inl before)) =
      steps_first x y xs ys j k p q (record { found = found; least = least; minute = minute; served = served; state = state }) before
  first_of (x ∷ xs) (y ∷ ys) j k p q found least minute served (inr (state, inr (alike, before))) =
      let walk : TourWalks s stops until (read rule.rest base x) least.2 q =
      subst (λ (w : List TourStep). TourWalks s stops until w least.2 q) (sym (alike_read rule.rest base x y alike)) least.3 in
      let more = same_before (read rule.rest base x) found.2 least.2 p q found.3 walk minute served in
      let i : ℕ = state_before base x j in
      let h : ℕ = state_before base y k in
      let as_many : i % served_limit ≡ h % served_limit =
      (state_of HasDrivenHere AnyStepHere i xs found.2 found.4).served ∙ more.1 ∙ sym (state_of HasStretchHere RestsHere h ys least.2 least.4).served in
      alike_first x y xs ys j k p q (record { found = found; least = least; minute = minute; served = served; state = state }) alike
      (minutes_at_most i h as_many (not_above base i h xs ys before))
      (first_of xs ys i h found.2 least.2 found.4 least.4 more.0 more.1 before)

  -- the tour that a found walk tells, where it comes before a least walk that tells the other steps, or is alike
  pub told_before : (xs zs : List Step) (ts us : List TourStep) (j k : ℕ) (p : TourPosition) → Found j (reverse xs) p → Least k zs p → told xs ≡ ts
      → reverse us ≡ told zs → AreAlikeSteps base xs (reverse zs) ⊎ ComesRuledBefore base j (reverse xs) k (reverse (reverse zs))
      → (us ≡ ts) ⊎ ComesRestedTourBefore s.road rule.rest (reverse ts) (reverse us)
  told_before xs zs ts us j k p found least first second either =
      let turned : told (reverse xs) ≡ reverse ts = sym (reads_reverse rule.rest base xs) ∙ ap reverse first in
      ⊎_elim
      (λ (alike : AreAlikeSteps base xs (reverse zs)).
      inl (sym (reverse-reverse us) ∙ ap reverse second ∙ reads_reverse rule.rest base zs ∙ sym (alike_reads rule.rest base xs (reverse zs) alike) ∙ first))
      (λ (before : ComesRuledBefore base j (reverse xs) k (reverse (reverse zs))). ⊎_elim
      (λ (same : told (reverse xs) ≡ told zs).
      inl (sym (reverse-reverse us) ∙ ap reverse (second ∙ sym same ∙ turned) ∙ reverse-reverse ts))
      (λ (comes : ComesRestedTourBefore s.road rule.rest (told (reverse xs)) (told zs)).
      inr (subst (λ (w : List TourStep). ComesRestedTourBefore s.road rule.rest (reverse ts) w) (sym second)
      (subst (λ (w : List TourStep). ComesRestedTourBefore s.road rule.rest w (told zs)) turned comes)))
      (first_of (reverse xs) zs j k p p found least refl refl
      (subst (λ (w : List Step). ComesRuledBefore base j (reverse xs) k w) (reverse-reverse zs) before)))
      either
