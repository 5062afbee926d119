-- The steps of a tour are read off the roads over states, and are those that legs tell.
use Rattle.std.proofs.Common.{◌≡◌, ℕ, zero, suc, ◌+◌, ◌*◌, ◌/◌, ◌%◌, ◌<◌, List, [], ◌∷◌, ◌++◌, map, replicate, append_assoc, append-nil, refl, sym, ◌∙◌, ap, arith}
use Rattle.std.specs.Prelude.{All, reverse}
use Rattle.std.proofs.lemmas.List.{replicate-append-replicate, reverse-append}
use Rattle.std.proofs.lemmas.List.Elements.{All-head, All-tail}
use Rattle.std.proofs.lemmas.Nat.{div-mul-add, mod-mul-add}
use Rattle.route_base.specs.Itinerary.{Step, drive, wait}
use Rattle.ruled_search.specs.Routes.{TellsLeg, TellsSteps, IsOneRoad}
use Rattle.ruled_search.specs.declared.routes.RuledLeg.{RuledLeg}
use Rattle.ruled_search.specs.declared.routes.RuledLeg.TheVariants.{Drive, Rest, Wait, Serve}
use Rattle.state_dominance.specs.Inside.Product.{road_code}
use Rattle.stop_tour.specs.Tours.{TourStep, go, serve}
use Rattle.ruled_states.specs.Inside.Codes.{base as code_base}
use Rattle.rested_tours.specs.Inside.ToldLegs.{told, told_by, IsLegNumbered}

-- a reversed list ends with its first item
pub reverse_onto : {A : Type 0} (x : A) (xs back : List A) → reverse (x ∷ xs) ++ back ≡ reverse xs ++ x ∷ back
reverse_onto x xs back = ap (λ w. w ++ back) (reverse-append (x ∷ []) xs) ∙ append_assoc (reverse xs) (x ∷ []) back

-- the steps of a road of this kind, over this arc, rest or service, where a rest takes these minutes
abbrev pub read_road : ℕ → ℕ → ℕ → List TourStep
read_road rest zero a = go (drive a) ∷ []
read_road rest (suc zero) a = map go (replicate rest wait)
read_road rest (suc (suc n)) a = serve (suc a) ∷ []

-- the steps of a step over states
abbrev pub read : ℕ → ℕ → Step → List TourStep
read rest base (drive x) = read_road rest (x % 3) (x / 3 % base)
read rest base wait = go wait ∷ []

abbrev pub reads : ℕ → ℕ → List Step → List TourStep
reads rest base [] = []
reads rest base (x ∷ xs) = read rest base x ++ reads rest base xs

-- waits of an itinerary as those of a tour
pub going_waits : (k : ℕ) → map go (replicate k wait) ≡ replicate k (go wait)
going_waits zero = refl
going_waits (suc k) = ap (λ (w : List TourStep). go wait ∷ w) (going_waits k)

module _ (rest base : ℕ) where
  pub reads_both : (xs ys : List Step) → reads rest base (xs ++ ys) ≡ reads rest base xs ++ reads rest base ys
  reads_both [] ys = refl
  reads_both (x ∷ xs) ys = ap (λ (w : List TourStep). read rest base x ++ w) (reads_both xs ys)
      ∙ sym (append_assoc (read rest base x) (reads rest base xs) (reads rest base ys))

  pub reads_waits : (k : ℕ) → reads rest base (replicate k wait) ≡ replicate k (go wait)
  reads_waits zero = refl
  reads_waits (suc k) = ap (λ (w : List TourStep). go wait ∷ w) (reads_waits k)

  waits_reverse : (k : ℕ) → reverse (replicate k (go wait)) ≡ replicate k (go wait)
  waits_reverse zero = refl
  waits_reverse (suc k) =
      let more : k + 1 ≡ suc k = omega arith in
      reverse-append (go wait ∷ []) (replicate k (go wait)) ∙ ap (λ (w : List TourStep). w ++ (go wait ∷ [])) (waits_reverse k)
      ∙ replicate-append-replicate k 1 (go wait) ∙ ap (λ n. replicate n (go wait)) more

  road_reverse : (kind a : ℕ) → reverse (read_road rest kind a) ≡ read_road rest kind a
  road_reverse zero a = refl
  road_reverse (suc zero) a = ap reverse (going_waits rest) ∙ waits_reverse rest ∙ sym (going_waits rest)
  road_reverse (suc (suc n)) a = refl

  read_reverse : (x : Step) → reverse (read rest base x) ≡ read rest base x
  read_reverse (drive x) = road_reverse (x % 3) (x / 3 % base)
  read_reverse wait = refl

  -- steps that are read the last first
  pub reads_reverse : (xs : List Step) → reverse (reads rest base xs) ≡ reads rest base (reverse xs)
  reads_reverse [] = refl
  reads_reverse (x ∷ xs) =
      reverse-append (read rest base x) (reads rest base xs) ∙ ap (λ (w : List TourStep). w ++ reverse (read rest base x)) (reads_reverse xs)
      ∙ ap (λ (w : List TourStep). reads rest base (reverse xs) ++ w) (read_reverse x ∙ sym (append-nil (read rest base x)))
      ∙ sym (reads_both (reverse xs) (x ∷ [])) ∙ ap (reads rest base) (sym (reverse-append (x ∷ []) xs))

  -- what the number of a road tells
  pub read_code : (kind a v k : ℕ) → kind < 3 → a < base → read rest base (drive (road_code base kind a v k)) ≡ read_road rest kind a
  read_code kind a v k small arc =
      ap (λ n. read_road rest n (road_code base kind a v k / 3 % base)) (mod-mul-add ((k * base + v) * base + a) 3 kind small)
      ∙ ap (λ n. read_road rest kind n)
      (ap (λ n. n % base) (div-mul-add ((k * base + v) * base + a) 3 kind small) ∙ mod-mul-add (k * base + v) base a arc)

  -- the steps that one road tells
  reads_one : (kind a : ℕ) (steps : List Step) → kind < 3 → a < base → IsOneRoad base kind a steps → reads rest base steps ≡ read_road rest kind a
  reads_one kind a steps small arc one =
      ap (reads rest base) one.is ∙ append-nil (read rest base (drive (road_code base kind a one.node one.state)))
      ∙ read_code kind a one.node one.state small arc

module _ (rest : ℕ) where
  reads_leg : (leg : RuledLeg) (steps : List Step) → IsLegNumbered leg → TellsLeg code_base leg steps → reads rest code_base steps ≡ told_by rest leg
  reads_leg (Drive a) steps small tells = reads_one rest code_base 0 a.0 steps (omega arith) small tells
  reads_leg (Rest place) steps small tells = reads_one rest code_base 1 place steps (omega arith) small tells ∙ going_waits rest
  reads_leg (Wait minutes) steps small tells = ap (reads rest code_base) tells ∙ reads_waits rest code_base minutes
  reads_leg (Serve place) steps small tells = reads_one rest code_base 2 place steps (omega arith) small tells

  -- legs tell the steps that are read off the steps over states which they tell
  pub reads_told : (legs : List RuledLeg) (steps : List Step) → All IsLegNumbered legs → TellsSteps code_base legs steps
      → reads rest code_base steps ≡ told rest legs
  reads_told [] steps small tells = ap (reads rest code_base) tells
  reads_told (leg ∷ legs) steps small tells =
      ap (reads rest code_base) tells.2 ∙ reads_both rest code_base tells.0 tells.1
      ∙ ap (λ (w : List TourStep). w ++ reads rest code_base tells.1) (reads_leg leg tells.0 (All-head IsLegNumbered leg legs small) tells.3)
      ∙ ap (λ (w : List TourStep). told_by rest leg ++ w) (reads_told legs tells.1 (All-tail IsLegNumbered leg legs small) tells.4)
