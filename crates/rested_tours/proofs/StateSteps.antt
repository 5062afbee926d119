-- A walk over the states of rested tours, the last step first, and the steps of the tour that it tells.
use Rattle.std.proofs.Common.{◌≡◌, ℕ, ◌/◌, ◌%◌, ◌≤◌, ◌<◌, List, [], ◌∷◌, ◌++◌, map, replicate, refl, ◌∙◌, ap}
use Rattle.std.specs.Prelude.{⊤}
use Rattle.route_base.specs.Setting.{Setting}
use Rattle.route_base.specs.Itinerary.{Step, drive, wait}
use Rattle.drive_breaks.specs.Rested.{IsStretch}
use Rattle.drive_breaks.proofs.Since.{HasSince}
use Rattle.drive_states.specs.declared.rule.BreakRule.{BreakRule}
use Rattle.ruled_search.specs.Routes.{AreAlikeSteps, IsAlikeStep, state_before}
use Rattle.state_dominance.specs.Serving.{served_limit}
use Rattle.stop_tour.specs.Tours.{TourPosition, TourStep, TourWalks}
use Rattle.stop_tour.specs.declared.stops.Stop.{Stop}
use Rattle.rested_tours.specs.RestedTours.{seen}
use Rattle.rested_tours.proofs.Reading.{read, read_road, reads}

-- the minutes driven since the last break, by the state of a road over states
abbrev pub minutes_before : ℕ → ℕ → ℕ
minutes_before base x = x / 3 / base / base / served_limit

module _ (s : Setting) (stops : List Stop) (rule : BreakRule) (base until : ℕ) (start : TourPosition) where
  -- the steps that a walk over states tells, as the break rule sees them, in the order of the walk's steps
  abbrev pub seen_of : List Step → List Step
  seen_of zs = map seen (reads rule.rest base zs)

  -- the state has the number of served stops, and so much is known of its minutes and the steps before it, the last first
  pub record IsState (known : ℕ → List Step → Type 0) (state : ℕ) (back : List Step) (q : TourPosition) : Type 0 where
    pub served : state % served_limit ≡ q.served
    pub minutes : known (state / served_limit) back

  -- steps over states, the last first, tell the steps of a tour from the start to the position, in the state: so much is known at each point, and of
  -- each step and the steps before it
  abbrev pub IsTraced : (ℕ → List Step → Type 0) → (Step → List Step → Type 0) → ℕ → List Step → TourPosition → Type 0
  IsTraced known stepped state [] q = IsState known state [] q × (q ≡ start)
  IsTraced known stepped state (z ∷ zs) q = IsState known state (seen_of (z ∷ zs)) q × stepped z (seen_of zs)
      × (p : TourPosition) × TourWalks s stops until (read rule.rest base z) p q × IsTraced known stepped (state_before base z state) zs p

  abbrev pub IsAnyStep : Step → List Step → Type 0
  IsAnyStep z back = ⊤

  -- the rest, the only one of the rule, begins when some minutes were driven since the last break, and they are the stretch until it ends
  pub record BeginsRest (x : ℕ) (back : List Step) : Type 0 where
    pub place : x / 3 % base ≡ 0
    pub some : 1 ≤ minutes_before base x
    pub stays : (n : ℕ) → n < rule.rest → IsStretch s.road rule.rest (replicate n wait ++ back) (minutes_before base x)

  -- a rest is the last break from its end on, and not before
  abbrev pub RestsOnce : Step → List Step → Type 0
  RestsOnce wait back = ⊤
  RestsOnce (drive x) back = x % 3 ≡ 1 → BeginsRest x back

  -- the state has the minutes since the start or some break
  abbrev pub HasDriven : ℕ → List Step → Type 0
  HasDriven minutes back = HasSince s.road rule back minutes

  -- the state has the minutes of the stretch
  abbrev pub HasStretch : ℕ → List Step → Type 0
  HasStretch minutes back = IsStretch s.road rule.rest back minutes

  -- a walk over states that was found, the last step first
  abbrev pub IsFoundBack : ℕ → List Step → TourPosition → Type 0
  IsFoundBack = IsTraced HasDriven IsAnyStep

  -- a least walk, the last step first
  abbrev pub IsLeastBack : ℕ → List Step → TourPosition → Type 0
  IsLeastBack = IsTraced HasStretch RestsOnce

module _ (rest base : ℕ) where
  -- steps over states that are alike tell the same
  pub alike_read : (x y : Step) → IsAlikeStep base x y → read rest base x ≡ read rest base y
  alike_read wait wait alike = refl
  alike_read wait (drive y) alike = absurd alike
  alike_read (drive x) wait alike = absurd alike
  alike_read (drive x) (drive y) alike = ap (λ n. read_road rest n (x / 3 % base)) alike.0 ∙ ap (λ n. read_road rest (y % 3) n) alike.1

  pub alike_reads : (xs ys : List Step) → AreAlikeSteps base xs ys → reads rest base xs ≡ reads rest base ys
  alike_reads [] [] alike = refl
  alike_reads [] (y ∷ ys) alike = absurd alike
  alike_reads (x ∷ xs) [] alike = absurd alike
  alike_reads (x ∷ xs) (y ∷ ys) alike =
      ap (λ (w : List TourStep). w ++ reads rest base xs) (alike_read x y alike.0)
      ∙ ap (λ (w : List TourStep). read rest base y ++ w) (alike_reads xs ys alike.1)
