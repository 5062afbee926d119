-- The lines of the commands with options pass `clap`: those of `batch`, `plan`, `breaks` and `tour`.
use Rattle.std.proofs.Common.{◌≡◌, refl, codes, List, Option, Some, None, [], ◌∷◌, length, arith}
use Rattle.clap.specs.Walk.{Text, nothing_held}
use Rattle.clap.specs.Simple.{App, Shape, built}
use Rattle.clap.proofs.OnLiterals.{clap_on_literals}
use Rattle.front_words.specs.Batch.{batch_choices, batch_places, batch_usage}
use Rattle.front_words.specs.Breaks.{breaks_usage, rule_choices}
use Rattle.front_words.specs.ClapCommands.{check_places, plan_places, written_out}
use Rattle.front_words.specs.Inside.{TakesRow}
use Rattle.front_words.specs.Plan.{plan_choices, plan_usage}
use Rattle.front_words.specs.Tour.{tour_usage}
use Rattle.front_words.proofs.ClapWalk.{Opens}
use Rattle.front_words.proofs.OptionLines.{Fills, behind_one, behind_two, one_option, opened_by, two_options}

-- the commands, as `clap` builds them
abbrev batch_app : App
batch_app = written_out (codes "batch") batch_places batch_choices

abbrev plan_app : App
plan_app = written_out (codes "plan") plan_places plan_choices

abbrev breaks_app : App
breaks_app = written_out (codes "breaks") plan_places rule_choices

abbrev tour_app : App
tour_app = written_out (codes "tour") check_places rule_choices

abbrev shape : App → Shape
shape app = (built app).top

-- a first option opens
workers_opens : Opens (shape batch_app) (codes "--workers") (codes "workers") nothing_held
unfolding clap_on_literals
workers_opens = opened_by _ _ _ _ refl refl refl (λ word. refl)

form_opens : Opens (shape plan_app) (codes "--form") (codes "form") nothing_held
unfolding clap_on_literals
form_opens = opened_by _ _ _ _ refl refl refl (λ word. refl)

drive_opens : Opens (shape breaks_app) (codes "--drive") (codes "drive") nothing_held
unfolding clap_on_literals
drive_opens = opened_by _ _ _ _ refl refl refl (λ word. refl)

tour_drive_opens : Opens (shape tour_app) (codes "--drive") (codes "drive") nothing_held
unfolding clap_on_literals
tour_drive_opens = opened_by _ _ _ _ refl refl refl (λ word. refl)

-- a second option opens, behind the first one or without it
certificate_opens : (form : Option Text) → Opens (shape plan_app) (codes "--certificate") (codes "certificate") (behind_one plan_app (codes "form") form)
unfolding clap_on_literals
certificate_opens None = opened_by _ _ _ _ refl refl refl (λ word. refl)
certificate_opens (Some x) = opened_by _ _ _ _ refl refl refl (λ word. refl)

rest_opens : (drive : Option Text) → Opens (shape breaks_app) (codes "--rest") (codes "rest") (behind_one breaks_app (codes "drive") drive)
unfolding clap_on_literals
rest_opens None = opened_by _ _ _ _ refl refl refl (λ word. refl)
rest_opens (Some x) = opened_by _ _ _ _ refl refl refl (λ word. refl)

tour_rest_opens : (drive : Option Text) → Opens (shape tour_app) (codes "--rest") (codes "rest") (behind_one tour_app (codes "drive") drive)
unfolding clap_on_literals
tour_rest_opens None = opened_by _ _ _ _ refl refl refl (λ word. refl)
tour_rest_opens (Some x) = opened_by _ _ _ _ refl refl refl (λ word. refl)

pub batch_row : TakesRow batch_usage batch_places batch_choices
batch_row =
    one_option _ _ (codes "--workers") (codes "workers") refl refl refl (record { simple = refl; named = refl; alone = refl })
    workers_opens fills
  where
    fills : (workers : Option Text) (words : List Text) → length words ≡ 2
        → Fills batch_app (behind_one batch_app (codes "workers") workers) batch_places words batch_choices (workers ∷ [])
    fills None (a ∷ b ∷ []) n = record { met = refl; passes = refl; places = refl; options = refl }
    fills (Some x) (a ∷ b ∷ []) n = record { met = refl; passes = refl; places = refl; options = refl }
    fills workers words n = absurd (omega arith)

pub plan_row : TakesRow plan_usage plan_places plan_choices
plan_row =
    two_options _ _ (codes "--form") (codes "form") (codes "--certificate") (codes "certificate") refl refl refl
    (record { simple = refl; named = refl; alone = refl }) form_opens certificate_opens fills
  where
    fills : (form certificate : Option Text) (words : List Text) → length words ≡ 6
        → Fills plan_app (behind_two plan_app (codes "form") (codes "certificate") form certificate) plan_places words plan_choices (form ∷ certificate ∷ [])
    fills None None (a ∷ b ∷ c ∷ d ∷ e ∷ f ∷ []) n = record { met = refl; passes = refl; places = refl; options = refl }
    fills None (Some y) (a ∷ b ∷ c ∷ d ∷ e ∷ f ∷ []) n = record { met = refl; passes = refl; places = refl; options = refl }
    fills (Some x) None (a ∷ b ∷ c ∷ d ∷ e ∷ f ∷ []) n = record { met = refl; passes = refl; places = refl; options = refl }
    fills (Some x) (Some y) (a ∷ b ∷ c ∷ d ∷ e ∷ f ∷ []) n = record { met = refl; passes = refl; places = refl; options = refl }
    fills form certificate words n = absurd (omega arith)

pub breaks_row : TakesRow breaks_usage plan_places rule_choices
breaks_row =
    two_options _ _ (codes "--drive") (codes "drive") (codes "--rest") (codes "rest") refl refl refl
    (record { simple = refl; named = refl; alone = refl }) drive_opens rest_opens fills
  where
    fills : (drive rest : Option Text) (words : List Text) → length words ≡ 6
        → Fills breaks_app (behind_two breaks_app (codes "drive") (codes "rest") drive rest) plan_places words rule_choices (drive ∷ rest ∷ [])
    fills None None (a ∷ b ∷ c ∷ d ∷ e ∷ f ∷ []) n = record { met = refl; passes = refl; places = refl; options = refl }
    fills None (Some y) (a ∷ b ∷ c ∷ d ∷ e ∷ f ∷ []) n = record { met = refl; passes = refl; places = refl; options = refl }
    fills (Some x) None (a ∷ b ∷ c ∷ d ∷ e ∷ f ∷ []) n = record { met = refl; passes = refl; places = refl; options = refl }
    fills (Some x) (Some y) (a ∷ b ∷ c ∷ d ∷ e ∷ f ∷ []) n = record { met = refl; passes = refl; places = refl; options = refl }
    fills drive rest words n = absurd (omega arith)

pub tour_row : TakesRow tour_usage check_places rule_choices
tour_row =
    two_options _ _ (codes "--drive") (codes "drive") (codes "--rest") (codes "rest") refl refl refl
    (record { simple = refl; named = refl; alone = refl }) tour_drive_opens tour_rest_opens fills
  where
    fills : (drive rest : Option Text) (words : List Text) → length words ≡ 7
        → Fills tour_app (behind_two tour_app (codes "drive") (codes "rest") drive rest) check_places words rule_choices (drive ∷ rest ∷ [])
    fills None None (a ∷ b ∷ c ∷ d ∷ e ∷ f ∷ g ∷ []) n = record { met = refl; passes = refl; places = refl; options = refl }
    fills None (Some y) (a ∷ b ∷ c ∷ d ∷ e ∷ f ∷ g ∷ []) n = record { met = refl; passes = refl; places = refl; options = refl }
    fills (Some x) None (a ∷ b ∷ c ∷ d ∷ e ∷ f ∷ g ∷ []) n = record { met = refl; passes = refl; places = refl; options = refl }
    fills (Some x) (Some y) (a ∷ b ∷ c ∷ d ∷ e ∷ f ∷ g ∷ []) n = record { met = refl; passes = refl; places = refl; options = refl }
    fills drive rest words n = absurd (omega arith)
