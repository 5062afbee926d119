-- The lines of the commands with one or two options pass `clap`, where the options open and the positional words fill their places.
use Rattle.std.proofs.Common.{◌≡◌, false, true, map, List, Option, Some, [], ◌∷◌, ◌++◌, length, arith, subst, sym, ◌∙◌}
use Rattle.std.specs.Prelude.{IfSome}
use Rattle.clap.specs.Walk.{Held, Text, after_step, arg_by_id, next, nothing_held, option_word, pushed, walked}
use Rattle.clap.specs.Simple.{App, Shape, built}
use Rattle.clap.specs.Takes.{turn_passes}
use Rattle.front_words.specs.ClapCommands.{Passes, app_with, option_line, options_line, written_out}
use Rattle.front_words.specs.Commands.{Command}
use Rattle.front_words.specs.Inside.{ArePlain, ArePlainIf, TakesRow}
use Rattle.front_words.specs.Splitting.{is_dashed}
use Rattle.front_words.specs.Usages.{Usage, option_names}
use Rattle.front_words.proofs.ClapWalk.{IsLeaf, Opens, WalksOn, awaiting, due_from, held_behind, met_from, opened, passes_at, passes_line}
use Rattle.front_words.proofs.ClapWalk.{rule_by_id, texts_in, then_reaches, walk_at, walks_option, with_option}

-- behind what is held, the words fill the places, and `clap` finds them and the values of the options
pub record Fills (app : App) (h : Held) (ids words choices : List Text) (values : List (Option Text)) : Type 0 where
  pub met : met_from (built app).top 1 h words ≡ due_from (built app).top 1 h words
  pub passes : passes_at (built app).top (held_behind (built app).top 1 h words) ≡ true
  pub places : texts_in app (held_behind (built app).top 1 h words) ids ≡ map (λ w. Some w) words
  pub options : texts_in app (held_behind (built app).top 1 h words) choices ≡ values

filled : (name : Text) (line ids words choices : List Text) (values : List (Option Text)) (h : Held) → IsLeaf (written_out name ids choices)
    → WalksOn (built (written_out name ids choices)).top (walk_at 1 nothing_held) line (walk_at 1 h) words → ArePlain words
    → Fills (written_out name ids choices) h ids words choices values → Passes (app_with name ids choices) (name ∷ line) ids words choices values
unfolding app_with
filled name line ids words choices values h leaf walks plain f =
    passes_line (written_out name ids choices) _ _ _ _ _ _ h leaf walks plain f.met f.passes f.places f.options

-- what is held behind an option, and behind another one that follows it
abbrev pub behind_one : App → Text → Option Text → Held
behind_one app id value = with_option (built app).top id value nothing_held

abbrev pub behind_two : App → Text → Text → Option Text → Option Text → Held
behind_two app id second v w = with_option (built app).top second w (behind_one app id v)

-- an option opens, by what `clap` finds of its name
pub opened_by : (s : Shape) (flag id : Text) (h : Held) → arg_by_id s.rules id ≡ Some (rule_by_id s id) → turn_passes s [] (walk_at 1 h) flag ≡ true
    → walked s.rules [] (walk_at 1 h) flag ≡ awaiting id 1 (opened s id h)
    → ((word : Text) → after_step s.rules word (awaiting id 1 (opened s id h)) (option_word (Some (rule_by_id s id)) id word (opened s id h)).0
    (next (option_word (Some (rule_by_id s id)) id word (opened s id h)).1) ≡ walk_at 1 (pushed id word (opened s id h)))
    → Opens s flag id h
opened_by s flag id h found turns walks closes = record { rule = rule_by_id s id; found = found; turns = turns; walks = walks; closes = closes }

-- a command with one option, the value of which `clap` has by this name
module _ (usage : Usage Command) (ids : List Text) (flag id : Text) where
  abbrev with_one : App
  with_one = written_out usage.name ids (id ∷ [])

  pub one_option : length ids ≡ length usage.places → option_names usage.options ≡ flag ∷ [] → length usage.options ≡ 1 → IsLeaf with_one
      → Opens (built with_one).top flag id nothing_held
      → ((v : Option Text) (words : List Text) → length words ≡ length ids → Fills with_one (behind_one with_one id v) ids words (id ∷ []) (v ∷ []))
      → TakesRow usage ids (id ∷ [])
  one_option counted names one leaf opens fills = record {
    counted = counted;
    passes = λ words values n m plain p.
        subst (λ (os : List Text). Passes (app_with usage.name ids (id ∷ [])) (usage.name ∷ options_line os values words) ids words (id ∷ []) values)
        (sym names) (at words values n (m ∙ one) plain p);
  }
    where
      at : (words : List Text) (values : List (Option Text)) → length words ≡ length ids → length values ≡ 1 → ArePlain words → ArePlainIf values
          → Passes (app_with usage.name ids (id ∷ [])) (usage.name ∷ options_line (flag ∷ []) values words) ids words (id ∷ []) values
      at words (v ∷ []) n m plain p =
          filled usage.name _ ids words _ _ (behind_one with_one id v) leaf
          (walks_option (built with_one).top flag id nothing_held v words p.0 opens) plain (fills v words n)
      at words values n m plain p = absurd (omega (arith, m))

-- a command with two options, the values of which `clap` has by these names
module _ (usage : Usage Command) (ids : List Text) (flag id other second : Text) where
  abbrev with_two : App
  with_two = written_out usage.name ids (id ∷ second ∷ [])

  walks_two : (v w : Option Text) (words : List Text) → Opens (built with_two).top flag id nothing_held
      → Opens (built with_two).top other second (behind_one with_two id v) → IfSome v (λ word. is_dashed word ≡ false)
      → IfSome w (λ word. is_dashed word ≡ false)
      → WalksOn (built with_two).top (walk_at 1 nothing_held) (option_line flag v ++ (option_line other w ++ words))
      (walk_at 1 (behind_two with_two id second v w)) words
  walks_two v w words opens following p q =
      then_reaches (walks_option (built with_two).top flag id nothing_held v _ p opens)
      (walks_option (built with_two).top other second (behind_one with_two id v) w words q following)

  pub two_options : length ids ≡ length usage.places → option_names usage.options ≡ flag ∷ other ∷ [] → length usage.options ≡ 2
      → IsLeaf with_two → Opens (built with_two).top flag id nothing_held
      → ((v : Option Text) → Opens (built with_two).top other second (behind_one with_two id v))
      → ((v w : Option Text) (words : List Text) → length words ≡ length ids
      → Fills with_two (behind_two with_two id second v w) ids words (id ∷ second ∷ []) (v ∷ w ∷ []))
      → TakesRow usage ids (id ∷ second ∷ [])
  two_options counted names two leaf opens following fills = record {
    counted = counted;
    passes = λ words values n m plain p.
        subst (λ (os : List Text). Passes (app_with usage.name ids (id ∷ second ∷ [])) (usage.name ∷ options_line os values words) ids words
        (id ∷ second ∷ []) values) (sym names) (at words values n (m ∙ two) plain p);
  }
    where
      at : (words : List Text) (values : List (Option Text)) → length words ≡ length ids → length values ≡ 2 → ArePlain words → ArePlainIf values
          → Passes (app_with usage.name ids (id ∷ second ∷ [])) (usage.name ∷ options_line (flag ∷ other ∷ []) values words) ids words
          (id ∷ second ∷ []) values
      at words (v ∷ w ∷ []) n m plain p =
          filled usage.name _ ids words _ _ (behind_two with_two id second v w) leaf (walks_two v w words opens (following v) p.0 p.1.0) plain
          (fills v w words n)
      at words values n m plain p = absurd (omega (arith, m))
