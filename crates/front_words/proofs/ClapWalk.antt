-- How `clap` walks over words that begin with no dash.
use Rattle.std.proofs.Common.{Bor, ◌≡◌, ◌<◌, ◌+◌, get_or, length, take, refl, subst, true, false, eqb, ℕ, Bool, List, Option, Some, None, []}
use Rattle.std.proofs.Common.{◌∷◌, ap, ap₂, sym, ◌∙◌}
use Rattle.std.specs.Prelude.{◌&&◌, ◌++◌, IfSome, suc, drop, if◌then◌else◌, map, unwrap_or}
use Rattle.std.specs.List.{fold}
use Rattle.std.specs.List.{list_all}
use Rattle.std.proofs.lemmas.List.{map_more}
use Rattle.std.proofs.lemmas.List.Sums.{fold_push}
use Rattle.std.proofs.lemmas.Bool.{and_parts}
use Rattle.route_base.proofs.Lists.{same_head, same_tail}
use Rattle.clap.specs.Simple.{App, Shape, argument_words, built, is_simple, label_of, matches_of, new_rule, with_rule}
use Rattle.clap.specs.Takes.{walk_passes, positional_passes, turn_passes, settle_passes, default_passes, is_valid, level_passes, built_takes, takes}
use Rattle.clap.proofs.TakesLemmas.{leaf_takes}
use Rattle.clap.specs.Words.{HasMatchesOf, first_of, first_value, found_of}
use Rattle.clap.specs.declared.parser.matches.ArgMatches.{ArgMatches}
use Rattle.clap.proofs.WalkLemmas.{first_value-rows}
use Rattle.front_words.specs.ClapCommands.{IsTaken, Passes, option_line, text_found, with_rules}
use Rattle.front_words.specs.Inside.{ArePlain}
use Rattle.front_words.specs.Splitting.{is_dashed}
use Rattle.clap.specs.Walk.{finished, nothing_held, rows_after, Held, Names, Rule, Text, Walk, idle}
use Rattle.clap.specs.Walk.{option, next, arg_by_id, arg_by_index, option_word, to_positional, after_step, walked}
use Rattle.clap.specs.Walk.{Row, positional_held, pushed, settled}

-- between two words, with the next positional word's number
abbrev pub walk_at : ℕ → Held → Walk
walk_at p h = record { held = h; waiting = idle; position = p; is_trailing = false; stopped = None }

-- between an option and its value
abbrev pub awaiting : Text → ℕ → Held → Walk
awaiting id p h = record { held = h; waiting = option id; position = p; is_trailing = false; stopped = None }

-- the walk over some words comes to the walk over the others
pub record WalksOn (s : Shape) (w : Walk) (words : List Text) (end : Walk) (rest : List Text) : Type 0 where
  pub passes : walk_passes s [] w words ≡ walk_passes s [] end rest
  pub walks : fold (walked s.rules []) w words ≡ fold (walked s.rules []) end rest

-- no word is taken
pub walks_nowhere : {s : Shape} {w : Walk} {words : List Text} → WalksOn s w words w words
walks_nowhere = record { passes = refl; walks = refl }

pub then_reaches : {s : Shape} {a b c : Walk} {xs ys zs : List Text} → WalksOn s a xs b ys → WalksOn s b ys c zs → WalksOn s a xs c zs
then_reaches r q = record { passes = r.passes ∙ q.passes; walks = r.walks ∙ q.walks }

-- one word after another
step : (s : Shape) (w end : Walk) (word : Text) (rest : List Text) → turn_passes s [] w word ≡ true → walked s.rules [] w word ≡ end
    → WalksOn s w (word ∷ rest) end rest
unfolding walk_passes
step s w end word rest p e = record {
  passes = ap₂ (λ (b : Bool) (v : Walk). b && walk_passes s [] v rest) p e;
  walks = ap (λ (v : Walk). fold (walked s.rules []) v rest) e;
}

place_turns : (s : Shape) (p : ℕ) (h : Held) (a : Rule) (x : ℕ) (xs : Text) → eqb x 45 ≡ false → arg_by_index s.rules p ≡ Some a
    → positional_passes s.rules s.args_override_self a h ≡ true → turn_passes s [] (walk_at p h) (x ∷ xs) ≡ true
place_turns s p h a x xs e f g = simp (e, f, g)

place_walks : (c : List Rule) (p : ℕ) (h : Held) (a : Rule) (x : ℕ) (xs : Text) → eqb x 45 ≡ false → arg_by_index c p ≡ Some a
    → walked c [] (walk_at p h) (x ∷ xs) ≡ to_positional c (Some a) (x ∷ xs) (walk_at p h) h
unfolding walked
place_walks c p h a x xs e f = simp (e, f)

empty_place_turns : (s : Shape) (p : ℕ) (h : Held) (a : Rule) → arg_by_index s.rules p ≡ Some a
    → positional_passes s.rules s.args_override_self a h ≡ true → turn_passes s [] (walk_at p h) [] ≡ true
empty_place_turns s p h a f g = simp (f, g)

empty_place_walks : (c : List Rule) (p : ℕ) (h : Held) (a : Rule) → arg_by_index c p ≡ Some a
    → walked c [] (walk_at p h) [] ≡ to_positional c (Some a) [] (walk_at p h) h
unfolding walked
empty_place_walks c p h a f = simp f

-- a positional word
places : (s : Shape) (p : ℕ) (h : Held) (a : Rule) (word : Text) (rest : List Text) → is_dashed word ≡ false → arg_by_index s.rules p ≡ Some a
    → positional_passes s.rules s.args_override_self a h ≡ true
    → WalksOn s (walk_at p h) (word ∷ rest) (to_positional s.rules (Some a) word (walk_at p h) h) rest
places s p h a [] rest w f g = step s _ _ _ rest (empty_place_turns s p h a f g) (empty_place_walks s.rules p h a f)
places s p h a (x ∷ xs) rest w f g = step s _ _ _ rest (place_turns s p h a x xs w f g) (place_walks s.rules p h a x xs w f)

value_turns : (s : Shape) (id : Text) (p : ℕ) (h : Held) (x : ℕ) (xs : Text) → eqb x 45 ≡ false
    → turn_passes s [] (awaiting id p h) (x ∷ xs) ≡ true
value_turns s id p h x xs e = simp e

value_walks : (c : List Rule) (id : Text) (p : ℕ) (h : Held) (a : Rule) (x : ℕ) (xs : Text) → eqb x 45 ≡ false → arg_by_id c id ≡ Some a
    → walked c [] (awaiting id p h) (x ∷ xs)
    ≡ after_step c (x ∷ xs) (awaiting id p h) (option_word (Some a) id (x ∷ xs) h).0 (next (option_word (Some a) id (x ∷ xs) h).1)
unfolding walked
value_walks c id p h a x xs e f = simp (e, f)

empty_value_turns : (s : Shape) (id : Text) (p : ℕ) (h : Held) → turn_passes s [] (awaiting id p h) [] ≡ true
empty_value_turns s id p h = refl

empty_value_walks : (c : List Rule) (id : Text) (p : ℕ) (h : Held) (a : Rule) → arg_by_id c id ≡ Some a
    → walked c [] (awaiting id p h) []
    ≡ after_step c [] (awaiting id p h) (option_word (Some a) id [] h).0 (next (option_word (Some a) id [] h).1)
unfolding walked
empty_value_walks c id p h a f = simp f

-- the value of an option
gives : (s : Shape) (id : Text) (p : ℕ) (h : Held) (a : Rule) (word : Text) (rest : List Text) → is_dashed word ≡ false → arg_by_id s.rules id ≡ Some a
    → WalksOn s (awaiting id p h) (word ∷ rest)
    (after_step s.rules word (awaiting id p h) (option_word (Some a) id word h).0 (next (option_word (Some a) id word h).1)) rest
gives s id p h a [] rest w f = step s _ _ _ rest (empty_value_turns s id p h) (empty_value_walks s.rules id p h a f)
gives s id p h a (x ∷ xs) rest w f = step s _ _ _ rest (value_turns s id p h x xs w) (value_walks s.rules id p h a x xs w f)

-- what is held behind an option, and behind its value
abbrev pub opened : Shape → Text → Held → Held
opened s id h = record (settled s.rules h) { pending = Some (id, []) }

abbrev pub with_option : Shape → Text → Option Text → Held → Held
with_option s id None h = h
with_option s id (Some word) h = pushed id word (opened s id h)

-- the rule of an option
abbrev pub rule_by_id : Shape → Text → Rule
rule_by_id s id = unwrap_or (arg_by_id s.rules id) (new_rule [])

-- an option may come between two words, and one value closes it
pub record Opens (s : Shape) (flag id : Text) (h : Held) : Type 0 where
  pub rule : Rule
  pub found : arg_by_id s.rules id ≡ Some rule
  pub turns : turn_passes s [] (walk_at 1 h) flag ≡ true
  pub walks : walked s.rules [] (walk_at 1 h) flag ≡ awaiting id 1 (opened s id h)
  pub closes : (word : Text) → after_step s.rules word (awaiting id 1 (opened s id h)) (option_word (Some rule) id word (opened s id h)).0
      (next (option_word (Some rule) id word (opened s id h)).1) ≡ walk_at 1 (pushed id word (opened s id h))

-- an option with its value, where it is given
pub walks_option : (s : Shape) (flag id : Text) (h : Held) (value : Option Text) (rest : List Text) → IfSome value (λ w. is_dashed w ≡ false)
    → Opens s flag id h → WalksOn s (walk_at 1 h) (option_line flag value ++ rest) (walk_at 1 (with_option s id value h)) rest
walks_option s flag id h None rest a o = record { passes = refl; walks = refl }
walks_option s flag id h (Some word) rest a o =
    then_reaches (step s (walk_at 1 h) (awaiting id 1 (opened s id h)) flag (word ∷ rest) o.turns o.walks)
    (subst (λ (b : Walk). WalksOn s (awaiting id 1 (opened s id h)) (word ∷ rest) b rest) (o.closes word)
    (gives s id 1 (opened s id h) o.rule word rest a o.found))

-- the command has no subcommand, and its words begin with its name
pub record IsLeaf (a : App) : Type 0 where
  pub simple : is_simple a ≡ true
  pub named : a.top.no_binary_name ≡ false
  pub alone : (built a).subs ≡ []

arguments : (a : App) (name : Text) (words : List Text) → IsLeaf a → argument_words a (name ∷ words) ≡ words
arguments a name words l = ap (λ (b : Bool). if b then name ∷ words else drop 1 (name ∷ words)) l.named

-- the end of a walk passes
abbrev pub passes_at : Shape → Held → Bool
passes_at s end = settle_passes s.rules s.args_override_self end
    && (list_all default_passes s.rules && is_valid s (finished s.rules end) false)

level_at : (s : Shape) (words : List Text) (p : ℕ) (end : Held) → WalksOn s (walk_at 1 nothing_held) words (walk_at p end) []
    → passes_at s end ≡ true → level_passes s [] nothing_held words false ≡ true
unfolding walk_passes
level_at s words p end r e = ap₂ (λ (b : Bool) (w : Walk). b && passes_at s w.held) r.passes r.walks ∙ e

-- `clap` takes the words, by where its walk over them ends
pub takes_at : (a : App) (name : Text) (words : List Text) (p : ℕ) (end : Held) → IsLeaf a
    → WalksOn (built a).top (walk_at 1 nothing_held) words (walk_at p end) [] → passes_at (built a).top end ≡ true → takes a (name ∷ words) ≡ true
takes_at a name words p end l r e =
    ap₂ (λ (b : Bool) (ws : List Text). b && built_takes (built a) nothing_held ws) l.simple (arguments a name words l)
    ∙ leaf_takes (built a) nothing_held words l.alone (level_at (built a).top words p end r e)

-- what `clap` finds
pub finds_at : (a : App) (name : Text) (words : List Text) (p : ℕ) (end : Held) → IsLeaf a
    → WalksOn (built a).top (walk_at 1 nothing_held) words (walk_at p end) [] → matches_of a (name ∷ words) ≡ finished (built a).top.rules end
finds_at a name words p end l r =
    ap₂ (λ (names : Names) (ws : List Text). rows_after (built a).top.rules names ws) (ap (map label_of) l.alone) (arguments a name words l)
    ∙ ap (λ (w : Walk). finished (built a).top.rules w.held) r.walks

-- one argument more
pub one_rule_more : {X : Type 0} (f : X → Rule) (a b c : App) (xs : List X) (i : ℕ) (d : X) → i < length xs
    → b ≡ with_rules a (map f (take i xs)) → c ≡ with_rule b (f (get_or xs i d)) → c ≡ with_rules a (map f (take (i + 1) xs))
one_rule_more f a b c xs i d h e g =
    g ∙ ap (λ (v : App). with_rule v (f (get_or xs i d))) e
    ∙ sym (ap (with_rules a) (map_more f xs i d h) ∙ fold_push with_rule a (map f (take i xs)) (f (get_or xs i d)))

-- what a parse finds, and that it refuses the words for want of memory alone, by what the command is
pub is_found : (a app : App) (words : List Text) (m : ArgMatches) → a ≡ app → IsTaken app words → HasMatchesOf a words m
    → (id : Text) → first_value (found_of m) id ≡ text_found app words id
unfolding IsTaken text_found
is_found a app words m e t h id =
    first_value-rows (found_of m) id ∙ ap (first_of id) ((h (ap is_simple e ∙ (and_parts (is_simple app) _ t).0)).0 ∙ ap (λ (b : App). matches_of b words) e)

pub is_refused : (a app : App) (words : List Text) → a ≡ app → IsTaken app words → takes a words ≡ true
unfolding IsTaken
is_refused a app words e t = ap (λ (b : App). takes b words) e ∙ t

-- the rule of a place
abbrev rule_at : Shape → ℕ → Rule
rule_at s p = unwrap_or (arg_by_index s.rules p) (new_rule [])

-- what is held behind positional words, from a place on, and the place behind them
abbrev pub held_behind : Shape → ℕ → Held → List Text → Held
held_behind s p h [] = h
held_behind s p h (word ∷ words) = held_behind s (p + 1) (positional_held s.rules (rule_at s p) word h) words

abbrev place_behind : ℕ → List Text → ℕ
place_behind p [] = p
place_behind p (word ∷ words) = place_behind (p + 1) words

-- the walk over positional words, word by word: the rule of each place, whether the word may go there, and where the walk comes to
abbrev pub met_from : Shape → ℕ → Held → List Text → List (Option Rule × (Bool × Walk))
met_from s p h [] = []
met_from s p h (word ∷ words) =
    (arg_by_index s.rules p, (positional_passes s.rules s.args_override_self (rule_at s p) h, to_positional s.rules (Some (rule_at s p)) word (walk_at p h) h))
    ∷ met_from s (p + 1) (positional_held s.rules (rule_at s p) word h) words

-- the same where the command has a place for each word
abbrev pub due_from : Shape → ℕ → Held → List Text → List (Option Rule × (Bool × Walk))
due_from s p h [] = []
due_from s p h (word ∷ words) =
    (Some (rule_at s p), (true, walk_at (p + 1) (positional_held s.rules (rule_at s p) word h)))
    ∷ due_from s (p + 1) (positional_held s.rules (rule_at s p) word h) words

walks_places : (s : Shape) (p : ℕ) (h : Held) (words : List Text) → ArePlain words → met_from s p h words ≡ due_from s p h words
    → WalksOn s (walk_at p h) words (walk_at (place_behind p words) (held_behind s p h words)) []
walks_places s p h [] a f = walks_nowhere
walks_places s p h (word ∷ words) a f =
    let met = same_head f in
    then_reaches (places s p h (rule_at s p) word words a.0 (ap (λ (t : Option Rule × (Bool × Walk)). t.0) met)
    (ap (λ (t : Option Rule × (Bool × Walk)). t.1.0) met))
    (subst (λ (w : Walk). WalksOn s w words (walk_at (place_behind p (word ∷ words)) (held_behind s p h (word ∷ words))) [])
    (sym (ap (λ (t : Option Rule × (Bool × Walk)). t.1.1) met))
    (walks_places s (p + 1) (positional_held s.rules (rule_at s p) word h) words a.1 (same_tail f)))

-- the texts of arguments in the rows at the end of a walk
abbrev pub texts_in : App → Held → List Text → List (Option Text)
texts_in app h ids = map (λ id. first_of id (finished (built app).top.rules h)) ids

-- the same line, by what is held behind its options
pub passes_line : (app : App) (name : Text) (line ids words choices : List Text) (given : List (Option Text)) (h : Held) → IsLeaf app
    → WalksOn (built app).top (walk_at 1 nothing_held) line (walk_at 1 h) words → ArePlain words
    → met_from (built app).top 1 h words ≡ due_from (built app).top 1 h words
    → passes_at (built app).top (held_behind (built app).top 1 h words) ≡ true
    → texts_in app (held_behind (built app).top 1 h words) ids ≡ map (λ w. Some w) words
    → texts_in app (held_behind (built app).top 1 h words) choices ≡ given
    → Passes app (name ∷ line) ids words choices given
unfolding IsTaken text_found
passes_line app name line ids words choices given h leaf options plain fills passes places chosen =
    let w = then_reaches options (walks_places (built app).top 1 h words plain fills) in
    let end = held_behind (built app).top 1 h words in
    let found = finds_at app name line (place_behind 1 words) end leaf w in
    record {
      taken = takes_at app name line (place_behind 1 words) end leaf w passes;
      places = ap (λ (rows : List Row). map (λ (id : Text). first_of id rows) ids) found ∙ places;
      options = ap (λ (rows : List Row). map (λ (id : Text). first_of id rows) choices) found ∙ chosen;
    }

-- the words that references refer to are as many as these
pub words_length : (words : List (Bor Text)) → length (map (λ (w : Bor Text). w.now) words) ≡ length words
words_length [] = refl
words_length (word ∷ words) = ap (λ n. suc n) (words_length words)
