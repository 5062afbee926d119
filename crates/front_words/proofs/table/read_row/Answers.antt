use Rattle.std.proofs.Common.{Bor, ◌∙◌, ◌++◌, ◌∷◌, ap, length, map, subst, sym, List, ℕ}
use Rattle.std.specs.Prelude.{Vec}
use Rattle.std.specs.declared.alloc.Global.{Global}
use Rattle.front_words.specs.ClapCommands.{IsTaken, app_with, given_line}
use Rattle.front_words.specs.Inside.{choices_in, ids_in, split_of_words, usage_in}
use Rattle.front_words.proofs.ClapLines.{takes_row}
use Rattle.front_words.proofs.ClapWalk.{words_length}
use Rattle.front_words.proofs.GivenLines.{are_given, fault_made}
use Rattle.front_words.proofs.Made.{answers_line, each_option, miscounted_made, passes_row}
use Rattle.front_words.proofs.table.read_row.Goals as goal

-- the words that references refer to
abbrev texts : List (Bor (List ℕ)) → List (List ℕ)
texts words = map (λ (w : Bor (List ℕ)). w.now) words

pub returns-then-places-row-clause-made : goal.returns-then-places-row-clause-made
returns-then-places-row-clause-made c =
    let ids = c.row-row.result.places.now in
    miscounted_made (usage_in c.args.command) c.args.places.now c.args.given.now
    (λ e. c.if-places-row.true (e ∙ sym (takes_row c.args.command).counted ∙ sym (ap length c.row-row.ensures.places) ∙ words_length ids))

pub returns-in_err-options-clause-made : goal.returns-in_err-options-clause-made
returns-in_err-options-clause-made c =
    fault_made (λ (line : Vec (Bor (List ℕ)) Global). texts line.items) (usage_in c.args.command)
    (split_of_words c.args.places.now c.args.given.now) (texts c.row-row.result.options.now)
    c.from_residual.result c.in_err-options.field-0.0 c.row-row.ensures.options c.from_residual.ensures.1 c.in_err-options.ensures

pub matches_for-requires : goal.matches_for-requires
matches_for-requires c =
    let usage = usage_in c.args.command in
    let s = split_of_words c.args.places.now c.args.given.now in
    let row = c.row-row.result in
    let line = ap texts c.as_slice-2.ensures.value ∙ c.in_ok-line.ensures in
    let options = ap texts c.as_slice.ensures.value in
    let n = words_length c.args.places.now ∙ c.if-places-row.false ∙ sym (words_length row.places.now) in
    let g = are_given s.given _ (texts c.in_ok-options.options.items)
    (sym (ap (λ (names : List (List ℕ)). given_line names s.given) c.row-row.ensures.options) ∙ c.in_ok-options.ensures) in
    let passed = passes_row usage (ids_in c.args.command) (choices_in c.args.command) (takes_row c.args.command) s (texts c.in_ok-options.options.items) g
    row.name.now (texts row.places.now) (texts row.choices.now) c.row-row.ensures.name c.row-row.ensures.places c.row-row.ensures.choices n
    c.requires.places c.requires.values in
    subst (IsTaken (app_with row.name.now (texts row.places.now) (texts row.choices.now)))
    (sym (line ∙ ap (λ (os : List (List ℕ)). row.name.now ∷ (os ++ s.places)) options)) passed.taken

pub returns-clause-made : goal.returns-clause-made
returns-clause-made c =
    let usage = usage_in c.args.command in
    let s = split_of_words c.args.places.now c.args.given.now in
    let row = c.row-row.result in
    let line = ap texts c.as_slice-2.ensures.value ∙ c.in_ok-line.ensures in
    let options = ap texts c.as_slice.ensures.value in
    let n = words_length c.args.places.now ∙ c.if-places-row.false ∙ sym (words_length row.places.now) in
    let g = are_given s.given _ (texts c.in_ok-options.options.items)
    (sym (ap (λ (names : List (List ℕ)). given_line names s.given) c.row-row.ensures.options) ∙ c.in_ok-options.ensures) in
    let passed = passes_row usage (ids_in c.args.command) (choices_in c.args.command) (takes_row c.args.command) s (texts c.in_ok-options.options.items) g
    row.name.now (texts row.places.now) (texts row.choices.now) c.row-row.ensures.name c.row-row.ensures.places c.row-row.ensures.choices n
    c.requires.places c.requires.values in
    answers_line (λ v. v) c.found.result usage c.in_ok-matches.matches (app_with row.name.now (texts row.places.now) (texts row.choices.now)) _
    (row.name.now ∷ (texts c.in_ok-options.options.items ++ s.places)) (ids_in c.args.command) (choices_in c.args.command) s g.values
    (line ∙ ap (λ (os : List (List ℕ)). row.name.now ∷ (os ++ s.places)) options) c.in_ok-matches.ensures passed
    (each_option usage (ids_in c.args.command) (choices_in c.args.command) (takes_row c.args.command) s (texts c.in_ok-options.options.items) g)
    c.found.ensures.made
