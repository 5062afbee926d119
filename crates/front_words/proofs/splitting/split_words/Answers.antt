use Rattle.std.proofs.Common.{rules, map, ap, sym, refl, ◌∙◌, ℕ, List, ◌∷◌, Bor}
use Rattle.front_words.specs.Inside.{given_in}
use Rattle.front_words.specs.Splitting.{piece_of}
use Rattle.front_words.proofs.Plain.{plain_split}
use Rattle.front_words.proofs.Dividing.{adds_place, adds_assigned, adds_named, all_divided, one_more}
use Rattle.front_words.proofs.splitting.split_words.Goals as goal

pub words-preserved-in-Continue-1 : goal.words-preserved-in-Continue-1
words-preserved-in-Continue-1 c =
    adds_place c.words.invariant c.in-Some.ensures.cases.0
    (ap (piece_of (map (λ o. o.now) c.args.options.now)) (sym c.as_str.ensures) ∙ sym c.in-Plain.ensures)
    (one_more (λ (w : Bor (List ℕ)). w.now) _ _ c.in-Plain.word c.in_ok-push-in-Plain.ensures.items) refl

pub words-preserved-in-Continue-branch-2 : goal.words-preserved-in-Continue-branch-2
words-preserved-in-Continue-branch-2 c =
    adds_assigned c.words.invariant c.in-Some.ensures.cases.0
    (ap (piece_of (map (λ o. o.now) c.args.options.now)) (sym c.as_str.ensures) ∙ sym c.in-Assigned.ensures)
    refl (one_more given_in _ _ _ c.in_ok-push-in-Assigned.ensures.items)

pub words-preserved : goal.words-preserved
words-preserved c =
    adds_named c.words.invariant c.in-Some.ensures.cases.0
    (ap (piece_of (map (λ o. o.now) c.args.options.now)) (sym c.as_str.ensures) ∙ sym c.in-Named.ensures)
    (c.in-Some-split_first.ensures.cases.0 ∙ ap (λ value. value ∷ c.in-Some-split_first.behind.now) (sym c.as_str-value.ensures)) (search rules)
    refl (one_more given_in _ _ _ c.in_ok-push-in-Named.ensures.items)

pub returns-clause-plain : goal.returns-clause-plain
returns-clause-plain c =
    plain_split (map (λ o. o.now) c.args.options.now) c.args.words.now _ (all_divided _ _ _ _ c.words.invariant c.in_default.ensures.cases)
