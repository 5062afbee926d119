-- The text of an explanation (source: own; the keys are OpenStreetMap's).
use Rattle.std.specs.Prelude.{ℕ, Bool, true, false, Option, Some, None, List, ◌++◌, codes, decimal}
use Rattle.route_base.specs.declared.types.Pair.{Pair}
use Rattle.line_texts.specs.Words.{thousandths_of}
use Rattle.vehicle_classes.specs.Keys.{key_label_of}
use Rattle.vehicle_classes.specs.declared.classes.Key.{Key}
use Rattle.trip_explain.specs.declared.explanation.Explanation.{Explanation}
use Rattle.trip_explain.specs.declared.explanation.Explanation.TheVariants.{Lawful, Unlawful}
use Rattle.trip_explain.specs.declared.explanation.Why.{Why}
use Rattle.trip_explain.specs.declared.explanation.Why.TheVariants as why

-- whether a rule is the arc's own or its area's
abbrev pub scope_label_of : Bool → List ℕ
scope_label_of true = codes "arc"
scope_label_of false = codes "area"

-- whether a rule is conditional or plain
abbrev pub kind_label_of : Bool → List ℕ
kind_label_of true = codes "conditional"
kind_label_of false = codes "plain"

-- the words of a rule that decides, with the number of its clause
abbrev pub rule_text : Bool → Key → Bool → ℕ → List ℕ
rule_text of_arc key conditional clause =
    codes "rule " ++ scope_label_of of_arc ++ codes " " ++ key_label_of key ++ codes " " ++ kind_label_of conditional ++ codes " " ++ decimal clause

-- the words of a reason
abbrev pub reason_text : Why → List ℕ
reason_text why.Tail = codes "tail"
reason_text why.Late = codes "late"
reason_text why.Unrated = codes "unrated"
reason_text why.Shut = codes "shut"
reason_text why.Goal = codes "goal"
reason_text (why.Rule of_arc key conditional clause) = rule_text of_arc key conditional clause
reason_text (why.Closure number) = codes "closure " ++ decimal number

-- the line of a word and a pair, with the arrival in Unix minutes
abbrev pub worded_pair_line : List ℕ → Pair → List ℕ
worded_pair_line word pair = word ++ decimal pair.arrival ++ codes " " ++ thousandths_of pair.cost ++ codes "\n"

-- the line of the pair that is better than another, if there is one
abbrev pub better_line : Option Pair → List ℕ
better_line None = codes "undominated\n"
better_line (Some pair) = worded_pair_line (codes "dominated ") pair

-- the line of an unlawful leg, counted from 1, with its Unix minute and the reason
abbrev pub unlawful_line : ℕ → ℕ → Why → List ℕ
unlawful_line leg minute why =
    codes "unlawful " ++ decimal leg ++ codes " " ++ decimal minute ++ codes " " ++ reason_text why ++ codes "\n"

-- the pair of lawful legs and the one that is better; or the first unlawful leg, with its minute and the reason
abbrev pub explanation_text : Explanation → Option Pair → List ℕ
explanation_text (Lawful pair) better = worded_pair_line (codes "lawful ") pair ++ better_line better
explanation_text (Unlawful leg minute why) better = unlawful_line leg minute why
