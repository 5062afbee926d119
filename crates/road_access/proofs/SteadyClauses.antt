-- Minutes throughout which parts hold and the same clause decides, from one part to the whole value.
use Rattle.std.proofs.Common.{ℕ, suc, ◌+◌, ◌<◌, ◌≤◌, ◌&&◌, Bool, Option, Some, None, List, [], ◌∷◌, length, if◌then◌else◌, arith, refl, ap, ◌∙◌}
use Rattle.std.specs.List.{list_all}
use Rattle.std.specs.Option.{option_or, option_map}
use Rattle.opening_hours.specs.declared.types.HoursRule.{HoursRule}
use Rattle.vehicle_classes.specs.declared.classes.Quantity.{Quantity}
use Rattle.conditional_rules.specs.Decisions.{deciding_place, part_holds}
use Rattle.conditional_rules.specs.declared.conditional.Clause.{Clause}
use Rattle.conditional_rules.specs.declared.conditional.Comparison.{Comparison}
use Rattle.conditional_rules.specs.declared.conditional.Part.{Part}
use Rattle.conditional_rules.specs.declared.conditional.Part.TheVariants.{Compare, Flag, Times}
use Rattle.road_access.specs.Inside.{ClausesLeft, CoverSteadily, DecidesSteadily, HoldSteadily, HoldsSteadily, PartsLeft}

pub times_hold : (rules : List HoursRule) (minute count : ℕ) → CoverSteadily rules minute count → HoldsSteadily (Times rules) minute count
times_hold rules minute count steady = λ vehicle holidays day k low. steady holidays day k low

pub compare_holds : (quantity : Quantity) (comparison : Comparison) (value minute count : ℕ)
    → HoldsSteadily (Compare quantity comparison value) minute count
compare_holds quantity comparison value minute count = λ vehicle holidays day k low. refl

pub flag_holds : (word : List ℕ) (minute count : ℕ) → HoldsSteadily (Flag word) minute count
flag_holds word minute count = λ vehicle holidays day k low. refl

one_part : (minute n : ℕ) (part : Part) (rest : List Part) → HoldsSteadily part minute n
    → HoldSteadily rest minute n → HoldSteadily (part ∷ rest) minute n
one_part minute n part rest same steady = λ vehicle holidays day k low.
    ap (λ b. b && list_all (part_holds vehicle holidays day (minute + k)) rest) (same vehicle holidays day k low)
    ∙ ap (λ b. part_holds vehicle holidays day minute part && b) (steady vehicle holidays day k low)

pub next_part : (minute most : ℕ) (all : List Part) (part : Part) (rest : List Part) (count less : ℕ)
    → PartsLeft minute most all (part ∷ rest) count → 1 ≤ less → less ≤ count → HoldsSteadily part minute less
    → PartsLeft minute most all rest less
next_part minute most all part rest count less before some within same = record {
  some = some;
  within = omega (arith, before.within, within);
  all_do =
      λ n low steady. before.all_do n (omega (arith, low, within))
      (one_part minute n part rest
      (λ vehicle holidays day k under. same vehicle holidays day k (omega (arith, under, low))) steady);
}

one_clause : (minute n : ℕ) (clause : Clause) (rest : List Clause) → HoldSteadily clause.parts minute n
    → DecidesSteadily rest minute n → DecidesSteadily (clause ∷ rest) minute n
one_clause minute n clause rest same steady = λ vehicle holidays day k low.
    ap (λ (o : Option ℕ). option_or (option_map (λ i. suc i) o)
    (if list_all (part_holds vehicle holidays day (minute + k)) clause.parts then Some 0 else None)) (steady vehicle holidays day k low)
    ∙ ap (λ (b : Bool). option_or (option_map (λ i. suc i) (deciding_place vehicle holidays day minute rest)) (if b then Some 0 else None))
    (same vehicle holidays day k low)

pub next_clause : (minute most : ℕ) (all : List Clause) (clause : Clause) (rest : List Clause) (count less : ℕ)
    → ClausesLeft minute most all (clause ∷ rest) count → 1 ≤ less → less ≤ count → HoldSteadily clause.parts minute less
    → ClausesLeft minute most all rest less
next_clause minute most all clause rest count less before some within same = record {
  some = some;
  within = omega (arith, before.within, within);
  all_do =
      λ n low steady. before.all_do n (omega (arith, low, within))
      (one_clause minute n clause rest
      (λ vehicle holidays day k under. same vehicle holidays day k (omega (arith, under, low))) steady);
}

-- with nothing left all is steady
pub all_parts : (minute most : ℕ) (all left : List Part) (count : ℕ) → PartsLeft minute most all left count → length left < 1
    → HoldSteadily all minute count
all_parts minute most all [] count done none = done.all_do count (omega arith) (λ vehicle holidays day k low. refl)
all_parts minute most all (part ∷ rest) count done none = absurd (omega (arith, none))

pub all_clauses : (minute most : ℕ) (all left : List Clause) (count : ℕ) → ClausesLeft minute most all left count → length left < 1
    → DecidesSteadily all minute count
all_clauses minute most all [] count done none = done.all_do count (omega arith) (λ vehicle holidays day k low. refl)
all_clauses minute most all (clause ∷ rest) count done none = absurd (omega (arith, none))

-- one minute is steady
pub one_minute : (minute : ℕ) (clauses : List Clause) → DecidesSteadily clauses minute 1
one_minute minute clauses vehicle holidays day k low =
    ap (λ (m : ℕ). deciding_place vehicle holidays day m clauses) (omega (arith, low))
