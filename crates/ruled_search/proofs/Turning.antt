-- What a turn begins with: a state with pending minutes, and a part of its costs.
use Rattle.std.proofs.Common.{◌≡◌, ◌≤◌, ◌<◌, ◌*◌, ℕ, zero, suc, true, false, Option, Some, None, List, length, get_or, refl, ◌∙◌, ap, arith}
use Rattle.std.proofs.lemmas.Option.{slice_get-get_or}
use Rattle.route_base.specs.Net.{at_number}
use Rattle.route_base.specs.declared.types.Run.{Run}
use Rattle.route_base.proofs.Numbered.{number_within}
use Rattle.propagation.specs.Inside.Invariants.{Progress, point}
use Rattle.propagation.specs.Inside.States.{is_pending, set_has}
use Rattle.state_dominance.specs.Inside.Dominance.{Task, IsSearching}
use Rattle.state_dominance.specs.Inside.Product.{Ruler, Service, IsStaged, rested_by, served_by, served_to}
use Rattle.state_dominance.specs.Inside.Taking.{TakesPart}
use Rattle.state_dominance.specs.Inside.Widening.{IsKnownPart}
use Rattle.ruled_states.specs.Inside.Codes.{base}
use Rattle.ruled_states.specs.Inside.Tables.{code_of}
use Rattle.ruled_states.specs.declared.table.Info.{Info}

-- what has pending minutes has a number
pub pending_number : (sets : List (List Run)) (n t : ℕ) → is_pending sets n t ≡ true → (1 ≤ n) × (n ≤ length sets)
pending_number sets n t is = by (at_number sets n) refl is
  where
    by : (o : Option (List Run)) → at_number sets n ≡ o → set_has o t ≡ true → (1 ≤ n) × (n ≤ length sets)
    by None at there = let bad : false ≡ true = there in cc
    by (Some set) at there = number_within sets n set at

no_info : Info
no_info = record { node = record { 0 = 0 }; state = 0; bound = record { minutes = 0; cost = 0 } }

pub has_info : (infos : List Info) (n : ℕ) → 1 ≤ n → n ≤ length infos → (i : Info) × (at_number infos n ≡ Some i)
has_info infos zero low high = absurd (omega (arith, low))
has_info infos (suc m) low high = (get_or infos m no_info, slice_get-get_or infos m no_info (omega (arith, high)))

-- what has pending minutes has a state
pub pending_info : (infos : List Info) (sets : List (List Run)) (n t : ℕ) → length sets ≡ length infos → is_pending sets n t ≡ true
    → (i : Info) × (at_number infos n ≡ Some i)
pending_info infos sets n t long is = let own = pending_number sets n t is in has_info infos n own.0 (omega (arith, own.1, long))

-- what is taken for a part is reached and known
pub part_known : (k : Task) (old new : Progress) (v c : ℕ) (before part : ℕ → Option ℕ) → IsSearching k old v before → TakesPart k c part old new
    → IsKnownPart k new c part
part_known k old new v c before part facts parts = record {
  reached = λ t x is. facts.reached (point c t x) (parts.within t x is);
  known = λ t x is. record { least = x; is = parts.cost c t ∙ parts.within t x is; within = omega arith };
}

-- codes of states with numbers of 64 bits are below the square of the base
pub small_code : (i : Info) → i.state < base → i.node.0 < base → code_of i ≤ base * base
small_code i state node = omega (arith, state, node)

-- where the node isn't rated there is no rest
pub no_rest : (r : Ruler) (v k : ℕ) (o p : Option ℕ) → p ≡ None → rested_by r base v k o p ≡ None
no_rest r v k None p none = refl
no_rest r v k (Some rest) None none = refl
no_rest r v k (Some rest) (Some weight) none = let bad : Some weight ≡ None = none in cc

pub no_rest_place : (r : Ruler) (v k : ℕ) (o p : Option ℕ) → o ≡ None → rested_by r base v k o p ≡ None
no_rest_place r v k None p none = refl
no_rest_place r v k (Some rest) p none = let bad : Some rest ≡ None = none in cc

-- a service that isn't that of the stage is forbidden
pub no_other_service : (r : Ruler) (base i k : ℕ) (o : Option Service) → IsStaged r → (r.stage k ≡ i → ⊥) → served_by r base i k o ≡ None
no_other_service r _ i k None stages other = refl
no_other_service r base i k (Some c) stages other = by (r.serve k i) refl
  where
    by : (next : Option ℕ) → r.serve k i ≡ next → served_by r base i k (Some c) ≡ None
    by None none = ap (served_to base k c) none
    by (Some next) is = absurd (other (stages.serve k i next is).0)
