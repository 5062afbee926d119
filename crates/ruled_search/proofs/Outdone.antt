-- Costs above a bar are outdone behind the next stop, whose state's costs are known there.
use Rattle.std.proofs.Common.{◌≡◌, ℕ, suc, ◌+◌, ◌*◌, ◌-◌, ◌≤◌, ◌<◌, Option, Some, None, List, sym, ◌∙◌, ap, arith}
use Rattle.std.specs.Prelude.{slice_get, IfSome}
use Rattle.route_base.specs.Setting.{Setting}
use Rattle.route_base.specs.declared.types.Bound.{Bound}
use Rattle.route_base.specs.declared.types.Pair.{Pair}
use Rattle.route_base.specs.declared.types.Run.{Run}
use Rattle.cost_functions.specs.Pieces.{value_at}
use Rattle.cost_functions.specs.declared.pieces.Piece.{Piece}
use Rattle.propagation.specs.Found.{cost_at}
use Rattle.state_dominance.specs.Inside.NextStops.{IsOutdone, MayEnd}
use Rattle.state_dominance.specs.Inside.Product.{Ruler, Service, code}
use Rattle.ruled_states.specs.Inside.Codes.{base, found_by, HaveSmallNodes}
use Rattle.ruled_states.specs.Inside.Tables.{IsStateOf}
use Rattle.ruled_states.specs.declared.table.Info.{Info}
use Rattle.ruled_states.proofs.Numbers.{number_of_code}
use Rattle.ruled_search.specs.Inside.Charges.{charged, IsChargedWithin}

-- what holds of a value that there may be says what follows of it
pub some_on : {P Q : ℕ → Type 0} (o : Option ℕ) → ((n : ℕ) → P n → Q n) → IfSome o P → IfSome o Q
some_on None on is = tt
some_on (Some n) on is = on n is

module _ (infos : List Info) (functions : List (List Piece)) (pending : List (List Run)) (pairs : List Pair) (small : HaveSmallNodes infos)
    (distinct : (v k n m : ℕ) → IsStateOf infos v k n → IsStateOf infos v k m → n ≡ m)
    (r : Ruler) (until : ℕ) (bound : ℕ → ℕ → Option Bound) (latest : ℕ → ℕ) (price : ℕ) (sum : ℕ → ℕ → ℕ) (c : Service) (v k first : ℕ)
    (b d : Bound) (here : bound v k ≡ Some b) (there : bound c.node (r.best (suc (r.stage k))) ≡ Some d) (node : c.node < base)
    (number : ℕ) (state : IsStateOf infos c.node (r.best (suc (r.stage k))) number) (pieces : List Piece)
    (own : (u : ℕ) → cost_at functions number u ≡ value_at pieces u)
    (lo hi most widest : ℕ) (known : (u : ℕ) → lo ≤ u → u ≤ hi → IsChargedWithin price until (value_at pieces) most u)
    (wide : (n : ℕ) (w : Bound) → r.stage n ≡ suc (r.stage k) → bound c.node n ≡ Some w → w.minutes ≤ widest)
    (low : (u : ℕ) → c.from + c.minutes ≤ u → first + c.minutes ≤ u → first + b.minutes ≤ u + widest → lo ≤ u)
    (high : (u : ℕ) → u ≤ c.to → u ≤ until → u + d.minutes ≤ latest (r.best (suc (r.stage k))) → u ≤ hi) where
  pub outdone : (t x : ℕ) → first ≤ t → most + price * c.minutes < charged price until t x + sum v (r.stage k)
      → IsOutdone r base until bound latest (found_by infos functions pending pairs) price sum c v k t x
  outdone t x later above = record {
    most = most;
    known = λ u m.
        let from = low u m.begun (omega (arith, later, m.since)) (omega (arith, later, m.way widest b here wide)) in
        let h = known u from (high u m.closed m.over (m.late d there)) in (
          h.value,
          ap (λ n. cost_at functions n u) (number_of_code infos small distinct c.node (r.best (suc (r.stage k))) number node state) ∙ (own u ∙ h.is),
          h.within,
        );
    above = above;
  }
