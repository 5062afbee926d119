-- The closed minutes of an arc, from those at which its area doesn't let a vehicle in, and its closures.
use Rattle.std.proofs.Common.{◌≡◌, ℕ, zero, suc, ◌+◌, ◌&&◌, not, Option, Some, None, List, [], ◌∷◌, ◌++◌, length, slice_get, replicate}
use Rattle.std.proofs.Common.{refl, sym, ◌∙◌, ap, subst, arith, add-one}
use Rattle.std.proofs.Math.ListN.{set}
use Rattle.std.proofs.lemmas.List.{length-replicate, length-set}
use Rattle.route_base.proofs.Logic.{or-false}
use Rattle.route_base.specs.Runs.{any_has, has_minute}
use Rattle.route_base.specs.declared.types.Run.{Run}
use Rattle.vehicle_classes.specs.VehicleModel.{VehicleModel}
use Rattle.network_tables.specs.Access.{is_let_in}
use Rattle.network_tables.specs.NetworkModel.{NetworkModel}
use Rattle.ban_expansion.specs.Bans.{HasThose}
use Rattle.ban_expansion.specs.Inside.AreaBans.{AreBarred, IsPlainIn}
use Rattle.ban_expansion.proofs.AlikeArcs.{let_in_same}
use Rattle.ban_expansion.proofs.ItemLists.{got_set}

-- nothing is known of this number of areas
abbrev pub none_yet : ℕ → List (Option (List Run))
none_yet n = replicate n None

nothing_there : (n i : ℕ) (x : List Run) → slice_get (none_yet n) i ≡ Some (Some x) → ⊥
nothing_there zero i x is = absurd (cc)
nothing_there (suc n) zero x is = absurd (cc)
nothing_there (suc n) (suc i) x is = nothing_there n i x is

one_more : (n : ℕ) → none_yet n ++ None ∷ [] ≡ none_yet (suc n)
one_more zero = refl
one_more (suc n) = ap (λ (l : List (Option (List Run))). None ∷ l) (one_more n)

pub none_more : (n : ℕ) → none_yet n ++ None ∷ [] ≡ none_yet (n + 1)
none_more n = one_more n ∙ ap none_yet (sym (add-one n))

module _ (network : NetworkModel) (vehicle : VehicleModel) (window : Run) where
  pub none_barred : (sets : List (Option (List Run))) (areas : ℕ) → sets ≡ none_yet areas → length network.areas ≡ areas
      → AreBarred network vehicle window sets
  none_barred sets areas is size = record {
    areas = ap (λ (l : List (Option (List Run))). length l) is ∙ length-replicate areas None ∙ sym size;
    each = λ area held a at plain. absurd (nothing_there areas area held (sym (ap (λ (l : List (Option (List Run))). slice_get l area) is) ∙ at));
  }

  pub learned : (sets : List (Option (List Run))) (area first : ℕ) (new : List Run) → AreBarred network vehicle window sets → IsPlainIn network area first
      → HasThose window (λ t. not (is_let_in network vehicle first t)) new → AreBarred network vehicle window (set sets area (Some new))
  learned sets area first new was plain has = record {
    areas = length-set sets area (Some new) ∙ was.areas;
    each = λ other held a at plain_a.
        got_set (HasThose window (λ t. not (is_let_in network vehicle a t)) held) sets area (Some new) other (Some held) at
        (λ same equal.
        let is : new ≡ held = cc in
        let here : IsPlainIn network area a = subst (λ (n : ℕ). IsPlainIn network n a) (sym same) plain_a in
        subst (λ (h : List Run). HasThose window (λ t. not (is_let_in network vehicle a t)) h) is
        (λ t. has t ∙ ap (λ b. has_minute t window && not b) (let_in_same network vehicle area first a t plain here)))
        (λ before. was.each other held a before plain_a);
  }

one_closure : (closures : List Run) (run : Run) → length closures ≡ 1 → slice_get closures 0 ≡ Some run → closures ≡ run ∷ []
one_closure [] run e is = absurd (omega arith)
one_closure (x ∷ []) run e is = let same : x ≡ run = cc in ap (λ (y : Run). y ∷ []) same
one_closure (x ∷ y ∷ xs) run e is = absurd (omega arith)

pub clipped_closure : (window run clip : Run) (closures all : List Run) → length closures ≡ 1 → slice_get closures 0 ≡ Some run
    → ((t : ℕ) → has_minute t clip ≡ (has_minute t window && has_minute t run)) → ((t : ℕ) → any_has all t ≡ has_minute t clip)
    → HasThose window (any_has closures) all
clipped_closure window run clip closures all one there clips whole = λ t.
    whole t ∙ clips t ∙ ap (λ b. has_minute t window && b) (sym (or-false (has_minute t run)))
    ∙ ap (λ (rs : List Run). has_minute t window && any_has rs t) (sym (one_closure closures run one there))
