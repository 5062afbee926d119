-- The parks of nodes, one node after another.
use Rattle.std.proofs.Common.{ℕ, ◌+◌, Option, List, [], ◌∷◌, ◌++◌, sym, ◌∙◌, subst, arith}
use Rattle.std.proofs.lemmas.List.{length_push}
use Rattle.route_base.specs.declared.types.Park.{Park}
use Rattle.network_tables.specs.Parks.{ParkLists}
use Rattle.ban_expansion.specs.Inside.ShutLists.{AreParks, IsParkAt}
use Rattle.ban_expansion.proofs.ItemLists.{got_pushed}

-- the next node has its park too
pub park_next : (parks : ParkLists) (first n : ℕ) (held : List (Option Park)) (park : Option Park) → AreParks parks first n held
    → IsParkAt parks first (n + 1) park → AreParks parks first (n + 1) (held ++ park ∷ [])
park_next parks first n held park all at = record {
  counted = omega (arith, length_push held park, all.counted);
  each = λ k other there.
      got_pushed (IsParkAt parks first (k + 1) other) held park k other there (all.each k other)
      (λ last same. subst (λ (j : ℕ). IsParkAt parks first (j + 1) other) (sym all.counted ∙ sym last)
      (subst (λ (p : Option Park). IsParkAt parks first (n + 1) p) same at));
}
