-- Names and vehicles side by side.
use Rattle.std.proofs.Common.{◌≡◌, ℕ, List, [], ◌∷◌, length, map, refl, sym, ◌∙◌, ap, arith}
use Rattle.std.specs.List.{zip}
use Rattle.std.proofs.lemmas.List.{length-map}
use Rattle.std.proofs.lemmas.Map.Made.{keys_of-zip}
use Rattle.table_reader.specs.NameIndex.{names_of}

module _ {V : Type 0} where
  pub values_kept : (ns : List (List ℕ)) (vs : List V) → length vs ≡ length ns → map (λ (e : List ℕ × V). e.1) (zip ns vs) ≡ vs
  values_kept [] [] e = refl
  values_kept [] (v ∷ vs) e = absurd (omega (arith, e))
  values_kept (n ∷ ns) [] e = absurd (omega (arith, e))
  values_kept (n ∷ ns) (v ∷ vs) e = ap (λ (more : List V). v ∷ more) (values_kept ns vs (omega (arith, e)))

  -- pairs are their names beside their values
  pub zip_parts : (es : List (List ℕ × V)) → zip (names_of es) (map (λ (e : List ℕ × V). e.1) es) ≡ es
  zip_parts [] = refl
  zip_parts (e ∷ es) = ap (λ (more : List (List ℕ × V)). e ∷ more) (zip_parts es)

  module _ (ns : List (List ℕ)) (vs : List V) (es : List (List ℕ × V)) (each : length vs ≡ length ns) (is : zip ns vs ≡ es) where
    pub names_seen : names_of es ≡ ns
    names_seen = ap (λ (xs : List (List ℕ × V)). names_of xs) (sym is) ∙ keys_of-zip ns vs each

    pub values_seen : map (λ (e : List ℕ × V). e.1) es ≡ vs
    values_seen = ap (λ (xs : List (List ℕ × V)). map (λ (e : List ℕ × V). e.1) xs) (sym is) ∙ values_kept ns vs each

    pub as_many : length vs ≡ length es
    as_many = ap (λ (xs : List V). length xs) (sym values_seen) ∙ length-map es (λ (e : List ℕ × V). e.1)
