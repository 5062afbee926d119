-- How an index of names views its map, whose keys are seen as names.
use Rattle.std.proofs.Common.{◌≡◌, ℕ, Bool, true, false, cond, List, [], ◌∷◌, ◌++◌, map, refl, sym, ◌∙◌, ap, subst}
use Rattle.std.specs.List.{position, IsDistinct, AllByRecursion}
use Rattle.std.specs.Map.{lookup, set_value}
use Rattle.std.specs.Str.{bytes_eq}
use Rattle.std.proofs.lemmas.List.{map-append}
use Rattle.table_reader.specs.NameIndex.{value_under, names_of, place_among}
use Rattle.table_reader.proofs.Lists.{lookup-map, position-map}

-- a value written at a key, in entries whose keys are seen through a function
pub set_value-map : {K L V : Type 0} (f : K → L) (test : L → Bool) (es : List (K × V)) (w : V)
    → map (λ (e : K × V). (f e.0, e.1)) (set_value (λ k. test (f k)) es w) ≡ set_value test (map (λ (e : K × V). (f e.0, e.1)) es) w
set_value-map f test [] w = refl
set_value-map {K} {L} {V} f test (e ∷ es) w = here (test (f e.0)) (set_value-map f test es w)
  where
    here : (b : Bool) → map (λ (e : K × V). (f e.0, e.1)) (set_value (λ k. test (f k)) es w) ≡ set_value test (map (λ (e : K × V). (f e.0, e.1)) es) w
        → map (λ (e : K × V). (f e.0, e.1)) (cond b ((e.0, w) ∷ es) (e ∷ set_value (λ k. test (f k)) es w))
        ≡ cond b ((f e.0, w) ∷ map (λ (e : K × V). (f e.0, e.1)) es) ((f e.0, e.1) ∷ set_value test (map (λ (e : K × V). (f e.0, e.1)) es) w)
    here true more = refl
    here false more = ap (λ (xs : List (L × V)). (f e.0, e.1) ∷ xs) more

module _ {K V : Type 0} (items : K → List ℕ) (es : List (K × V)) (seen : List (List ℕ × V)) (is : map (λ (e : K × V). (items e.0, e.1)) es ≡ seen) where
  pub value_seen : (name : List ℕ) → lookup (λ k. bytes_eq name (items k)) es ≡ value_under seen name
  value_seen name = sym (lookup-map items (bytes_eq name) es) ∙ ap (λ (ns : List (List ℕ × V)). value_under ns name) is

  pub place_seen : (name : List ℕ) → position (λ k. bytes_eq name (items k)) (map (λ (e : K × V). e.0) es) ≡ place_among (names_of seen) name
  place_seen name =
      position-map (λ (e : K × V). e.0) (λ k. bytes_eq name (items k)) es
      ∙ sym (position-map (λ (e : K × V). (items e.0, e.1)) (λ (p : List ℕ × V). bytes_eq name p.0) es)
      ∙ sym (position-map (λ (p : List ℕ × V). p.0) (bytes_eq name) (map (λ (e : K × V). (items e.0, e.1)) es))
      ∙ ap (λ (ns : List (List ℕ × V)). place_among (names_of ns) name) is

  pub value_written : (name : List ℕ) (v : V)
      → map (λ (e : K × V). (items e.0, e.1)) (set_value (λ k. bytes_eq name (items k)) es v) ≡ set_value (bytes_eq name) seen v
  value_written name v = set_value-map items (bytes_eq name) es v ∙ ap (λ (ns : List (List ℕ × V)). set_value (bytes_eq name) ns v) is

  pub seen_more : (key : K) (name : List ℕ) (v : V) → items key ≡ name → map (λ (e : K × V). (items e.0, e.1)) (es ++ (key, v) ∷ []) ≡ seen ++ (name, v) ∷ []
  seen_more key name v same =
      map-append (λ (e : K × V). (items e.0, e.1)) es ((key, v) ∷ [])
      ∙ ap (λ (ns : List (List ℕ × V)). ns ++ (items key, v) ∷ []) is
      ∙ ap (λ (n : List ℕ). seen ++ (n, v) ∷ []) same

  pub values_seen : map (λ (e : K × V). e.1) es ≡ map (λ (p : List ℕ × V). p.1) seen
  values_seen = kept es ∙ ap (λ (ns : List (List ℕ × V)). map (λ (p : List ℕ × V). p.1) ns) is
    where
      kept : (xs : List (K × V)) → map (λ (e : K × V). e.1) xs ≡ map (λ (p : List ℕ × V). p.1) (map (λ (e : K × V). (items e.0, e.1)) xs)
      kept [] = refl
      kept (x ∷ xs) = ap (λ (vs : List V). x.1 ∷ vs) (kept xs)

  -- keys of which no two are seen as the same name
  pub distinct_seen : IsDistinct (λ k l. bytes_eq (items k) (items l)) (map (λ (e : K × V). e.0) es) → IsDistinct bytes_eq (names_of seen)
  unfolding IsDistinct
  distinct_seen distinct = subst (λ (ns : List (List ℕ × V)). IsDistinct bytes_eq (names_of ns)) is (kept es distinct)
    where
      apart : (name : List ℕ) (xs : List (K × V)) → AllByRecursion (λ k. bytes_eq name (items k) ≡ false) (map (λ (e : K × V). e.0) xs)
          → AllByRecursion (λ n. bytes_eq name n ≡ false) (names_of (map (λ (e : K × V). (items e.0, e.1)) xs))
      apart name [] h = h
      apart name (x ∷ xs) h = (h.0, apart name xs h.1)

      kept : (xs : List (K × V)) → IsDistinct (λ k l. bytes_eq (items k) (items l)) (map (λ (e : K × V). e.0) xs)
          → IsDistinct bytes_eq (names_of (map (λ (e : K × V). (items e.0, e.1)) xs))
      kept [] h = h
      kept (x ∷ xs) h = (apart (items x.0) xs h.0, kept xs h.1)
