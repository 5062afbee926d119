-- Tours that routes over states tell, one after another.
use Rattle.std.proofs.Common.{◌≡◌, ℕ, List, [], ◌∷◌, ◌++◌, map, All, refl, ◌∙◌, ap}
use Rattle.std.specs.List.{AllZip}
use Rattle.std.proofs.lemmas.List.Elements.{All-head, All-tail, All-cons, All-nil}
use Rattle.route_base.specs.declared.types.Pair.{Pair}
use Rattle.ruled_search.specs.declared.routes.RuledRoute.{RuledRoute}
use Rattle.stop_tour.specs.declared.stops.TourRoute.{TourRoute}
use Rattle.rested_tours.specs.Inside.ToldRoutes.{IsToldBy}

-- two lists of as many items, and one item more of each
pub zip_push : {A B : Type 0} (R : A → B → Type 0) (xs : List A) (ys : List B) (x : A) (y : B) → AllZip R xs ys → R x y
    → AllZip R (xs ++ x ∷ []) (ys ++ y ∷ [])
zip_push R [] [] x y alike one = (one, tt)
zip_push R [] (b ∷ ys) x y alike one = absurd alike
zip_push R (a ∷ xs) [] x y alike one = absurd alike
zip_push R (a ∷ xs) (b ∷ ys) x y alike one = (alike.0, zip_push R xs ys x y alike.1 one)

-- what follows for each tour from its route
pub zip_all : {A B : Type 0} (R : A → B → Type 0) (P : A → Type 0) (Q : B → Type 0) → ((x : A) (y : B) → R x y → P x → Q y)
    → (xs : List A) (ys : List B) → AllZip R xs ys → All P xs → All Q ys
zip_all R P Q each [] [] alike all = All-nil Q
zip_all R P Q each [] (y ∷ ys) alike all = absurd alike
zip_all R P Q each (x ∷ xs) [] alike all = absurd alike
zip_all R P Q each (x ∷ xs) (y ∷ ys) alike all =
    All-cons Q y ys (each x y alike.0 (All-head P x xs all)) (zip_all R P Q each xs ys alike.1 (All-tail P x xs all))

module _ (rest : ℕ) where
  pub told_pairs : (routes : List RuledRoute) (tours : List TourRoute) → AllZip (IsToldBy rest) routes tours
      → map (λ (x : TourRoute). x.pair) tours ≡ map (λ (x : RuledRoute). x.pair) routes
  told_pairs [] [] alike = refl
  told_pairs [] (tour ∷ tours) alike = absurd alike
  told_pairs (route ∷ routes) [] alike = absurd alike
  told_pairs (route ∷ routes) (tour ∷ tours) alike =
      ap (λ (w : Pair). w ∷ map (λ (x : TourRoute). x.pair) tours) alike.0.pair
      ∙ ap (λ (w : List Pair). route.pair ∷ w) (told_pairs routes tours alike.1)
