-- Lists of JSON, written item by item.
use Rattle.std.proofs.Common.{◌≡◌, ℕ, ◌+◌, ◌<◌, Bool, true, false, List, ◌++◌, codes, decimal, length, map, drop, get_or, refl, sym, ◌∙◌, ap, append_assoc}
use Rattle.std.proofs.lemmas.List.{drop_more}
use Rattle.route_base.specs.declared.types.Leg.{Leg}
use Rattle.route_base.specs.declared.types.Leg.TheVariants.{Drive, Wait}
use Rattle.route_base.specs.declared.types.Route.{Route}
use Rattle.serde_json.specs.Data.{Data, array}
use Rattle.serde_json.specs.View.{items_of}
use Rattle.serde_json.specs.Written.{comma_if, compact_text, items_text, has_float}
use Rattle.serde_json.proofs.OnLiterals.{serde_json_on_literals}
use Rattle.plan_report.specs.Inside.{json_head_text}
use Rattle.plan_report.specs.Json.{leg_data, legs_data, route_data, json_text_of}

pub no_float : (leg : Leg) → has_float (leg_data leg) ≡ false
no_float (Drive a) = refl
no_float (Wait k) = refl

-- one item more is written
pub item_more : {A : Type 0} (f : A → Data) (xs : List A) (i : ℕ) (x : A) (later : Bool) (out parted next all : List ℕ) → i < length xs
    → x ≡ get_or xs i x → parted ≡ out ++ comma_if later → next ≡ parted ++ compact_text (f x)
    → out ++ items_text later (items_of (map f (drop i xs))) ≡ all → next ++ items_text true (items_of (map f (drop (i + 1) xs))) ≡ all
item_more f xs i x later out parted next all low x-is parted-is next-is so_far =
    let rest = items_text true (items_of (map f (drop (i + 1) xs))) in
    ap (λ (t : List ℕ). t ++ rest) (next-is ∙ ap (λ (t : List ℕ). t ++ compact_text (f x)) parted-is)
    ∙ append_assoc (out ++ comma_if later) (compact_text (f x)) rest
    ∙ append_assoc out (comma_if later) (compact_text (f x) ++ rest)
    ∙ ap (λ y. out ++ (comma_if later ++ (compact_text (f y) ++ rest))) x-is
    ∙ ap (λ ys. out ++ items_text later (items_of (map f ys))) (sym (drop_more xs i x low))
    ∙ so_far

-- the text of a route, part by part
pub route_is : (route : Route) → compact_text (route_data route) ≡ json_head_text route ++ (compact_text (legs_data route.legs) ++ codes "}")
unfolding serde_json_on_literals
route_is route =
    let a = decimal route.pair.arrival in
    let c = decimal route.pair.cost in
    let rest = compact_text (legs_data route.legs) ++ codes "}" in
    ap (λ (t : List ℕ). codes "{\"arrival\":" ++ t)
    (sym (append_assoc a (codes ",\"cost\":" ++ (c ++ codes ",\"legs\":")) rest
    ∙ ap (λ (t : List ℕ). a ++ (codes ",\"cost\":" ++ t)) (append_assoc c (codes ",\"legs\":") rest)))

-- a route up to its legs, written in three parts
pub head_pushed : (out one two three : List ℕ) (route : Route) → one ≡ out ++ (codes "{\"arrival\":" ++ decimal route.pair.arrival)
    → two ≡ one ++ (codes ",\"cost\":" ++ decimal route.pair.cost) → three ≡ two ++ codes ",\"legs\":" → three ≡ out ++ json_head_text route
head_pushed out one two three route one-is two-is three-is =
    let a = decimal route.pair.arrival in
    let c = decimal route.pair.cost in
    let ends = codes ",\"legs\":" in
    let later = codes ",\"cost\":" ++ c in
    three-is
    ∙ ap (λ (t : List ℕ). t ++ ends) (two-is ∙ ap (λ (t : List ℕ). t ++ later) one-is)
    ∙ append_assoc (out ++ (codes "{\"arrival\":" ++ a)) later ends
    ∙ append_assoc out (codes "{\"arrival\":" ++ a) (later ++ ends)
    ∙ ap (λ (t : List ℕ). out ++ t) (append_assoc (codes "{\"arrival\":") a (later ++ ends)
    ∙ ap (λ (t : List ℕ). codes "{\"arrival\":" ++ (a ++ t)) (append_assoc (codes ",\"cost\":") c ends))

-- a route, written in three parts
pub route_pushed : (out headed listed next : List ℕ) (route : Route) → headed ≡ out ++ json_head_text route
    → listed ≡ headed ++ compact_text (legs_data route.legs) → next ≡ listed ++ codes "}" → next ≡ out ++ compact_text (route_data route)
route_pushed out headed listed next route headed-is listed-is next-is =
    next-is
    ∙ ap (λ (t : List ℕ). t ++ codes "}") (listed-is ∙ ap (λ (t : List ℕ). t ++ compact_text (legs_data route.legs)) headed-is)
    ∙ append_assoc (out ++ json_head_text route) (compact_text (legs_data route.legs)) (codes "}")
    ∙ append_assoc out (json_head_text route) (compact_text (legs_data route.legs) ++ codes "}")
    ∙ ap (λ (t : List ℕ). out ++ t) (sym (route_is route))

-- the text of all routes, part by part
pub routes_are : (routes : List Route) → json_text_of routes
    ≡ codes "{\"pairs\":" ++ (compact_text (array (items_of (map route_data routes))) ++ codes "}\n")
unfolding serde_json_on_literals
routes_are routes = ap (λ (t : List ℕ). codes "{\"pairs\":" ++ t)
    (append_assoc (compact_text (array (items_of (map route_data routes)))) (codes "}") (codes "\n"))
