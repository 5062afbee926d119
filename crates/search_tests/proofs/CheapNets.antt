-- Nets of small parts are well-formed, and their costs fit.
use Rattle.std.proofs.Common.{◌≡◌, ℕ, ◌*◌, ◌≤◌, Option, Some, None, List, length, refl, ap, sym, subst, arith}
use Rattle.std.specs.Prelude.{All, IfSome, Vec}
use Rattle.std.specs.declared.alloc.Global.{Global}
use Rattle.std.specs.Option.{option_map, ForSome}
use Rattle.std.proofs.lemmas.List.{length-map}
use Rattle.std.proofs.lemmas.List.Elements.{All-map, All-weaker}
use Rattle.route_base.specs.Legs.{CostsFit}
use Rattle.route_base.specs.Net.{Net, IsGoodArc, IsGoodNet, IsGoodPark, at_number, net_from, road_of, setting_of}
use Rattle.route_base.specs.Runs.{AreRuns}
use Rattle.route_base.specs.Setting.{Road}
use Rattle.route_base.specs.declared.types.Park.{Park}
use Rattle.route_base.specs.declared.types.Request.{Request}
use Rattle.route_base.specs.declared.types.Run.{Run}
use Rattle.route_base.specs.declared.types.TimedArc.{TimedArc}
use Rattle.route_base.proofs.Costs.{fits}
use Rattle.route_base.proofs.Parks.{weight_small}
use Rattle.route_base.proofs.Numbered.{at_number-all}
use Rattle.search_tests.specs.SmallNets.{IsSmallArc, IsCheapArc, IsLight, IsRequestOver}

light_park : (net : Net) (lists : ℕ) → lists ≡ length net.closed → (o : Option Park) → IsLight lists o → ForSome o (IsGoodPark net)
light_park net lists as_many None light park is = absurd (cc)
light_park net lists as_many (Some p) light park is =
    let same : p ≡ park = cc in
    subst (IsGoodPark net) same (record { weight = omega (arith, light.0); shut = omega (arith, light.1, as_many) })

-- what holds of all items holds of the one at a number, where there is one
item_at : {A : Type 0} (P : A → Type 0) (xs : List A) (n : ℕ) → All P xs → IfSome (at_number xs n) P
item_at P xs n all = cases (at_number xs n) refl
  where
    cases : (o : Option _) → at_number xs n ≡ o → IfSome o P
    cases None is = tt
    cases (Some x) is = at_number-all P xs n x all is

module _ (nodes : ℕ) (arcs : List TimedArc) (closed : List (Vec Run Global)) (parks : List (Option Park)) where
  -- a net of small parts is well-formed
  pub well_formed : nodes ≤ 100 → length arcs ≤ 100 → length closed ≤ 100 → length parks ≡ nodes → All (IsSmallArc nodes (length closed)) arcs
      → All (λ v. AreRuns v.items) closed → All (IsLight (length closed)) parks → IsGoodNet (net_from nodes arcs closed parks)
  well_formed few few_arcs few_lists each small runs light = record {
    nodes = omega (arith, few);
    arcs = omega (arith, few_arcs);
    closed = omega (arith, few_lists, length-map closed (λ (v : Vec Run Global). v.items));
    parks = each;
    each_arc = All-weaker (IsSmallArc nodes (length closed)) (IsGoodArc (net_from nodes arcs closed parks))
        (λ arc here. record {
          tail = here.tail;
          head = here.head;
          minutes = (here.cheap.minutes.0, omega (arith, here.cheap.minutes.1));
          cost = omega (arith, here.cheap.cost, here.cheap.minutes.1);
          closed = omega (arith, here.closed, length-map closed (λ (v : Vec Run Global). v.items));
        })
        arcs small;
    each_runs = All-map AreRuns (λ (v : Vec Run Global). v.items) closed runs;
    each_park = All-weaker (IsLight (length closed)) (λ o. ForSome o (IsGoodPark (net_from nodes arcs closed parks)))
        (light_park (net_from nodes arcs closed parks) (length closed) (sym (length-map closed (λ (v : Vec Run Global). v.items)))) parks light;
  }

cheap_road : (o : Option TimedArc) (road : Road) → IfSome o IsCheapArc → option_map road_of o ≡ Some road → road.cost ≤ 110000 * road.minutes
cheap_road None road cheap is = absurd (cc)
cheap_road (Some arc) road cheap is = let same : road_of arc ≡ road = cc
    in omega (arith, ap (λ (w : Road). w.cost) same, ap (λ (w : Road). w.minutes) same, cheap)

-- the costs of a request over a net of cheap arcs fit
pub costs_fit : (net : Net) (r : Request) → IsGoodNet net → All IsCheapArc net.arcs → IsRequestOver net r → CostsFit (setting_of net) r
costs_fit net r good cheap over = fits (setting_of net) r
    (record {
      each_road = λ a road is. cheap_road (at_number net.arcs a) road (item_at IsCheapArc net.arcs a cheap) is;
      each_weight = weight_small net good;
    })
    over.in_time over.short
