-- The minutes at which ways can begin.
use Rattle.std.proofs.Common.{◌≡◌, ⊎_elim, ℕ, ◌+◌, ◌-◌, ◌≤◌, ◌<◌, Bool, true, false, Option}
use Rattle.std.proofs.Common.{Some, None, List, [], ◌∷◌, length, refl, sym, ◌∙◌, ap, subst, arith}
use Rattle.std.specs.Prelude.{IsTrue, ◌↔◌, nat_eq, nat_lt, nat_le, ◌||◌, slice_get, unwrap_or}
use Rattle.std.specs.Option.{MatchOption, option_to_list}
use Rattle.std.proofs.lemmas.Bool.{cases_lt, lt-ltb, le-leb, or_right}
use Rattle.route_base.specs.Net.{Net, runs_at, runs_by, setting_of, shut_runs_at}
use Rattle.route_base.specs.Net.{shut_by as runs_shut}
use Rattle.route_base.specs.Runs.{any_has}
use Rattle.route_base.specs.declared.types.ArcId.{ArcId}
use Rattle.route_base.specs.declared.types.Run.{Run}
use Rattle.propagation.specs.Inside.EntrySets.{AreEntries}
use Rattle.state_dominance.specs.Inside.Dominance.{Task}
use Rattle.state_dominance.specs.Inside.Product.{Ruler, Service, shut_by, shut_for}
use Rattle.ruled_search.specs.Inside.Tasks.{task_of}
use Rattle.ruled_search.specs.Inside.Ways.{AreLoneStarts, AreStarts, IsListOf, IsLoneRun, IsService, IsWay, kind_number, kind_place, road_in, shut_in}
use Rattle.ruled_search.specs.declared.task.Task.{Task as TaskHeld}
use Rattle.ruled_search.specs.declared.ways.Kind.{Kind}
use Rattle.ruled_search.specs.declared.ways.Kind.TheVariants.{Drive, Rest, Serve}
use Rattle.ruled_search.specs.declared.ways.Way.{Way}
use Rattle.ruled_search.proofs.Arriving.{opens_in}

-- where the road is shut in these runs
pub starts_of : (k : Task) (x minutes : ℕ) (closed set : List Run) → ((t : ℕ) → k.setting.shut x t ≡ any_has closed t)
    → AreEntries closed k.until minutes set → AreStarts k x minutes set
starts_of k x minutes closed set shut entries t = (
  λ has. let e = (entries t).0 has in (λ u low high. shut u ∙ e.free u low high, e.ends),
  λ free. (entries t).1 (record { begins = omega arith; ends = free.1; free = λ u low high. sym (shut u) ∙ free.0 u low high }),
)

not_before : (c : Service) (u : ℕ) → shut_for (Some c) u ≡ false → c.from ≤ u
not_before c u free = ⊎_elim
    (λ (early : u < c.from). let bad : true ≡ false = ap (λ b. b || nat_le c.to u) (sym (lt-ltb u c.from early)) ∙ free in cc)
    (λ (late : c.from ≤ u). late)
    (cases_lt u c.from)

not_after : (c : Service) (u : ℕ) → shut_for (Some c) u ≡ false → u < c.to
not_after c u free = ⊎_elim
    (λ (early : u < c.to). early)
    (λ (late : c.to ≤ u). let bad : true ≡ false = sym (or_right (nat_lt u c.from) (nat_le c.to u) (le-leb c.to u late)) ∙ free in cc)
    (cases_lt u c.to)

pub served_starts : (k : Task) (x minutes to : ℕ) (c : Service) (starts : List Run) → 1 ≤ minutes → ((t : ℕ) → k.setting.shut x t ≡ shut_for (Some c) t)
    → to ≤ c.to → to ≤ k.until → ((t : ℕ) → t ≤ c.to → t ≤ k.until → t ≤ to)
    → ((t : ℕ) → IsTrue (any_has starts t) → (c.from ≤ t) × (t + minutes ≤ to))
    → ((t : ℕ) → c.from ≤ t → t + minutes ≤ to → IsTrue (any_has starts t)) → AreStarts k x minutes starts
served_starts k x minutes to c starts some shut before until least only every t = (
  λ has.
      let w = only t has in
      (λ u low high. shut u ∙ opens_in c u (omega (arith, w.0, low)) (omega (arith, w.1, high, before)), omega (arith, w.1, until)),
  λ free.
      let low = not_before c t (sym (shut t) ∙ free.0 t (omega arith) (omega (arith, some))) in
      let last = not_after c (t + minutes - 1) (sym (shut (t + minutes - 1)) ∙ free.0 (t + minutes - 1) (omega (arith, some)) (omega (arith, some))) in
      every t low (least (t + minutes) (omega (arith, last, some)) free.1),
)

-- what is always shut has no starts
pub never_starts : (k : Task) (x minutes : ℕ) → 1 ≤ minutes → ((t : ℕ) → k.setting.shut x t ≡ true) → AreStarts k x minutes []
never_starts k x minutes some shut t = (
  λ has. let bad : false ≡ true = has in cc,
  λ free. let bad : true ≡ false = sym (shut t) ∙ free.0 t (omega arith) (omega (arith, some)) in cc,
)

-- a way that is no service is shut in the runs of its list
module _ {R : Type 0} (ruling : R → Ruler) (task : TaskHeld R) (way : Way) (is : IsWay R ruling task way) where
  pub way_shut : (IsService way.kind → ⊥) → (t : ℕ) → (task_of R ruling task).setting.shut (road_in way) t
      ≡ any_has (shut_in task.net.now way.kind way.list) t
  way_shut other t = is.shut t ∙ by way.kind other is.list
    where
      by : (kind : Kind) → (IsService kind → ⊥) → IsListOf task.net.now way.tail.0 kind way.list
          → shut_by (setting_of task.net.now) (ruling task.ruler.now) (kind_number kind) (kind_place kind) way.tail.0 t
          ≡ any_has (shut_in task.net.now kind way.list) t
      by (Drive a) never list =
          ap (λ o. any_has (runs_by task.net.now o) t) list.1 ∙ ap (λ n. any_has (unwrap_or (slice_get task.net.now.closed n) []) t) list.2
      by (Rest place) never list =
          ap (λ o. any_has (runs_shut task.net.now o) t) list.1 ∙ ap (λ n. any_has (unwrap_or (slice_get task.net.now.closed n) []) t) list.2
      by (Serve place) never list = absurd (never tt)

  -- the starts where there is no set
  pub lone_starts : (runs : List Run) → shut_in task.net.now way.kind way.list ≡ [] → IsLoneRun (task_of R ruling task) way runs
      → AreStarts (task_of R ruling task) (road_in way) way.minutes runs
  lone_starts runs none = by way.kind (λ other t. way_shut other t ∙ ap (λ w. any_has w t) none)
    where
      by : (kind : Kind) → ((IsService kind → ⊥) → (t : ℕ) → (task_of R ruling task).setting.shut (road_in way) t ≡ any_has [] t)
          → AreLoneStarts (task_of R ruling task) (road_in way) way.minutes kind runs → AreStarts (task_of R ruling task) (road_in way) way.minutes runs
      by (Drive a) shut lone = starts_of (task_of R ruling task) (road_in way) way.minutes [] runs (shut (λ never. never)) lone
      by (Rest place) shut lone = starts_of (task_of R ruling task) (road_in way) way.minutes [] runs (shut (λ never. never)) lone
      by (Serve place) shut lone = lone

-- the runs of a list are those that shut a way, if there are any
pub own_runs : (net : Net) (kind : Kind) (list : ℕ) (closed : List Run) → closed ≡ shut_in net kind list → (closed ≡ [] → ⊥)
    → (unwrap_or (slice_get net.closed list) [] ≡ closed) × (IsService kind → ⊥)
own_runs net (Drive a) list closed is some = (sym is, λ never. never)
own_runs net (Rest place) list closed is some = (sym is, λ never. never)
own_runs net (Serve place) list closed is some = absurd (some is)

-- the starts of a service
module _ {R : Type 0} (ruling : R → Ruler) (task : TaskHeld R) (way : Way) (is : IsWay R ruling task way) (place : ℕ) (serves : way.kind ≡ Serve place) where
  shut_so : (o : Option Service) → slice_get (ruling task.ruler.now).services place ≡ o → (t : ℕ)
      → (task_of R ruling task).setting.shut (road_in way) t ≡ shut_for o t
  shut_so o at t = is.shut t
      ∙ ap (λ (w : Kind). shut_by (setting_of task.net.now) (ruling task.ruler.now) (kind_number w) (kind_place w) way.tail.0 t) serves
      ∙ ap (λ o. shut_for o t) at

  pub no_service_starts : slice_get (ruling task.ruler.now).services place ≡ None → AreStarts (task_of R ruling task) (road_in way) way.minutes []
  no_service_starts none = never_starts (task_of R ruling task) (road_in way) way.minutes is.some (shut_so None none)

  pub service_starts : (c : Service) (to : ℕ) (runs : List Run) → slice_get (ruling task.ruler.now).services place ≡ Some c → to ≤ c.to
      → to ≤ task.request.until
      → ((t : ℕ) → t ≤ c.to → t ≤ task.request.until → t ≤ to)
      → ((t : ℕ) → IsTrue (any_has runs t) ↔ ((c.from ≤ t) × (t + way.minutes ≤ to)))
      → AreStarts (task_of R ruling task) (road_in way) way.minutes runs
  service_starts c to runs at before until least each = served_starts (task_of R ruling task) (road_in way) way.minutes to c runs is.some
      (shut_so (Some c) at) before until least (λ t. (each t).0) (λ t low high. (each t).1 (low, high))

-- the runs of a way of the kind
pub lone_at : (k : Task) (x minutes : ℕ) (kind same : Kind) (runs : List Run) → kind ≡ same → AreLoneStarts k x minutes same runs
    → AreLoneStarts k x minutes kind runs
lone_at k x minutes kind same runs is lone = subst (λ (w : Kind). AreLoneStarts k x minutes w runs) (sym is) lone

pub not_empty : {A : Type 0} (xs : List A) (b : Bool) → b ≡ nat_eq (length xs) 0 → b ≡ false → xs ≡ [] → ⊥
not_empty xs b is some none = let bad : true ≡ false = ap (λ w. nat_eq (length w) 0) (sym none) ∙ sym is ∙ some in cc

-- the runs that are read are those of the list
pub drive_runs : (net : Net) (v : ℕ) (kind : Kind) (a : ArcId) (list : ℕ) → kind ≡ Drive a → IsListOf net v kind list → runs_at net a.0 ≡ shut_in net kind list
drive_runs net v kind a list is at = subst (λ (w : Kind). IsListOf net v w list → runs_at net a.0 ≡ shut_in net w list) (sym is)
    (λ (l : IsListOf net v (Drive a) list). ap (runs_by net) l.1 ∙ ap (λ n. unwrap_or (slice_get net.closed n) []) l.2) at

pub rest_runs : (net : Net) (v : ℕ) (kind : Kind) (place list : ℕ) → kind ≡ Rest place → IsListOf net v kind list → shut_runs_at net v ≡ shut_in net kind list
rest_runs net v kind place list is at = subst (λ (w : Kind). IsListOf net v w list → shut_runs_at net v ≡ shut_in net w list) (sym is)
    (λ (l : IsListOf net v (Rest place) list). ap (runs_shut net) l.1 ∙ ap (λ n. unwrap_or (slice_get net.closed n) []) l.2) at

pub serve_runs : (net : Net) (kind : Kind) (place list : ℕ) → kind ≡ Serve place → ◌≡◌ {A = List Run} [] (shut_in net kind list)
serve_runs net kind place list is = subst (λ (w : Kind). ◌≡◌ {A = List Run} [] (shut_in net w list)) (sym is) refl

pub slice_is : {A : Type 0} (o : Option A) (xs : List A) → MatchOption o (xs ≡ []) (λ x. xs ≡ x ∷ []) → xs ≡ option_to_list o
slice_is None xs is = is
slice_is (Some x) xs is = is
