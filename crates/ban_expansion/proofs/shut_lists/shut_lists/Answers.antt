use Rattle.std.proofs.Common.{◌≡◌, ◌<◌, ◌+◌, ◌&&◌, ℕ, List, [], ◌∷◌, ◌++◌, Option, None, length, map, take, get_or, ap, sym, ◌∙◌, subst, arith}
use Rattle.std.specs.Prelude.{not}
use Rattle.std.proofs.lemmas.List.{map_push, take_more, take_all}
use Rattle.std.proofs.lemmas.Option.{unwrap_or-slice_get}
use Rattle.opening_hours.specs.declared.types.HoursRule.{HoursRule}
use Rattle.route_base.specs.Runs.{any_has, has_minute}
use Rattle.route_base.specs.declared.types.Run.{Run}
use Rattle.network_tables.specs.Access.{area_at, is_open_by}
use Rattle.network_tables.specs.Parks.{Timetable, timetable_at}
use Rattle.ban_expansion.specs.Inside.ShutLists.{HasShut, AreShutLists}
use Rattle.ban_expansion.proofs.ItemLists.{zip_push}
use Rattle.ban_expansion.proofs.shut_lists.shut_lists.Goals as goal

abbrev none : Timetable
none = record { area = 0; hours = None }

pub loop-k-preserved : goal.loop-k-preserved
loop-k-preserved c =
    let network = c.args.network.now in
    let window = c.args.window in
    let timetables : List Timetable = c.args.parks.now.timetables in
    let k = c.loop-k.k in
    let timetable : Timetable = get_or timetables k none in
    let at : timetable_at timetables k ≡ timetable = unwrap_or-slice_get timetables k none in
    let runs : List Run = c.into_runs.result.items in
    let before : List (List Run) = map (λ v. v.items) c.loop-k.lists.items in
    let lists : map (λ v. v.items) c.push.new.self.items ≡ before ++ runs ∷ [] =
    ap (map (λ v. v.items)) c.in_ok-push.ensures.items ∙ map_push (λ v. v.items) c.loop-k.lists.items c.into_runs.result in
    let hours = c.hours.ensures ∙ ap (λ (t : Timetable). t.hours) at in
    let area = sym c.area.ensures ∙ ap (λ (t : Timetable). t.area) at in
    let has : HasShut network window timetable runs = record {
      runs = c.into_runs.ensures.runs;
      minutes = λ t.
          ap (λ (rs : List Run). any_has rs t) c.into_runs.ensures.items
          ∙ c.in_ok-set.ensures t
          ∙ ap (λ (o : Option (List HoursRule)). has_minute t window && not (is_open_by o (area_at network c.area.result) t)) hours
          ∙ ap (λ (a : ℕ). has_minute t window && not (is_open_by timetable.hours (area_at network a) t)) area;
    } in
    let within : k < length timetables = omega (arith, c.loop-k-test.true, c.timetable_count-k-end.ensures) in
    let more = zip_push (HasShut network window) (take k timetables) before timetable runs c.loop-k.invariant has in
    subst (λ (sets : List (List Run)). AreShutLists network window (take (k + 1) timetables) sets) (sym lists)
    (subst (λ (ts : List Timetable). AreShutLists network window ts (before ++ runs ∷ [])) (sym (take_more timetables k none within)) more)

pub returns : goal.returns
returns c =
    let timetables : List Timetable = c.args.parks.now.timetables in
    subst (λ (ts : List Timetable). AreShutLists c.args.network.now c.args.window ts (map (λ v. v.items) c.loop-k.lists.items))
    (take_all c.loop-k.k timetables (omega (arith, c.loop-k-test.false, c.timetable_count-k-end.ensures))) c.loop-k.invariant
