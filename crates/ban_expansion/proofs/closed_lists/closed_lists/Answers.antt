use Rattle.std.proofs.Common.{◌≡◌, ◌+◌, List, [], ◌∷◌, ◌++◌, map, take, get_or, ap, sym, ◌∙◌, subst}
use Rattle.std.proofs.lemmas.List.{map_push, take_more}
use Rattle.route_base.specs.Runs.{any_has}
use Rattle.route_base.specs.declared.types.ArcId.{ArcId}
use Rattle.route_base.specs.declared.types.Run.{Run}
use Rattle.ban_expansion.specs.Inside.GroupedNets.{HasClosed, AreClosedLists}
use Rattle.ban_expansion.proofs.ItemLists.{zip_push}
use Rattle.ban_expansion.proofs.closed_lists.closed_lists.Goals as goal

abbrev no_arc : ArcId
no_arc = record { 0 = 0 }

pub loop-first-init : goal.loop-first-init
loop-first-init c = record {
  lists = rw c.in_ok-lists.ensures.items tt;
  known = c.in_ok-bans.ensures c.args.network.now c.args.vehicle.now c.args.window (sym c.area_count.ensures);
}

pub loop-first-preserved : goal.loop-first-preserved
loop-first-preserved c =
    let network = c.args.network.now in
    let vehicle = c.args.vehicle.now in
    let window = c.args.window in
    let firsts : List ArcId = c.args.firsts.now in
    let i = c.loop-first.first-index in
    let first : ArcId = get_or firsts i no_arc in
    let runs : List Run = c.into_runs.result.items in
    let before : List (List Run) = map (λ v. v.items) c.loop-first.lists.items in
    let lists : map (λ v. v.items) c.push.new.self.items ≡ before ++ runs ∷ [] =
    ap (map (λ v. v.items)) c.in_ok-push.ensures.items ∙ map_push (λ v. v.items) c.loop-first.lists.items c.into_runs.result in
    let has : HasClosed network vehicle window first runs = record {
      runs = c.into_runs.ensures.runs;
      minutes = λ t. ap (λ (rs : List Run). any_has rs t) c.into_runs.ensures.items ∙ c.in_ok-set.ensures.minutes t;
    } in
    let more = zip_push (HasClosed network vehicle window) (take i firsts) before first runs c.loop-first.invariant.lists has in
    let all : AreClosedLists network vehicle window (take (i + 1) firsts) (map (λ v. v.items) c.push.new.self.items) =
    subst (λ (sets : List (List Run)). AreClosedLists network vehicle window (take (i + 1) firsts) sets) (sym lists)
    (subst (λ (arcs : List ArcId). AreClosedLists network vehicle window arcs (before ++ runs ∷ []))
    (sym (take_more firsts i no_arc c.loop-first-test.true)) more) in
    record { lists = all; known = c.in_ok-set.ensures.known }
