use Rattle.std.proofs.Common.{◌≡◌, ◌∙◌, ◌++◌, ◌∷◌, [], None, Option, List, ap, arith}
use Rattle.route_base.specs.declared.types.Run.{Run}
use Rattle.ban_expansion.proofs.AreaSets.{none_barred, none_more, none_yet}
use Rattle.ban_expansion.proofs.area_bans.AreaBans.new.Goals as goal

pub loop-area-preserved : goal.loop-area-preserved
loop-area-preserved c =
    c.in_ok-push.ensures.items ∙ ap (λ (l : List (Option (List Run))). l ++ None ∷ []) c.loop-area.invariant ∙ none_more c.loop-area.area

pub returns : goal.returns
returns c = λ network vehicle window size.
    let all : c.loop-area.area ≡ c.args.areas = omega (arith, c.loop-area-test.false, c.loop-area.auto.area-end) in
    none_barred network vehicle window c.loop-area.sets.items c.args.areas (c.loop-area.invariant ∙ ap none_yet all) size
