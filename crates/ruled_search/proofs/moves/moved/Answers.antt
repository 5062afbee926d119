use Rattle.std.proofs.Common.{◌<◌, List, refl, sym, ◌∙◌, subst, arith}
use Rattle.cost_functions.specs.Pieces.{value_at}
use Rattle.cost_functions.specs.declared.pieces.Piece.{Piece}
use Rattle.function_merge.specs.Moves.{kept_at, moved_at, CanMove}
use Rattle.function_merge.specs.Pruning.{IsPruned}
use Rattle.route_base.specs.declared.types.Pair.{Pair}
use Rattle.ruled_states.specs.Inside.Codes.{base}
use Rattle.ruled_search.specs.Inside.Tasks.{task_of}
use Rattle.ruled_search.specs.Inside.Ways.{head_of, road_in, tail_of}
use Rattle.ruled_search.proofs.Closing.{bound_by_code, latest_by_code}
use Rattle.ruled_search.proofs.Made.{made_road}
use Rattle.ruled_search.proofs.Moving.{cleared_of, driven_is, starts_fit}
use Rattle.ruled_search.proofs.moves.moved.Goals as goal

pub shift_over_runs-requires-clause-fit : goal.shift_over_runs-requires-clause-fit
shift_over_runs-requires-clause-fit g c =
    let way = c.args.way in
    let starts = c.starts_at-starts.result.now in
    subst (λ (w : List Piece). CanMove way.minutes way.cost (kept_at w starts)) (sym c.pieces.ensures.items)
    (starts_fit (task_of _ g.R.Ruler.ruling c.args.task) (road_in way) (tail_of way) (made_road (tail_of way) (head_of way) way.minutes way.cost)
    c.requires.way.is refl starts c.starts_at-starts.ensures.starts c.requires.asked.fit c.requires.asked.ends.until (value_at c.args.part.now)
    c.requires.reached)

pub returns-clause-moved : goal.returns-clause-moved
returns-clause-moved g c =
    let way = c.args.way in
    let task = task_of _ g.R.Ruler.ruling c.args.task in
    let starts = c.starts_at-starts.result.now in
    let latest = c.latest_at.result in
    let small : way.head.0 < base = omega (arith, c.requires.way.head.1, c.requires.asked.good.nodes) in
    let ends = moved_at way.minutes way.cost (kept_at c.args.part.now starts) in
    let clear = c.in_ok-clear.clear in
    record {
      ends = ends;
      driven = driven_is task (road_in way) (tail_of way) (made_road (tail_of way) (head_of way) way.minutes way.cost) c.requires.way.is refl
          starts c.starts_at-starts.ensures.starts (value_at c.args.part.now) ends (λ t. refl);
      cleared = cleared_of task c.args.progress.now.pairs.items c.args.progress.now.borders.items (head_of way) latest way.bound ends
          (value_at clear) (bound_by_code g.R.Ruler.ruling c.args.task way.head.0 way.after small ∙ c.requires.way.bound)
          (latest_by_code g.R.Ruler.ruling c.args.task way.head.0 way.after small ∙ sym c.latest_at.ensures)
          c.requires.borders
          (subst (λ (w : List Pair). IsPruned latest w way.bound ends (value_at clear)) c.deref.ensures.value
          (subst (λ (w : List Piece). IsPruned latest c.deref.result.now way.bound (moved_at way.minutes way.cost (kept_at w starts)) (value_at clear))
          c.pieces.ensures.items c.in_ok-clear.ensures.values));
    }
