use Rattle.std.proofs.Common.{ℕ, List, sym, subst}
use Rattle.route_base.specs.Net.{setting_of}
use Rattle.state_dominance.specs.Inside.Product.{AreLatest}
use Rattle.ruled_states.specs.Inside.Latest.{latest_by}
use Rattle.ruled_search.specs.Inside.Tasks.{progress_of, state_bound}
use Rattle.ruled_search.proofs.Planned.{planned}
use Rattle.ruled_search.proofs.planning.plan_with_bounds.Goals as goal

pub searched-requires : goal.searched-requires
searched-requires g c = record {
  asked = record {
    good = c.node_count-nodes.ensures.good;
    ends = c.requires.good;
    in_time = c.requires.in_time;
    fit = c.requires.fit;
    rules = g.met.R.Ruler.simulates c.args.ruler.now;
    stages = g.met.R.Ruler.staged c.args.ruler.now;
    best = g.met.R.Ruler.bests c.args.ruler.now;
    numbers = c.requires.numbers;
    bound = c.requires.hold;
    latest = subst (λ (w : List ℕ). AreLatest (g.R.Ruler.ruling c.args.ruler.now) c.args.request.until
        (state_bound (g.R.Ruler.ruling c.args.ruler.now) c.args.bounds.now) (latest_by (g.R.Ruler.ruling c.args.ruler.now) w c.args.request.until))
        (sym c.deref.ensures.value) c.in_ok-latest.ensures;
    outgoing = c.in_ok-outgoing.ensures;
    reduced = c.requires.reduced;
  };
}

pub routes_of-requires : goal.routes_of-requires
routes_of-requires g c = record {
  solved = record {
    asked = record {
      good = c.node_count-nodes.ensures.good;
      ends = c.requires.good;
      in_time = c.requires.in_time;
      fit = c.requires.fit;
      rules = g.met.R.Ruler.simulates c.args.ruler.now;
      stages = g.met.R.Ruler.staged c.args.ruler.now;
      best = g.met.R.Ruler.bests c.args.ruler.now;
      numbers = c.requires.numbers;
      bound = c.requires.hold;
      latest = subst (λ (w : List ℕ). AreLatest (g.R.Ruler.ruling c.args.ruler.now) c.args.request.until
          (state_bound (g.R.Ruler.ruling c.args.ruler.now) c.args.bounds.now) (latest_by (g.R.Ruler.ruling c.args.ruler.now) w c.args.request.until))
          (sym c.deref.ensures.value) c.in_ok-latest.ensures;
      outgoing = c.in_ok-outgoing.ensures;
      reduced = c.requires.reduced;
    };
    shape = c.in_ok-progress.ensures.shape;
    arcs = c.requires.incoming;
    facts = c.in_ok-progress.ensures.facts;
    done = c.in_ok-progress.ensures.done;
  };
}

pub returns : goal.returns
returns g c =
    let ruler = g.R.Ruler.ruling c.args.ruler.now in
    let until = c.args.request.until in
    let bound = state_bound ruler c.args.bounds.now in
    let late = subst (λ (w : List ℕ). AreLatest ruler until bound (latest_by ruler w until)) (sym c.deref.ensures.value) c.in_ok-latest.ensures in
    record {
      planned = planned (setting_of c.args.net.now) ruler c.args.request bound (latest_by ruler c.deref.result.now until)
          (g.met.R.Ruler.simulates c.args.ruler.now) c.requires.numbers c.requires.hold late c.requires.in_time
          (progress_of c.in_ok-progress.progress) c.in_ok-routes.routes.items c.in_ok-progress.ensures.facts c.in_ok-progress.ensures.done
          c.in_ok-routes.ensures;
    }
