use Rattle.std.proofs.Common.{◌≡◌, Option, sym, subst}
use Rattle.std.specs.Prelude.{IfSome, OnOk}
use Rattle.cost_functions.specs.Pieces.{value_at}
use Rattle.state_dominance.specs.Inside.Dominance.{IsSearching}
use Rattle.state_dominance.specs.Inside.Product.{code}
use Rattle.ruled_states.specs.Inside.Codes.{base}
use Rattle.ruled_search.specs.Inside.Tasks.{task_of, progress_of, IsRoadRelaxed}
use Rattle.ruled_search.specs.Inside.Ways.{road_in}
use Rattle.ruled_search.specs.declared.ways.Way.{Way}
use Rattle.ruled_search.proofs.Relaxed.{tail_is}
use Rattle.ruled_search.proofs.turns.relax_from.Goals as goal

pub relax-requires-clause-facts : goal.relax-requires-clause-facts
relax-requires-clause-facts g c =
    let same = tail_is c.in-Some.way c.args.info (subst (λ (o : Option Way). IfSome o (λ (w : Way). (w.tail ≡ c.args.info.node) × (w.before ≡ c.args.info.state)))
    c.in-Some.is c.requires.tail) in
    subst (λ n. IsSearching (task_of _ g.R.Ruler.ruling c.args.task) (progress_of c.args.progress.now) n (value_at c.args.part.now)) (sym same)
    c.requires.facts

pub returns-in-Some-clause-facts : goal.returns-in-Some-clause-facts
returns-in-Some-clause-facts g c =
    let same = tail_is c.in-Some.way c.args.info (subst (λ (o : Option Way). IfSome o (λ (w : Way). (w.tail ≡ c.args.info.node) × (w.before ≡ c.args.info.state)))
    c.in-Some.is c.requires.tail) in
    subst (λ n. OnOk c.relax.result (IsSearching (task_of _ g.R.Ruler.ruling c.args.task) (progress_of c.relax.new.progress) n (value_at c.args.part.now))) same
    c.relax.ensures.facts

pub returns-in-Some-clause-relaxed : goal.returns-in-Some-clause-relaxed
returns-in-Some-clause-relaxed g c =
    let k = task_of _ g.R.Ruler.ruling c.args.task in
    let new = progress_of c.relax.new.progress in
    let part = value_at c.args.part.now in
    let here = code base c.args.info.node.0 c.args.info.state in
    let same = tail_is c.in-Some.way c.args.info (subst (λ (o : Option Way). IfSome o (λ (w : Way). (w.tail ≡ c.args.info.node) × (w.before ≡ c.args.info.state)))
    c.in-Some.is c.requires.tail) in
    subst (λ (o : Option Way). OnOk c.relax.result (IfSome o (λ (w : Way). IsRoadRelaxed k new here part (road_in w)))) (sym c.in-Some.is)
    (subst (λ n. OnOk c.relax.result (IsRoadRelaxed k new n part (road_in c.in-Some.way))) same c.relax.ensures.relaxed)
