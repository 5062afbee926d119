use Rattle.std.proofs.Common.{◌≡◌, inl, inr, Option, Some, None, sym, ◌∙◌, ap, subst, rules}
use Rattle.std.specs.Option.{option_map}
use Rattle.std.specs.Prelude.{All}
use Rattle.std.proofs.lemmas.List.Elements.{All-push}
use Rattle.route_base.specs.declared.types.TimedArc.{TimedArc}
use Rattle.node_arcs.specs.Stars.{node_at}
use Rattle.node_arcs.specs.declared.links.End.TheVariants.{Tail}
use Rattle.potentials.specs.Sums.{bound_at}
use Rattle.cost_functions.specs.Pieces.{value_at}
use Rattle.propagation.specs.Found.{cost_at}
use Rattle.propagation.specs.Inside.Invariants.{point}
use Rattle.propagation.specs.Inside.States.{HasArc, IsOutgoingArc}
use Rattle.propagation.proofs.Gathering.{added_in, kept_in, no_way_on}
use Rattle.propagation.proofs.Lowering.{value_is}
use Rattle.propagation.proofs.Rejected.{drive_known}
use Rattle.propagation.proofs.ways.add_way.Goals as goal

pub returns-in_default-clause-added : goal.returns-in_default-clause-added
returns-in_default-clause-added c = record {
  here = inr (λ t x q there step. inr (no_way_on c.args.task c.args.progress.now.pairs.items c.args.a.0 (point c.args.v.0 t x) q step (λ arc is.
      let bad : ◌≡◌ {A = Option TimedArc} None (Some arc) = sym c.in_default.is ∙ (c.arc.ensures.value ∙ is) in cc)));
  kept = λ b has. has;
}

pub returns-in_default-get-clause-added : goal.returns-in_default-get-clause-added
returns-in_default-get-clause-added c = record {
  here = inr (λ t x q there step. inr (no_way_on c.args.task c.args.progress.now.pairs.items c.args.a.0 (point c.args.v.0 t x) q step (λ arc is.
      let both : Some c.in-Some.arc ≡ Some arc = c.in-Some.ensures.value ∙ is in
      let same : c.in-Some.arc ≡ arc = cc in
      ap (λ (w : TimedArc). bound_at c.args.task.bounds.now w.head.0) (sym same) ∙ (sym c.get.ensures ∙ c.in_default-get.is))));
  kept = λ b has. has;
}

pub returns-clause-arcs : goal.returns-clause-arcs
returns-clause-arcs c =
    let arc = c.in-Some.arc in
    let own = IsOutgoingArc c.args.task c.args.v.0 in
    let tail : Some arc.tail.0 ≡ Some c.args.v.0 = ap (option_map (node_at Tail)) c.in-Some.ensures.value ∙ c.requires.begins in
    subst (All own) (sym c.in_ok-push.ensures.items) (All-push own c.args.ways.now.items _ c.requires.arcs (record {
      is = sym c.in-Some.ensures.value;
      good = c.in-Some.ensures.good;
      begins = cc;
      bound = search rules;
      park = search rules;
      good_park = search rules;
    }))

pub returns-clause-added : goal.returns-clause-added
returns-clause-added c = record {
  here = inl (subst (λ ways. HasArc ways c.args.a.0) (sym c.in_ok-push.ensures.items) (added_in c.args.ways.now.items _));
  kept = λ b has. subst (λ ways. HasArc ways b) (sym c.in_ok-push.ensures.items) (kept_in c.args.ways.now.items _ b has);
}

pub returns-then-is_shown_no_better-clause-added : goal.returns-then-is_shown_no_better-clause-added
returns-then-is_shown_no_better-clause-added c = record {
  here = inr (λ t x q there step.
      let own = c.index-own.result.now in
      let head = c.in-Some.arc.head.0 in
      inl (drive_known c.args.task.net.now c.args.task.request.until c.args.a.0 c.args.v.0 c.in-Some.arc (sym c.in-Some.ensures.value)
      (cost_at c.args.progress.now.functions.items) own
      (value_is c.args.progress.now.functions.items head own (search rules) (search rules) c.index-own.ensures)
      t x
      (c.is_shown_no_better.ensures (search rules) t x (ap (λ ps. value_at ps t) c.pieces.ensures.items ∙ there)) q step));
  kept = λ b has. has;
}
