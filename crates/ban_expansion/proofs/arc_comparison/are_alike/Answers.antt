use Rattle.std.proofs.Common.{◌≡◌, ℕ, Option, All, IsTrue, unwrap_or, ap, sym, ◌∙◌}
use Rattle.std.proofs.lemmas.Result.{IfOk-weaker}
use Rattle.vehicle_classes.specs.Keys.{every_key}
use Rattle.network_tables.specs.Access.{area_place}
use Rattle.ban_expansion.specs.Inside.Grouping.{AreAlike, HaveSameRules}
use Rattle.ban_expansion.proofs.AlikeArcs.{alike_by_keys}
use Rattle.ban_expansion.proofs.arc_comparison.are_alike.Goals as goal

pub returns : goal.returns
returns c =
    let network = c.args.network.now in
    let a = c.args.a.0 in
    let b = c.args.b.0 in
    let place = λ (o : Option ℕ). unwrap_or o 0 in
    let area : area_place network a ≡ area_place network b =
    ap place c.area_of.ensures.value ∙ c.if-area_of.false ∙ sym (ap place c.area_of-2.ensures.value) in
    let closures = c.have_same_closures.ensures c.if-not-have_same_closures.false in
    IfOk-weaker c.have_same_rules.result (λ same. IsTrue same → All (HaveSameRules network a b) every_key) (λ same. IsTrue same → AreAlike network a b)
    (λ same rules yes. alike_by_keys network a b area closures (rules yes)) c.have_same_rules.ensures
