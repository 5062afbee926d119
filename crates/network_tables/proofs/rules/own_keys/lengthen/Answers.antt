use Rattle.std.proofs.Common.{◌≡◌, ◌++◌, ◌∷◌, [], List, rules, ap, ◌∙◌}
use Rattle.network_tables.specs.OwnKeys.{keys_at}
use Rattle.network_tables.specs.declared.rules.own_keys.OwnKeys.{OwnKeys}
use Rattle.network_tables.proofs.ArcRules.{keys_behind}
use Rattle.network_tables.proofs.rules.own_keys.lengthen.Goals as goal

pub arcs-preserved : goal.arcs-preserved
arcs-preserved c = λ b.
    (let items : c.push.new.self.items ≡ c.arcs.own.items ++ c.none.result ∷ [] = search rules in
    ap (λ (own : List OwnKeys). keys_at own b) items
    ∙ ap (λ (keys : OwnKeys). keys_at (c.arcs.own.items ++ keys ∷ []) b) c.none.ensures
    ∙ keys_behind c.arcs.own.items b
    ∙ c.arcs.invariant b)
