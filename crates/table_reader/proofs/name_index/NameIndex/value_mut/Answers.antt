use Rattle.std.proofs.Common.{◌∙◌, inl, inr, List, ℕ, Vec, Global, map, ap}
use Rattle.table_reader.proofs.NameRows.{value_seen, value_written}
use Rattle.table_reader.proofs.name_index.NameIndex.value_mut.Goals as goal

pub returns-in-Some : goal.returns-in-Some
returns-in-Some g c =
    let entries = c.self.inside.held.entries in
    let found = c.in-Some.ensures.value ∙ value_seen (λ k. k.items) entries _ c.self.view_is c.args.name.now in
    let written = λ (w : g.row.V.Denot).
    ap (λ (es : List (Vec ℕ Global × g.row.V.Denot)). map (λ (e : Vec ℕ Global × g.row.V.Denot). (e.0.items, e.1)) es) (c.get_mut.follows.holds w).0
    ∙ value_written (λ k. k.items) entries _ c.self.view_is c.args.name.now w in (
      λ i. inl (c.in-Some.value.ghost_name, λ w. written w i),
      record { writes_back = tt; value = found },
    )

pub returns-in-None : goal.returns-in-None
returns-in-None g c =
    let none = c.in-None.ensures.value ∙ value_seen (λ k. k.items) c.self.inside.held.entries _ c.self.view_is c.args.name.now in
    let kept = ap (λ (held : _). map (λ (e : Vec ℕ Global × g.row.V.Denot). (e.0.items, e.1)) held.entries) c.get_mut.follows.holds-at-none
    ∙ c.self.view_is in (
      λ i. inr (kept i),
      record { writes_back = tt; value = none },
    )
