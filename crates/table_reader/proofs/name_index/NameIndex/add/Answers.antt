use Rattle.std.proofs.Common.{◌≡◌, List, ℕ, Vec, Global, None, map, ap, sym, ◌∙◌, refl}
use Rattle.std.specs.Map.{lookup}
use Rattle.std.specs.Option.{is_some}
use Rattle.std.specs.Str.{bytes_eq}
use Rattle.route_base.proofs.Logic.{none_from_test}
use Rattle.indexmap.proofs.CallerLemmas.{insert_entry-new}
use Rattle.table_reader.proofs.NameRows.{value_seen, seen_more}
use Rattle.table_reader.proofs.name_index.NameIndex.add.Goals as goal

pub returns-then-contains_key-clause-refused : goal.returns-then-contains_key-clause-refused
returns-then-contains_key-clause-refused g c = (
  refl,
  ap is_some (sym (value_seen (λ k. k.items) c.self.inside.held.entries _ c.self.view_is c.args.name.now)) ∙ sym c.contains_key.ensures
      ∙ c.if-contains_key.true,
)

pub returns-clause-free : goal.returns-clause-free
returns-clause-free g c =
    none_from_test _ (ap is_some (sym (value_seen (λ k. k.items) c.self.inside.held.entries _ c.self.view_is c.args.name.now))
    ∙ sym c.contains_key.ensures ∙ c.if-contains_key.false)

pub returns-clause-added : goal.returns-clause-added
returns-clause-added g c =
    let entries = c.self.inside.held.entries in
    let key = c.in_ok-from_slice.field-0 in
    let none : lookup (λ (k : Vec ℕ Global). bytes_eq key.items k.items) entries ≡ None =
    ap (λ (n : List ℕ). lookup (λ (k : Vec ℕ Global). bytes_eq n k.items) entries) c.in_ok-from_slice.ensures.items
    ∙ none_from_test _ (sym c.contains_key.ensures ∙ c.if-contains_key.false) in
    ap (λ (es : List (Vec ℕ Global × g.row.V.Denot)). map (λ (e : Vec ℕ Global × g.row.V.Denot). (e.0.items, e.1)) es)
    (c.in_ok-insert.ensures.entries ∙ insert_entry-new _ c.self.inside.held key c.args.value none)
    ∙ seen_more (λ k. k.items) entries _ c.self.view_is key c.args.name.now c.args.value c.in_ok-from_slice.ensures.items
