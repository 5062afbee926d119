use Rattle.std.proofs.Common.{◌≡◌, ℕ, Ok, Some, List, [], ◌∷◌, ◌++◌, length, map, None, is_some, sym, ap, subst, ◌∙◌}
use Rattle.std.specs.Prelude.{slice_get, IsSome}
use Rattle.std.proofs.lemmas.List.{length-map, map-append}
use Rattle.std.proofs.lemmas.Result.{err_from_is_err_and}
use Rattle.route_base.proofs.Items.{slice_get-push_end}
use Rattle.area_tables.proofs.AreaRows.{place_is_some}
use Rattle.opening_hours.specs.declared.types.HoursRule.{HoursRule}
use Rattle.route_base.proofs.Logic.{none_from_test}
use Rattle.table_reader.specs.NameIndex.{value_under}
use Rattle.opening_hours.specs.declared.hours.Hours.{Hours}
use Rattle.network_tables.proofs.ParkLists.{keeps-push, text_there, weaker_cause}
use Rattle.network_tables.proofs.parking.HoursByText.place.Goals as goal

abbrev hours_in : List (List ℕ × List HoursRule) → List (List HoursRule)
hours_in texts = map (λ (e : List ℕ × List HoursRule). e.1) texts

pub returns-in-Some-clause-value : goal.returns-in-Some-clause-value
returns-in-Some-clause-value c =
    text_there c.self.inside.texts c.args.text.now c.in-Some.place c.self.invariant (sym c.in-Some.ensures.place)
    ∙ ap (λ (hours : List (List HoursRule)). Ok (slice_get hours c.in-Some.place)) c.self.view_is

pub returns-clause-kept : goal.returns-clause-kept
returns-clause-kept c i x is =
    keeps-push (hours_in c.self.inside.texts) (c.in_ok-hours.hours ∷ []) (hours_in c.add.new.self)
    (ap hours_in c.in_ok-add.ensures.added
    ∙ map-append (λ (e : List ℕ × List HoursRule). e.1) c.self.inside.texts ((c.args.text.now, c.in_ok-hours.hours) ∷ []))
    i x (ap (λ (hours : List (List HoursRule)). slice_get hours i) c.self.view_is ∙ is)

pub returns-clause-value : goal.returns-clause-value
returns-clause-value c =
    let old = hours_in c.self.inside.texts in
    c.in_ok-hours.ensures.value
    ∙ ap Ok (sym (ap (λ (hours : List (List HoursRule)). slice_get hours c.len-place.result)
    (ap hours_in c.in_ok-add.ensures.added
    ∙ map-append (λ (e : List ℕ × List HoursRule). e.1) c.self.inside.texts ((c.args.text.now, c.in_ok-hours.hours) ∷ []))
    ∙ ap (λ (n : ℕ). slice_get (old ++ c.in_ok-hours.hours ∷ []) n)
    (c.len-place.ensures.value ∙ sym (length-map c.self.inside.texts (λ (e : List ℕ × List HoursRule). e.1)))
    ∙ slice_get-push_end old c.in_ok-hours.hours))

pub returns-in_err-add-clause-refused : goal.returns-in_err-add-clause-refused
returns-in_err-add-clause-refused c =
    let p = err_from_is_err_and c.from_residual-in_err-add.result c.from_residual-in_err-add.ensures.1 in
    let none : value_under c.self.inside.texts c.args.text.now ≡ None =
    none_from_test _ (sym (place_is_some c.self.inside.texts c.args.text.now) ∙ ap is_some (sym c.place.ensures.place ∙ c.in_default.is)) in
    rw (p.1, p.2) (weaker_cause c.in_err-add.field-0.0 _ _
    (λ cause both. absurd (let no : IsSome {T = Hours} None = subst IsSome none both.1 in cc)) c.in_err-add.ensures.refused)
