use Rattle.std.proofs.Common.{◌≡◌, ◌-◌, ◌≤◌, ◌++◌, [], ◌∷◌, ℕ, All, length, get_or, take, drop, ◌∙◌, ap, sym, subst, append_assoc}
use Rattle.std.specs.Prelude.{Result, Ok, Err, OnErr}
use Rattle.route_base.proofs.Lists.{first_and_rest}
use Rattle.cost_functions.specs.Lines.{AreOneLine}
use Rattle.cost_functions.specs.Pieces.{value_at}
use Rattle.cost_functions.specs.Building.{AreBuilt}
use Rattle.cost_functions.specs.declared.pieces.Piece.{Piece}
use Rattle.cost_functions.proofs.Appended.{built_behind}
use Rattle.cost_functions.proofs.Places.{value_onto}
use Rattle.cost_functions.proofs.builder.Builder.extend.Goals as goal

pub append_all-requires-clause-whole : goal.append_all-requires-clause-whole
append_all-requires-clause-whole c =
    let ps = c.args.pieces.now in
    let none : Piece = record { lo = 0; hi = 0; cost = 0; slope = 0 } in
    let first = get_or ps 0 none in
    let rest = take (length ps - 1) (drop 1 ps) in
    let push = c.in_ok-push.ensures in
    let xs = c.self.inside.held.items in
    let same : xs ≡ c.push.new.self = c.self.view_is in
    built_behind first rest (subst AreBuilt (first_and_rest ps none c.in-len1-up.len_at_least) c.requires.built) xs c.self.invariant
    (subst (All (λ q. q.hi ≤ first.hi)) (sym same) push.ended)
    (λ z far free. subst (All (λ q. (slope : ℕ) → AreOneLine q z slope → ⊥)) (sym same) (push.apart z far free))

pub returns-clause-values : goal.returns-clause-values
returns-clause-values c = λ t.
    let ps = c.args.pieces.now in
    let none : Piece = record { lo = 0; hi = 0; cost = 0; slope = 0 } in
    let first = get_or ps 0 none in
    let rest = take (length ps - 1) (drop 1 ps) in
    let old = c.args.self.now in
    let xs = c.self.inside.held.items in
    let same : xs ≡ c.push.new.self = c.self.view_is in
    ap (λ qs. value_at qs t) c.in_ok-append_all.ensures.items
    ∙ value_onto xs (old ++ first ∷ []) rest t (ap (λ qs. value_at qs t) same ∙ c.in_ok-push.ensures.values t)
    ∙ ap (λ qs. value_at qs t) (append_assoc old (first ∷ []) rest)
    ∙ ap (λ qs. value_at (old ++ qs) t) (sym (first_and_rest ps none c.in-len1-up.len_at_least))

-- a fact holds after an error too
on_err : {T E P : Type 0} (r : Result T E) → P → OnErr r P
on_err (Ok x) p = tt
on_err (Err e) p = p

-- the first piece was added
pub returns-in_err-append_all-clause-prefix : goal.returns-in_err-append_all-clause-prefix
returns-in_err-append_all-clause-prefix c = on_err c.from_residual-in_err-append_all.result (
  1,
  λ t.
      (let ps = c.args.pieces.now in
      let none : Piece = record { lo = 0; hi = 0; cost = 0; slope = 0 } in
      let same : c.self.inside.held.items ≡ c.push.new.self = c.self.view_is in
      ap (λ qs. value_at qs t) (c.in_err-append_all.ensures.kept ∙ same)
      ∙ c.in_ok-push.ensures.values t
      ∙ ap (λ qs. value_at (c.args.self.now ++ qs) t) (sym (ap (take 1) (first_and_rest ps none c.in-len1-up.len_at_least)))),
)
