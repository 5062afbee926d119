-- The columns of a table, read minute by minute and node by node.
use Rattle.std.proofs.Common.{◌≡◌, ◌≢◌, ⊎_elim, ℕ, ◌+◌, ◌≤◌, ◌<◌, List, [], ◌∷◌, ◌++◌, ap, subst, arith}
use Rattle.std.specs.Prelude.{All, AllPairs, Contains}
use Rattle.std.proofs.lemmas.Bool.{cases_lt}
use Rattle.std.proofs.lemmas.List.Elements.{All-push, All-weaker, All-contains, Contains-push, Contains-append_left}
use Rattle.std.proofs.lemmas.List.Quantifiers.{all_pairs_push}
use Rattle.route_base.specs.Setting.{Setting}
use Rattle.route_base.specs.Legs.{CostsFit, IsReachable}
use Rattle.route_base.specs.Net.{Net, setting_of}
use Rattle.route_base.specs.declared.limits.TheConstants.{HIGHEST_COST}
use Rattle.route_base.specs.declared.types.NodeId.{NodeId}
use Rattle.route_base.specs.declared.types.Request.{Request}
use Rattle.plain_search.specs.Inside.Costs.{none, at, IsKnownCost, ComesByStep, ComesBySteps, IsRelaxedBefore}
use Rattle.plain_search.specs.Inside.CostTable.{cost_of}
use Rattle.plain_search.specs.Inside.Soundness.{IsFinalTable}
use Rattle.plain_search.specs.declared.cost_table.CostTable.{CostTable}
use Rattle.plain_search.specs.Values.{IsLeastCost, HasPoint, IsNodeWithPoints, AreValues}
use Rattle.plain_search.proofs.Founding.{walk_to}
use Rattle.route_base.proofs.Walking.{move_in_time}
use Rattle.route_base.proofs.Arcs.{TakesTime}
use Rattle.plain_search.proofs.Lowering.{known_inside}
use Rattle.plain_search.proofs.Reading.{bounded_at}

module _ (cost : ℕ → ℕ → ℕ) (v depart : ℕ) where
  -- the points of the node before minute t
  pub record IsReadBefore (t : ℕ) (points : List (ℕ × ℕ)) : Type 0 where
    pub rising : AllPairs (λ p q. p.0 < q.0) points
    pub before : All (λ p. p.0 < t) points
    pub labels : All (λ p. IsKnownCost cost v p.0 p.1) points
    pub all : (k x : ℕ) → depart ≤ k → k < t → IsKnownCost cost v k x → Contains points (k, x)

  pub minute_skip : (t : ℕ) (points : List (ℕ × ℕ)) → none ≤ cost v t → IsReadBefore t points → IsReadBefore (t + 1) points
  minute_skip t points unknown read = record {
    rising = read.rising;
    before = All-weaker (λ p. p.0 < t) (λ p. p.0 < t + 1) (λ p h. omega (arith, h)) points read.before;
    labels = read.labels;
    all = λ k x from below label. ⊎_elim
        (λ (earlier : k < t). read.all k x from earlier label)
        (λ (now : t ≤ k). let same : k ≡ t = omega (arith, now, below) in
        absurd (omega (arith, unknown, label.is, label.reached, ap (λ n. cost v n) same)))
        (cases_lt k t);
  }

  pub minute_push : (t x : ℕ) (points : List (ℕ × ℕ)) → IsKnownCost cost v t x → IsReadBefore t points → IsReadBefore (t + 1) (points ++ (t, x) ∷ [])
  minute_push t x points here read = record {
    rising = all_pairs_push (λ p q. p.0 < q.0) points (t, x) read.rising read.before;
    before = All-push (λ p. p.0 < t + 1) points (t, x)
        (All-weaker (λ p. p.0 < t) (λ p. p.0 < t + 1) (λ p h. omega (arith, h)) points read.before) (omega arith);
    labels = All-push (λ p. IsKnownCost cost v p.0 p.1) points (t, x) read.labels here;
    all = λ k y from below label. ⊎_elim
        (λ (earlier : k < t). Contains-append_left points ((t, x) ∷ []) (k, y) (read.all k y from earlier label))
        (λ (now : t ≤ k). let minute : t ≡ k = omega (arith, now, below) in
        let value : x ≡ y = omega (arith, here.is, label.is, ap (λ n. cost v n) minute) in
        subst (λ (n : ℕ). Contains (points ++ (t, x) ∷ []) (n, y)) minute
        (subst (λ (n : ℕ). Contains (points ++ (t, x) ∷ []) (t, n)) value (Contains-push points (t, x))))
        (cases_lt k t);
  }

-- where labels are: at nodes of the setting and minutes of the request
pub record IsInside (s : Setting) (r : Request) (v t : ℕ) : Type 0 where
  pub node : (1 ≤ v) × (v ≤ s.nodes)
  pub minute : (r.depart ≤ t) × (t ≤ r.until)

module _ (net : Net) (r : Request) (in_time : r.depart ≤ r.until) (table : CostTable) (final : IsFinalTable net r table) where
  pub final_inside : (v t : ℕ) → cost_of table v t < none → IsInside (setting_of net) r v t
  final_inside v t known =
      let cell = known_inside table.width table.depart table.cells.items v t known in
      record {
        node = (cell.low, omega (arith, cell.high, final.sound.shape.columns));
        minute = (
          omega (arith, cell.row, final.sound.shape.first),
          ⊎_elim
              (λ (first : (v ≡ r.origin.0) × (t ≡ r.depart)). omega (arith, first.1, in_time))
              (λ (from : ComesByStep (setting_of net) r.until (cost_of table) (r.until + 1) v t).
              move_in_time (setting_of net) r.until from.step (at (cost_of table) from.node from.minute) (at (cost_of table) v t) from.move)
              (final.sound.founded.each v t known),
        );
      }

-- a table that is done
pub record IsDone (s : Setting) (r : Request) (cost : ℕ → ℕ → ℕ) (now : ℕ) : Type 0 where
  pub takes : TakesTime s
  pub fit : CostsFit s r
  pub founded : ComesBySteps s r cost now
  pub relaxed : IsRelaxedBefore s r.until cost (r.until + 1)
  pub inside : (v t : ℕ) → cost v t < none → IsInside s r v t

module _ (s : Setting) (r : Request) (cost : ℕ → ℕ → ℕ) where
  abbrev pub HasLabels : (NodeId × List (ℕ × ℕ)) → Type 0
  HasLabels e = All (λ p. IsKnownCost cost e.0.0 p.0 p.1) e.1

  -- the entries of the nodes up to n
  pub record AreReadTo (n : ℕ) (entries : List (NodeId × List (ℕ × ℕ))) : Type 0 where
    pub rising : AllPairs (λ d e. d.0.0 < e.0.0) entries
    pub before : All (λ e. e.0.0 ≤ n) entries
    pub each : All (IsNodeWithPoints s r) entries
    pub labels : All HasLabels entries
    pub all : (v t x : ℕ) → v ≤ n → IsKnownCost cost v t x → HasPoint entries v t x

module _ (s : Setting) (r : Request) (cost : ℕ → ℕ → ℕ) (now : ℕ) (done : IsDone s r cost now) where
  -- labels are the least costs
  pub least_of_label : (v t x : ℕ) → IsKnownCost cost v t x → IsLeastCost s r v t x
  least_of_label v t x label =
      let walk = walk_to s r done.takes cost now done.founded (t + 1) v t (omega arith) (omega (arith, label.is, label.reached)) in
      record {
        reachable = subst (λ (n : ℕ). IsReachable s r (record { node = v; minute = t; cost = n })) label.is walk;
        least = λ y other. let within = (bounded_at s r cost now done.fit done.founded done.relaxed other.0 _ other.1).within in
            omega (arith, within, label.is);
      }

  pub label_of_least : (v t x : ℕ) → IsLeastCost s r v t x → IsKnownCost cost v t x
  label_of_least v t x best =
      let within = (bounded_at s r cost now done.fit done.founded done.relaxed best.reachable.0 _ best.reachable.1).within in
      let cheap = done.fit best.reachable.0 _ best.reachable.1 in
      let known : cost v t < none = omega (arith, within, cheap) in
      let walk = walk_to s r done.takes cost now done.founded (t + 1) v t (omega arith) known in
      let least = best.least (cost v t) walk in
      record { is = omega (arith, within, least); reached = omega (arith, cheap) }

  label_cheap : (v t x : ℕ) → IsKnownCost cost v t x → x ≤ HIGHEST_COST
  label_cheap v t x label = let best = least_of_label v t x label in done.fit best.reachable.0 _ best.reachable.1

  label_inside : (v t x : ℕ) → IsKnownCost cost v t x → IsInside s r v t
  label_inside v t x label = done.inside v t (omega (arith, label.is, label.reached))

  pub node_skip : (n : ℕ) (entries : List (NodeId × List (ℕ × ℕ))) → ((t x : ℕ) → IsKnownCost cost (n + 1) t x → ⊥) → AreReadTo s r cost n entries
      → AreReadTo s r cost (n + 1) entries
  node_skip n entries nowhere read = record {
    rising = read.rising;
    before = All-weaker (λ e. e.0.0 ≤ n) (λ e. e.0.0 ≤ n + 1) (λ e h. omega (arith, h)) entries read.before;
    each = read.each;
    labels = read.labels;
    all = λ v t x upto label. ⊎_elim
        (λ (earlier : v < n + 1). read.all v t x (omega (arith, earlier)) label)
        (λ (here : n + 1 ≤ v). let same : v ≡ n + 1 = omega (arith, here, upto) in
        absurd (nowhere t x (subst (λ (w : ℕ). IsKnownCost cost w t x) same label)))
        (cases_lt v (n + 1));
  }

  longer : (entries : List (NodeId × List (ℕ × ℕ))) (e : NodeId × List (ℕ × ℕ)) (v t x : ℕ) → HasPoint entries v t x
      → HasPoint (entries ++ e ∷ []) v t x
  longer entries e v t x h = record {
    entry = h.entry;
    is_one = Contains-append_left entries (e ∷ []) h.entry h.is_one;
    node = h.node;
    point = h.point;
  }

  pub node_push : (n : ℕ) (entries : List (NodeId × List (ℕ × ℕ))) (e : NodeId × List (ℕ × ℕ)) → e.0.0 ≡ n + 1 → n + 1 ≤ s.nodes → e.1 ≢ []
      → AllPairs (λ p q. p.0 < q.0) e.1 → HasLabels s r cost e → ((t x : ℕ) → IsKnownCost cost (n + 1) t x → Contains e.1 (t, x))
      → AreReadTo s r cost n entries → AreReadTo s r cost (n + 1) (entries ++ e ∷ [])
  node_push n entries e is within some rising labels all read = record {
    rising = all_pairs_push (λ d f. d.0.0 < f.0.0) entries e read.rising (λ k d in_list. let h = read.before k d in_list in omega (arith, h, is));
    before = All-push (λ f. f.0.0 ≤ n + 1) entries e
        (All-weaker (λ f. f.0.0 ≤ n) (λ f. f.0.0 ≤ n + 1) (λ f h. omega (arith, h)) entries read.before) (omega (arith, is));
    each = All-push (IsNodeWithPoints s r) entries e read.each (record {
      node = (omega (arith, is), omega (arith, is, within));
      some = some;
      rising = rising;
      minutes = All-weaker (λ p. IsKnownCost cost e.0.0 p.0 p.1) (λ p. (r.depart ≤ p.0) × (p.0 ≤ r.until))
          (λ p h. (label_inside e.0.0 p.0 p.1 h).minute) e.1 labels;
      costs = All-weaker (λ p. IsKnownCost cost e.0.0 p.0 p.1) (λ p. p.1 ≤ HIGHEST_COST) (λ p h. label_cheap e.0.0 p.0 p.1 h) e.1 labels;
    });
    labels = All-push (HasLabels s r cost) entries e read.labels labels;
    all = λ v t x upto label. ⊎_elim
        (λ (earlier : v < n + 1). longer entries e v t x (read.all v t x (omega (arith, earlier)) label))
        (λ (here : n + 1 ≤ v). let same : v ≡ n + 1 = omega (arith, here, upto) in
        record {
          entry = e;
          is_one = Contains-push entries e;
          node = omega (arith, is, same);
          point = all t x (subst (λ (w : ℕ). IsKnownCost cost w t x) same label);
        })
        (cases_lt v (n + 1));
  }

  -- all nodes are read
  pub values_at_end : (n : ℕ) (entries : List (NodeId × List (ℕ × ℕ))) → s.nodes ≤ n → AreReadTo s r cost n entries → AreValues s r entries
  values_at_end n entries whole read = record {
    rising = read.rising;
    each = read.each;
    exact = λ v t x. (
      (λ h. least_of_label v t x (label_at v t x h)),
      (λ best. let label = label_of_least v t x best in
          read.all v t x (let inside = (label_inside v t x label).node.1 in omega (arith, inside, whole)) label),
    );
  }
    where
      label_at : (v t x : ℕ) → HasPoint entries v t x → IsKnownCost cost v t x
      label_at v t x h = subst (λ (w : ℕ). IsKnownCost cost w t x) h.node
          (All-contains (λ p. IsKnownCost cost h.entry.0.0 p.0 p.1) h.entry.1 (t, x)
          (All-contains (HasLabels s r cost) entries h.entry read.labels h.is_one) h.point)
