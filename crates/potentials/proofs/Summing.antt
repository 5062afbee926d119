-- How the facts of a search for least sums are kept.
use Rattle.std.proofs.Common.{◌≡◌, ◌⊎◌, inl, inr, ⊎_elim, ℕ, suc, ◌+◌, ◌*◌, ◌≤◌, ◌<◌, Option, Some, None, List, [], ◌∷◌, refl, sym, ◌∙◌, ap, subst, arith}
use Rattle.std.proofs.lemmas.Bool.{cases_eq, cases_lt}
use Rattle.std.proofs.Math.Nat.{mul-le-mul_left}
use Rattle.route_base.specs.Setting.{Road}
use Rattle.potentials.specs.Sums.{Leads}
use Rattle.potentials.specs.Inside.Summing.{HasSum, IsPast, unsettled, unsettled_count, IsSumming, IsAtWork, GetsSum, IsSumBelow}
use Rattle.potentials.proofs.Totals.{total_le, total_one}

module _ (roads : ℕ → Option Road) (count : Road → ℕ) (goal nodes most cap : ℕ) where
  abbrev past : ℕ → Type 0
  past = IsPast cap (most * suc nodes)

  pub sum_kept : (u sum : ℕ) (old new old_keys new_keys : ℕ → Option ℕ) (v x : ℕ) → GetsSum u sum old new old_keys new_keys → HasSum old v x → HasSum new v x
  sum_kept u sum old new old_keys new_keys v x reached h = ⊎_elim
      (λ (here : v ≡ u). ⊎_elim
      (λ (same : HasSum old u sum × (new u ≡ old u) × (new_keys u ≡ old_keys u)).
      record {
        least = h.least;
        is = subst (λ w. new w ≡ Some h.least) (sym here) (same.1 ∙ subst (λ w. old w ≡ Some h.least) here h.is);
        within =
            h.within;
      })
      (λ (low : (HasSum old u sum → ⊥) × (new u ≡ Some sum) × (new_keys u ≡ Some sum)).
      ⊎_elim
      (λ (small : h.least ≤ sum). absurd (low.0 (record { least = h.least; is = subst (λ w. old w ≡ Some h.least) here h.is; within = small })))
      (λ (large : sum < h.least). record { least = sum; is = subst (λ w. new w ≡ Some sum) (sym here) low.1; within = omega (arith, large, h.within) })
      (le_cases h.least sum))
      reached.here)
      (λ (other : v ≡ u → ⊥). record { least = h.least; is = (reached.others v other).0 ∙ h.is; within = h.within })
      (cases_eq v u)
    where
      le_cases : (a b : ℕ) → (a ≤ b) ⊎ (b < a)
      le_cases a b = ⊎_elim (λ (lt : b < a). inr lt) (λ (le : a ≤ b). inl le) (cases_lt b a)

  -- a node that takes a new sum is not settled, and stays so
  settled_same : (v x u sum : ℕ) (old new old_keys new_keys : ℕ → Option ℕ) → IsAtWork nodes most v x old old_keys → x ≤ sum
      → GetsSum u sum old new old_keys new_keys
      → (w y : ℕ) → new w ≡ Some y → new_keys w ≡ None → (old w ≡ Some y) × (old_keys w ≡ None)
  settled_same v x u sum old new old_keys new_keys work le reached w y is gone = ⊎_elim
      (λ (here : w ≡ u). ⊎_elim
      (λ (same : HasSum old u sum × (new u ≡ old u) × (new_keys u ≡ old_keys u)). (
        subst (λ n. old n ≡ Some y) (sym here) (sym same.1 ∙ subst (λ n. new n ≡ Some y) here is),
        subst (λ n. old_keys n ≡ None) (sym here) (sym same.2 ∙ subst (λ n. new_keys n ≡ None) here gone),
      ))
      (λ (low : (HasSum old u sum → ⊥) × (new u ≡ Some sum) × (new_keys u ≡ Some sum)). let bad : Some sum ≡ None = sym low.2
      ∙ subst (λ n. new_keys n ≡ None) here gone in cc)
      reached.here)
      (λ (other : w ≡ u → ⊥). (sym (reached.others w other).0 ∙ is, sym (reached.others w other).1 ∙ gone))
      (cases_eq w u)

  -- how many are unsettled stays
  unsettled_same : (v x u sum : ℕ) (old new old_keys new_keys : ℕ → Option ℕ) → IsAtWork nodes most v x old old_keys → x ≤ sum
      → GetsSum u sum old new old_keys new_keys → (w : ℕ) → unsettled (new w) (new_keys w) ≤ unsettled (old w) (old_keys w)
  unsettled_same v x u sum old new old_keys new_keys work le reached w = ⊎_elim
      (λ (here : w ≡ u). ⊎_elim
      (λ (same : HasSum old u sum × (new u ≡ old u) × (new_keys u ≡ old_keys u)).
      subst (λ n. unsettled (new n) (new_keys n) ≤ unsettled (old n) (old_keys n)) (sym here)
      (let e : unsettled (new u) (new_keys u) ≡ unsettled (old u) (old_keys u) = ap (λ o. unsettled o (new_keys u)) same.1
      ∙ ap (λ o. unsettled (old u) o) same.2 in omega (arith, e)))
      (λ (low : (HasSum old u sum → ⊥) × (new u ≡ Some sum) × (new_keys u ≡ Some sum)).
      subst (λ n. unsettled (new n) (new_keys n) ≤ unsettled (old n) (old_keys n)) (sym here)
      (omega (arith, one (new u) (new_keys u), waiting (old u) refl (old_keys u) refl low.0)))
      reached.here)
      (λ (other : w ≡ u → ⊥).
      (let e : unsettled (new w) (new_keys w) ≡ unsettled (old w) (old_keys w) = ap (λ o. unsettled o (new_keys w)) (reached.others w other).0
      ∙ ap (λ o. unsettled (old w) o) (reached.others w other).1 in omega (arith, e)))
      (cases_eq w u)
    where
      one : (a b : Option ℕ) → unsettled a b ≤ 1
      one None b = omega arith
      one (Some y) None = omega arith
      one (Some y) (Some k) = omega arith

      waiting : (a : Option ℕ) → old u ≡ a → (b : Option ℕ) → old_keys u ≡ b → (HasSum old u sum → ⊥) → 1 ≤ unsettled a b
      waiting None is b key none = omega arith
      waiting (Some y) is (Some k) key none = omega arith
      waiting (Some y) is None key none = absurd (none (record { least = y; is = is; within = omega (arith, work.low u y is key, le) }))

  less_left : (a b : ℕ) → a ≤ b → most * a ≤ most * b
  less_left a b le = mul-le-mul_left most le

  pub reach_keeps : (v x a u : ℕ) (road : Road) (old new old_keys new_keys : ℕ → Option ℕ) → IsSumming roads count goal nodes most cap v old old_keys
      → IsAtWork nodes most v x old old_keys
      → roads a ≡ Some road → road.head ≡ v → road.tail ≡ u → count road ≤ most
      → GetsSum u (count road + x) old new old_keys new_keys
      → IsSumming roads count goal nodes most cap v new new_keys × IsAtWork nodes most v x new new_keys × HasSum new u (count road + x)
      × (unsettled_count nodes new new_keys ≤ unsettled_count nodes old old_keys)
  reach_keeps v x a u road old new old_keys new_keys facts work is head tail cheap reached = (
    record {
      at_goal = kept goal 0 facts.at_goal;
      sound = λ w y there. ⊎_elim
          (λ (was : old w ≡ Some y). facts.sound w y was)
          (λ (low : (w ≡ u) × (y ≡ (count road + x)) × (new_keys w ≡ Some y)).
          let s = facts.sound v x work.sum in
          (a ∷ s.0, (road, x, is, tail ∙ sym low.0, subst (λ n. Leads roads count goal s.0 n x) (sym head) s.1, low.1)))
          (sums w y there);
      waits = λ w key there. ⊎_elim
          (λ (here : w ≡ u). ⊎_elim
          (λ (same : HasSum old u (count road + x) × (new u ≡ old u) × (new_keys u ≡ old_keys u)).
          let at : old_keys u ≡ Some key = sym same.2 ∙ subst (λ n. new_keys n ≡ Some key) here there in
          subst (λ n. new n ≡ Some key) (sym here) (same.1 ∙ facts.waits u key at))
          (λ (low : (HasSum old u (count road + x) → ⊥) × (new u ≡ Some (count road + x)) × (new_keys u ≡ Some (count road + x))).
          let at : Some (count road + x) ≡ Some key = sym low.2 ∙ subst (λ n. new_keys n ≡ Some key) here there in
          subst (λ n. new n ≡ Some key) (sym here) (low.1 ∙ at))
          reached.here)
          (λ (other : w ≡ u → ⊥). (reached.others w other).0 ∙ facts.waits w key (sym (reached.others w other).1 ∙ there))
          (cases_eq w u);
      before = λ w z y key settled gone waiting.
          let was = settled_same v x u (count road + x) old new old_keys new_keys work le reached w y settled gone in
          ⊎_elim
          (λ (old_key : old_keys z ≡ Some key). facts.before w z y key was.0 was.1 old_key)
          (λ (low : (z ≡ u) × (key ≡ (count road + x))). omega (arith, work.low w y was.0 was.1, low.1))
          (keys z key waiting);
      relaxed = λ b y other there known. ⊎_elim
          (λ (was : old other.head ≡ Some y). ⊎_elim
          (λ (waiting : (key : ℕ) × (old_keys other.head ≡ Some key)). inl (still other.head waiting.0 waiting.1))
          (λ (rest : (other.head ≡ v) ⊎ (HasSum old other.tail (count other + y) ⊎ past (count other + y))). inr (⊎_elim
          (λ (here : other.head ≡ v). inl here)
          (λ (h : HasSum old other.tail (count other + y) ⊎ past (count other + y)). inr (⊎_elim
          (λ (sum : HasSum old other.tail (count other + y)). inl (kept other.tail (count other + y) sum))
          (λ (end : past (count other + y)). inr end)
          h))
          rest))
          (facts.relaxed b y other there was))
          (λ (low : (other.head ≡ u) × (y ≡ (count road + x)) × (new_keys other.head ≡ Some y)). inl (y, low.2))
          (sums other.head y known);
      small = λ w y there. ⊎_elim
          (λ (was : old w ≡ Some y). omega (arith, facts.small w y was, fewer))
          (λ (low : (w ≡ u) × (y ≡ (count road + x)) × (new_keys w ≡ Some y)). omega (arith, work.room, fewer, low.1, cheap))
          (sums w y there);
    },
    record {
      sum = ⊎_elim
          (λ (here : v ≡ u). ⊎_elim
          (λ (same : HasSum old u (count road + x) × (new u ≡ old u) × (new_keys u ≡ old_keys u)). ap new here ∙ (same.1 ∙ (ap old (sym here) ∙ work.sum)))
          (λ (low : (HasSum old u (count road + x) → ⊥) × (new u ≡ Some (count road + x)) × (new_keys u ≡ Some (count road + x))).
          absurd (low.0 (record { least = x; is = ap old (sym here) ∙ work.sum; within = le })))
          reached.here)
          (λ (other : v ≡ u → ⊥). (reached.others v other).0 ∙ work.sum)
          (cases_eq v u);
      gone = ⊎_elim
          (λ (here : v ≡ u). ⊎_elim
          (λ (same : HasSum old u (count road + x) × (new u ≡ old u) × (new_keys u ≡ old_keys u)). ap new_keys here
          ∙ (same.2 ∙ (ap old_keys (sym here) ∙ work.gone)))
          (λ (low : (HasSum old u (count road + x) → ⊥) × (new u ≡ Some (count road + x)) × (new_keys u ≡ Some (count road + x))).
          absurd (low.0 (record { least = x; is = ap old (sym here) ∙ work.sum; within = le })))
          reached.here)
          (λ (other : v ≡ u → ⊥). (reached.others v other).1 ∙ work.gone)
          (cases_eq v u);
      room = omega (arith, work.room, fewer);
      low = λ w y there gone. let was = settled_same v x u (count road + x) old new old_keys new_keys work le reached w y there gone
          in work.low w y was.0 was.1;
    },
    ⊎_elim
        (λ (same : HasSum old u (count road + x) × (new u ≡ old u) × (new_keys u ≡ old_keys u)).
        record { least = same.0.least; is = same.1 ∙ same.0.is; within = same.0.within })
        (λ (low : (HasSum old u (count road + x) → ⊥) × (new u ≡ Some (count road + x)) × (new_keys u ≡ Some (count road + x))).
        record { least = (count road + x); is = low.1; within = omega arith })
        reached.here,
    less,
  )
    where
      le : x ≤ count road + x
      le = omega arith

      kept : (w y : ℕ) → HasSum old w y → HasSum new w y
      kept w y = sum_kept u (count road + x) old new old_keys new_keys w y reached

      sums : (w y : ℕ) → new w ≡ Some y → (old w ≡ Some y) ⊎ ((w ≡ u) × (y ≡ count road + x) × (new_keys w ≡ Some y))
      sums w y there = ⊎_elim
          (λ (here : w ≡ u). ⊎_elim
          (λ (same : HasSum old u (count road + x) × (new u ≡ old u) × (new_keys u ≡ old_keys u)).
          inl (ap old here ∙ (sym same.1 ∙ (ap new (sym here) ∙ there))))
          (λ (low : (HasSum old u (count road + x) → ⊥) × (new u ≡ Some (count road + x)) × (new_keys u ≡ Some (count road + x))).
          let e : Some y ≡ Some (count road + x) = sym there ∙ (ap new here ∙ low.1) in inr (here, cc, ap new_keys here ∙ (low.2 ∙ sym e)))
          reached.here)
          (λ (other : w ≡ u → ⊥). inl (sym (reached.others w other).0 ∙ there))
          (cases_eq w u)

      keys : (w y : ℕ) → new_keys w ≡ Some y → (old_keys w ≡ Some y) ⊎ ((w ≡ u) × (y ≡ count road + x))
      keys w y there = ⊎_elim
          (λ (here : w ≡ u). ⊎_elim
          (λ (same : HasSum old u (count road + x) × (new u ≡ old u) × (new_keys u ≡ old_keys u)).
          inl (ap old_keys here ∙ (sym same.2 ∙ (ap new_keys (sym here) ∙ there))))
          (λ (low : (HasSum old u (count road + x) → ⊥) × (new u ≡ Some (count road + x)) × (new_keys u ≡ Some (count road + x))).
          let e : Some y ≡ Some (count road + x) = sym there ∙ (ap new_keys here ∙ low.2) in inr (here, cc))
          reached.here)
          (λ (other : w ≡ u → ⊥). inl (sym (reached.others w other).1 ∙ there))
          (cases_eq w u)

      still : (w key : ℕ) → old_keys w ≡ Some key → (k : ℕ) × (new_keys w ≡ Some k)
      still w key there = ⊎_elim
          (λ (here : w ≡ u). ⊎_elim
          (λ (same : HasSum old u (count road + x) × (new u ≡ old u) × (new_keys u ≡ old_keys u)).
          (key, ap new_keys here ∙ (same.2 ∙ (ap old_keys (sym here) ∙ there))))
          (λ (low : (HasSum old u (count road + x) → ⊥) × (new u ≡ Some (count road + x)) × (new_keys u ≡ Some (count road + x))).
          (count road + x, ap new_keys here ∙ low.2))
          reached.here)
          (λ (other : w ≡ u → ⊥). (key, (reached.others w other).1 ∙ there))
          (cases_eq w u)

      less : unsettled_count nodes new new_keys ≤ unsettled_count nodes old old_keys
      less = (total_le (suc nodes) _ _ (λ w below. unsettled_same v x u (count road + x) old new old_keys new_keys work le reached w))

      fewer : most * unsettled_count nodes new new_keys ≤ most * unsettled_count nodes old old_keys
      fewer = less_left (unsettled_count nodes new new_keys) (unsettled_count nodes old old_keys) less

  -- the node with the least key goes to work
  pub takes_least : (v x : ℕ) (known old_keys new_keys : ℕ → Option ℕ) → ((a : ℕ) (road : Road) → roads a ≡ Some road → road.head ≡ 0 → ⊥) → v ≤ nodes
      → IsSumming roads count goal nodes most cap 0 known old_keys → old_keys v ≡ Some x → ((w key : ℕ) → old_keys w ≡ Some key → x ≤ key) → new_keys v ≡ None
      → ((w : ℕ) → (w ≡ v → ⊥) → new_keys w ≡ old_keys w)
      → IsSumming roads count goal nodes most cap v known new_keys × IsAtWork nodes most v x known new_keys
      × (unsettled_count nodes known new_keys + 1 ≤ unsettled_count nodes known old_keys)
  takes_least v x known old_keys new_keys heads within facts key least gone others = (
    record {
      at_goal = facts.at_goal;
      sound = facts.sound;
      waits = λ w k there. facts.waits w k (was w k there);
      before = λ u w y k is settled waiting. ⊎_elim
          (λ (here : u ≡ v). let e : Some y ≡ Some x = sym is
          ∙ (ap known here ∙ facts.waits v x key) in let f : y ≡ x = cc in omega (arith, f, least w k (was w k waiting)))
          (λ (other : u ≡ v → ⊥). facts.before u w y k is (sym (others u other) ∙ settled) (was w k waiting))
          (cases_eq u v);
      relaxed = λ a y road is known_y. ⊎_elim
          (λ (here : road.head ≡ v). inr (inl here))
          (λ (other : road.head ≡ v → ⊥). ⊎_elim
          (λ (waiting : (k : ℕ) × (old_keys road.head ≡ Some k)). inl (waiting.0, others road.head other ∙ waiting.1))
          (λ (rest : (road.head ≡ 0) ⊎ (HasSum known road.tail (count road + y) ⊎ past (count road + y))). ⊎_elim
          (λ (none : road.head ≡ 0). absurd (heads a road is none))
          (λ (h : HasSum known road.tail (count road + y) ⊎ past (count road + y)). inr (inr h))
          rest)
          (facts.relaxed a y road is known_y))
          (cases_eq road.head v);
      small = λ w y is. omega (
        arith,
        facts.small w y is,
        less_left (unsettled_count nodes known new_keys) (unsettled_count nodes known old_keys)
            (omega (arith, fewer)),
      );
    },
    record {
      sum = facts.waits v x key;
      gone = gone;
      room = omega (
        arith,
        facts.small v x (facts.waits v x key),
        less_left (unsettled_count nodes known new_keys + 1) (unsettled_count nodes known old_keys) fewer,
        one_more (unsettled_count nodes known new_keys),
      );
      low = λ u y is settled. ⊎_elim
          (λ (here : u ≡ v). let e : Some y ≡ Some x = sym is ∙ (ap known here ∙ facts.waits v x key) in let f : y ≡ x = cc in omega (arith, f))
          (λ (other : u ≡ v → ⊥). facts.before u v y x is (sym (others u other) ∙ settled) key)
          (cases_eq u v);
    },
    fewer,
  )
    where
      was : (w k : ℕ) → new_keys w ≡ Some k → old_keys w ≡ Some k
      was w k there = ⊎_elim
          (λ (here : w ≡ v). let bad : None ≡ Some k = sym gone ∙ (ap new_keys (sym here) ∙ there) in cc)
          (λ (other : w ≡ v → ⊥). sym (others w other) ∙ there)
          (cases_eq w v)

      one_more : (n : ℕ) → most * (n + 1) ≡ most * n + most
      one_more n = omega arith

      waited : unsettled (known v) (old_keys v) ≡ 1
      waited = ap (λ o. unsettled o (old_keys v)) (facts.waits v x key) ∙ ap (λ o. unsettled (Some x) o) key

      done : unsettled (known v) (new_keys v) ≡ 0
      done = ap (λ o. unsettled o (new_keys v)) (facts.waits v x key) ∙ ap (λ o. unsettled (Some x) o) gone

      fewer : unsettled_count nodes known new_keys + 1 ≤ unsettled_count nodes known old_keys
      fewer = total_one (suc nodes) v _ _ (λ w below. ⊎_elim
          (λ (here : w ≡ v). subst (λ n. unsettled (known n) (new_keys n) ≤ unsettled (known n) (old_keys n)) (sym here) (omega (arith, waited, done)))
          (λ (other : w ≡ v → ⊥). let e : unsettled (known w) (new_keys w) ≡ unsettled (known w) (old_keys w) =
          ap (λ o. unsettled (known w) o) (others w other) in omega (arith, e))
          (cases_eq w v))
          (omega (arith, within)) (omega (arith, waited, done))

  -- the node at work is settled, once each arc that ends there is relaxed
  pub settles : (v x : ℕ) (known keys : ℕ → Option ℕ) → IsSumming roads count goal nodes most cap v known keys → IsAtWork nodes most v x known keys
      → ((a : ℕ) (road : Road) → roads a ≡ Some road → road.head ≡ v → HasSum known road.tail (count road + x) ⊎ past (count road + x))
      → IsSumming roads count goal nodes most cap 0 known keys
  settles v x known keys facts work all = record {
    at_goal = facts.at_goal;
    sound = facts.sound;
    waits = facts.waits;
    before = facts.before;
    relaxed = λ a y road is known_y. ⊎_elim
        (λ (waiting : (k : ℕ) × (keys road.head ≡ Some k)). inl waiting)
        (λ (rest : (road.head ≡ v) ⊎ (HasSum known road.tail (count road + y) ⊎ past (count road + y))). inr (inr (⊎_elim
        (λ (here : road.head ≡ v). let e : Some y ≡ Some x = sym known_y
        ∙ (ap known here ∙ work.sum) in let f : y ≡ x = cc in
        subst (λ n. HasSum known road.tail (count road + n) ⊎ past (count road + n)) (sym f) (all a road is here))
        (λ (h : HasSum known road.tail (count road + y) ⊎ past (count road + y)). h)
        rest)))
        (facts.relaxed a y road is known_y);
    small = facts.small;
  }

  -- where nothing waits, the sums are the least, up to the cap
  module _ (known keys : ℕ → Option ℕ) (heads : (a : ℕ) (road : Road) → roads a ≡ Some road → road.head ≡ 0 → ⊥)
      (facts : IsSumming roads count goal nodes most cap 0 known keys) (none : (v : ℕ) → keys v ≡ None) where
    covers : (arcs : List ℕ) (v sum : ℕ) → Leads roads count goal arcs v sum → HasSum known v sum ⊎ past sum
    covers [] v sum leads =
        inl (record { least = facts.at_goal.least; is = ap known leads.0 ∙ facts.at_goal.is; within = omega (arith, facts.at_goal.within) })
    covers (a ∷ arcs) v sum leads =
        let road = leads.0 in
        ⊎_elim
        (λ (h : HasSum known road.head leads.1). ⊎_elim
        (λ (waiting : (k : ℕ) × (keys road.head ≡ Some k)). let bad : None ≡ Some waiting.0 = sym (none road.head) ∙ waiting.1 in cc)
        (λ (rest : (road.head ≡ 0) ⊎ (HasSum known road.tail (count road + h.least) ⊎ past (count road + h.least))). ⊎_elim
        (λ (zero_head : road.head ≡ 0). absurd (heads a road leads.2 zero_head))
        (λ (relaxed : HasSum known road.tail (count road + h.least) ⊎ past (count road + h.least)). ⊎_elim
        (λ (s : HasSum known road.tail (count road + h.least)).
        inl (record { least = s.least; is = ap known (sym leads.3) ∙ s.is; within = omega (arith, s.within, h.within, leads.5) }))
        (λ (end : past (count road + h.least)). inr (record { within = omega (arith, end.within, h.within, leads.5); added = end.added }))
        relaxed)
        rest)
        (facts.relaxed a h.least road leads.2 h.is))
        (λ (end : past leads.1). inr (record { within = omega (arith, end.within, leads.5); added = end.added }))
        (covers arcs road.head leads.1 leads.4)

    pub sums_below : (v : ℕ) → IsSumBelow roads count goal past v (known v)
    sums_below v = by (known v) refl
      where
        by : (o : Option ℕ) → known v ≡ o → IsSumBelow roads count goal past v o
        by None is = λ arcs sum leads. ⊎_elim
            (λ (h : HasSum known v sum). let bad : None ≡ Some h.least = sym is ∙ h.is in cc)
            (λ (end : past sum). end)
            (covers arcs v sum leads)
        by (Some x) is = (
          facts.sound v x is,
          λ arcs sum leads. ⊎_elim
              (λ (h : HasSum known v sum). let e : Some x ≡ Some h.least = sym is ∙ h.is in let f : x ≡ h.least = cc in inl (omega (arith, f, h.within)))
              (λ (end : past sum). inr end)
              (covers arcs v sum leads),
        )
