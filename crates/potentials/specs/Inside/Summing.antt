-- What a search for least sums keeps (source: own; no law).
use Rattle.std.specs.Prelude.{◌≡◌, ◌⊎◌, ℕ, suc, ◌+◌, ◌-◌, ◌*◌, ◌^◌, ◌≤◌, ◌<◌, Option, Some, None, List, length, All, slice_get}
use Rattle.route_base.specs.Setting.{Road}
use Rattle.route_base.specs.Net.{Net, setting_of}
use Rattle.route_base.specs.declared.limits.TheConstants.{HIGHEST_COST, LONGEST_DRIVE}
use Rattle.label_queue.specs.Keys.{key_at}
use Rattle.potentials.specs.Sums.{Leads}
use Rattle.potentials.specs.Inside.Totals.{total}
use Rattle.node_arcs.specs.Stars.{EndsAt}
use Rattle.node_arcs.specs.declared.links.End.TheVariants.{Head}
use Rattle.potentials.specs.declared.sums.Counted.{Counted}
use Rattle.potentials.specs.declared.sums.Offer.{Offer}
use Rattle.potentials.specs.declared.sums.Counted.TheVariants.{Minutes, Cost}

-- a sum that is known is no larger than this
pub record HasSum (known : ℕ → Option ℕ) (v sum : ℕ) : Type 0 where
  pub least : ℕ
  pub is : known v ≡ Some least
  pub within : least ≤ sum

-- the search ends before this sum: the cap is no larger, nor above the highest sum that is added up
pub record IsPast (cap highest sum : ℕ) : Type 0 where
  pub within : cap ≤ sum
  pub added : cap ≤ highest

-- a sum that is known is no larger than this, or the search ends before this
abbrev pub IsCovered : ℕ → ℕ → (ℕ → Option ℕ) → ℕ → ℕ → Type 0
IsCovered cap highest known v sum = HasSum known v sum ⊎ IsPast cap highest sum

-- 0 for a node whose sum is settled: it is known, and the node isn't in the queue
abbrev pub unsettled : Option ℕ → Option ℕ → ℕ
unsettled None key = 1
unsettled (Some x) None = 0
unsettled (Some x) (Some key) = 1

-- the number of nodes that aren't settled
abbrev pub unsettled_count : ℕ → (ℕ → Option ℕ) → (ℕ → Option ℕ) → ℕ
unsettled_count nodes known keys = total (suc nodes) (λ v. unsettled (known v) (keys v))

-- what the search keeps with a node at work: sums are those of walks; what is settled is no larger than a key; arcs into settled nodes are relaxed
-- up to the cap
pub record IsSumming (roads : ℕ → Option Road) (count : Road → ℕ) (goal nodes most cap at_work : ℕ) (known keys : ℕ → Option ℕ) : Type 0 where
  pub at_goal : HasSum known goal 0
  pub sound : (v x : ℕ) → known v ≡ Some x → (arcs : List ℕ) × Leads roads count goal arcs v x
  pub waits : (v x : ℕ) → keys v ≡ Some x → known v ≡ Some x
  pub before : (u v x y : ℕ) → known u ≡ Some x → keys u ≡ None → keys v ≡ Some y → x ≤ y
  pub relaxed : (a x : ℕ) (road : Road) → roads a ≡ Some road → known road.head ≡ Some x → ((key : ℕ) × (keys road.head ≡ Some key))
      ⊎ ((road.head ≡ at_work) ⊎ IsCovered cap (most * suc nodes) known road.tail (count road + x))
  pub small : (v x : ℕ) → known v ≡ Some x → x + most * unsettled_count nodes known keys ≤ most * suc nodes

-- node v is at work with its sum: what is settled is no larger
pub record IsAtWork (nodes most v x : ℕ) (known keys : ℕ → Option ℕ) : Type 0 where
  pub sum : known v ≡ Some x
  pub gone : keys v ≡ None
  pub room : x + most + most * unsettled_count nodes known keys ≤ most * suc nodes
  pub low : (u y : ℕ) → known u ≡ Some y → keys u ≡ None → y ≤ x

-- node u has this sum or a smaller one: its own, or the new one, which is its key then
pub record GetsSum (u sum : ℕ) (old new old_keys new_keys : ℕ → Option ℕ) : Type 0 where
  pub others : (w : ℕ) → (w ≡ u → ⊥) → (new w ≡ old w) × (new_keys w ≡ old_keys w)
  pub here : (HasSum old u sum × (new u ≡ old u) × (new_keys u ≡ old_keys u)) ⊎ ((HasSum old u sum → ⊥) × (new u ≡ Some sum) × (new_keys u ≡ Some sum))

-- what is counted of an arc
abbrev pub counted_on : Counted → Road → ℕ
counted_on Minutes road = road.minutes
counted_on Cost road = road.cost

-- the most that is counted of an arc
abbrev pub most_on : Counted → ℕ
most_on Minutes = LONGEST_DRIVE
most_on Cost = HIGHEST_COST

-- what is kept at the net, with node v at work
abbrev pub IsSummed : Net → Counted → ℕ → ℕ → ℕ → List (Option ℕ) → List (Option ℕ) → Type 0
IsSummed net counted goal cap v known keys = IsSumming (setting_of net).road (counted_on counted) goal net.nodes (most_on counted) cap v (key_at known) (key_at keys)

-- the search over the net ends before this sum
abbrev pub IsPastAt : Net → Counted → ℕ → ℕ → Type 0
IsPastAt net counted cap sum = IsPast cap (most_on counted * suc net.nodes) sum

abbrev pub WorksAt : Net → Counted → ℕ → ℕ → List (Option ℕ) → List (Option ℕ) → Type 0
WorksAt net counted v x known keys = IsAtWork net.nodes (most_on counted) v x (key_at known) (key_at keys)

-- no sum over an arc that is below the cap is larger by the span than the sum at the arc's head
abbrev pub IsWide : Net → Counted → ℕ → ℕ → Type 0
IsWide net counted cap span = (a x : ℕ) (road : Road) → (setting_of net).road a ≡ Some road → counted_on counted road + x < cap
    → counted_on counted road + x < x + span

-- no sum is more than all arcs of a walk once through the nodes count
abbrev pub AreSmall : Net → Counted → List (Option ℕ) → Type 0
AreSmall net counted sums = (v x : ℕ) → key_at sums v ≡ Some x → x ≤ most_on counted * suc net.nodes

abbrev pub unsettled_at : Net → List (Option ℕ) → List (Option ℕ) → ℕ
unsettled_at net known keys = unsettled_count net.nodes (key_at known) (key_at keys)

-- the sum is that of an arc of the net from this tail to node v, whose own sum is x, and below the cap
pub record IsOffer (net : Net) (counted : Counted) (cap v x : ℕ) (offer : Offer) : Type 0 where
  pub arc : ℕ
  pub road : Road
  pub is : (setting_of net).road arc ≡ Some road
  pub head : road.head ≡ v
  pub tail : road.tail ≡ offer.tail.0
  pub sum : offer.sum ≡ counted_on counted road + x
  pub cheap : counted_on counted road ≤ most_on counted
  pub below : offer.sum < cap
  pub real : offer.sum < 2 ^ 64 - 1
  pub node : (1 ≤ offer.tail.0) × (offer.tail.0 ≤ net.nodes)

-- some offer of the list is of this sum to node u
abbrev pub HasOffer : List Offer → ℕ → ℕ → Type 0
HasOffer offers u sum = (k : ℕ) × (offer : Offer) × (slice_get offers k ≡ Some offer) × (offer.tail.0 ≡ u) × (offer.sum ≡ sum)

-- arc a makes an offer of the list, or the search ends before its sum
abbrev pub IsArcRead : Net → Counted → ℕ → ℕ → List Offer → ℕ → Type 0
IsArcRead net counted cap x offers a = (road : Road) → (setting_of net).road a ≡ Some road
    → HasOffer offers road.tail (counted_on counted road + x) ⊎ IsPastAt net counted cap (counted_on counted road + x)

-- the offers of the arcs that end at node v, whose sum is x, up to the cap
pub record AreOffers (net : Net) (counted : Counted) (cap v x : ℕ) (offers : List Offer) : Type 0 where
  pub each : All (IsOffer net counted cap v x) offers
  pub all : (a : ℕ) → EndsAt net Head v a → IsArcRead net counted cap x offers a

-- the offer of an arc that ends at node v at work was taken
pub record IsOfferTaken (net : Net) (counted : Counted) (goal cap v x : ℕ) (offer : Offer) (known new keys new_keys : List (Option ℕ)) : Type 0 where
  pub nodes : length new ≡ net.nodes
  pub room : length new_keys ≡ net.nodes
  pub facts : IsSummed net counted goal cap v new new_keys
  pub work : WorksAt net counted v x new new_keys
  pub less : unsettled_at net new new_keys ≤ unsettled_at net known keys
  pub kept : (u sum : ℕ) → HasSum (key_at known) u sum → HasSum (key_at new) u sum
  pub has : HasSum (key_at new) offer.tail.0 offer.sum

-- the least sum, as far as the search goes: each sum that is less, and each without a least one, is past its end
abbrev pub IsSumBelow : (ℕ → Option Road) → (Road → ℕ) → ℕ → (ℕ → Type 0) → ℕ → Option ℕ → Type 0
IsSumBelow roads count goal past v None = (arcs : List ℕ) (sum : ℕ) → Leads roads count goal arcs v sum → past sum
IsSumBelow roads count goal past v (Some x) = ((arcs : List ℕ) × Leads roads count goal arcs v x)
    × ((arcs : List ℕ) (sum : ℕ) → Leads roads count goal arcs v sum → (x ≤ sum) ⊎ past sum)

-- these sums over the net, for each node
abbrev pub AreSumsBelow : Net → Counted → ℕ → ℕ → List (Option ℕ) → Type 0
AreSumsBelow net counted goal cap sums = (v : ℕ) → IsSumBelow (setting_of net).road (counted_on counted) goal (IsPastAt net counted cap) v (key_at sums v)
