-- The entry sets that have been made: the minutes at which drives can begin (source: own; no law).
use Rattle.std.specs.Prelude.{◌≡◌, ◌↔◌, ℕ, ◌<◌, IsTrue, Option, Some, None, List, [], All, length, get_or, slice_get, unwrap_or, Vec}
use Rattle.std.specs.declared.alloc.Global.{Global}
use Rattle.route_base.specs.Net.{Net}
use Rattle.route_base.specs.Runs.{any_has}
use Rattle.route_base.specs.declared.types.Run.{Run}
use Rattle.minute_sets.specs.Entries.{IsEntry}
use Rattle.propagation.specs.declared.entry_sets.EntrySet.{EntrySet}
use Rattle.propagation.specs.declared.entry_sets.EntrySets.{EntrySets}

-- the set has the minutes at which a drive of this length can begin that avoids the closed runs and ends in time
abbrev pub AreEntries : List Run → ℕ → ℕ → List Run → Type 0
AreEntries closed until minutes set = (t : ℕ) → IsTrue (any_has set t) ↔ IsEntry closed (record { lo = 0; hi = until }) minutes t

abbrev pub IsEntrySet : List Run → ℕ → EntrySet → Type 0
IsEntrySet closed until made = AreEntries closed until made.minutes made.set

-- at the place of each list of closed runs of the net, sets that avoid these
pub record AreEntrySets (net : Net) (until : ℕ) (sets : EntrySets) : Type 0 where
  pub each : (i : ℕ) (list : Vec EntrySet Global) → slice_get sets.lists.items i ≡ Some list
      → All (IsEntrySet (unwrap_or (slice_get net.closed i) []) until) list.items

-- the set at a place of list i has the minutes at which drives of this length can begin
pub record HasEntriesAt (closed : List Run) (until minutes : ℕ) (sets : EntrySets) (i k : ℕ) : Type 0 where
  pub within : (d : Vec EntrySet Global) → k < length (get_or sets.lists.items i d).items
  pub entries : (d : Vec EntrySet Global) (e : EntrySet) → AreEntries closed until minutes (get_or (get_or sets.lists.items i d).items k e).set

-- the set at a place of list i has the minutes at which drives of this length can begin; where there is no place, nothing is closed
abbrev pub IsReady : List Run → ℕ → ℕ → EntrySets → ℕ → Option ℕ → Type 0
IsReady closed until minutes sets i (Some k) = (i < length sets.lists.items) × HasEntriesAt closed until minutes sets i k
IsReady closed until minutes sets i None = closed ≡ []
