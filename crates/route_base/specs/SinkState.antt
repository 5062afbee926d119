-- The state of a sink: the bytes written and how often a write failed (source: own).
use Rattle.std.specs.Prelude.{◌≡◌, ℕ, ◌≤◌, Option, List}
use Rattle.route_base.specs.Counts.{HasRisen}
use Rattle.route_base.specs.Contents.{Gains, GainsPrefix}

-- the bytes written so far, where the sink tells them, and the number of writes that failed
pub record SinkState : Type 0 where
  pub written : Option (List ℕ)
  pub faults : ℕ

-- nothing was written
abbrev pub StaysSilent : SinkState → SinkState → Type 0
StaysSilent old new = new.written ≡ old.written

-- the piece was appended
abbrev pub Appends : SinkState → SinkState → List ℕ → Type 0
Appends old new piece = Gains old.written new.written piece

-- a prefix of the piece was appended
abbrev pub AppendsPrefix : SinkState → SinkState → List ℕ → Type 0
AppendsPrefix old new piece = GainsPrefix old.written new.written piece

-- the count of failed writes never falls
abbrev pub FaultsRise : SinkState → SinkState → Type 0
FaultsRise old new = old.faults ≤ new.faults

-- a failed write was counted
abbrev pub FailedToAppend : SinkState → SinkState → Type 0
FailedToAppend old new = HasRisen old.faults new.faults
