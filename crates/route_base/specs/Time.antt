-- Instants: minutes of Unix time (source: POSIX time, in whole minutes; the range is own).
use Rattle.std.specs.Prelude.{ℕ, ◌≤◌}
use Rattle.route_base.specs.declared.limits.TheConstants.{FIRST_INSTANT, LAST_INSTANT}

-- 1971-01-01T00:00Z
abbrev pub first_instant : ℕ
first_instant = FIRST_INSTANT

-- 2199-12-31T23:59Z
abbrev pub last_instant : ℕ
last_instant = LAST_INSTANT

-- a Unix minute in UTC from 1971 to 2199
abbrev pub IsInstant : ℕ → Type 0
IsInstant t = (first_instant ≤ t) × (t ≤ last_instant)
