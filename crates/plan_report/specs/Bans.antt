-- The report of an arc's closed minutes (source: own).
use Rattle.std.specs.Prelude.{ℕ, List, ◌++◌, length, codes, decimal, flat_map}
use Rattle.calendar_days.specs.Texts.{instant_text_of}
use Rattle.route_base.specs.declared.types.Run.{Run}

-- the line of a run of closed minutes, its end excluded
abbrev pub closed_text : Run → List ℕ
closed_text run = codes "closed " ++ instant_text_of run.lo ++ codes " " ++ instant_text_of run.hi ++ codes "\n"

-- the number of runs, then the runs, and then a number of rows that were passed over
abbrev pub bans_text_of : List Run → ℕ → List ℕ
bans_text_of runs passed =
    codes "bans " ++ decimal (length runs) ++ codes "\n" ++ flat_map closed_text runs ++ codes "passed " ++ decimal passed ++ codes "\n"
