-- The table of the commands' words; the commands are the types of the code (source: own).
use Rattle.std.specs.Prelude.{ℕ, ◌≤◌, Option, None, List, [], ◌∷◌}
use Rattle.route_base.specs.Time.{IsInstant}
use Rattle.front_words.specs.Trips.{trip_to}
use Rattle.front_words.specs.Usages.{Usage, made_in}
pub use Rattle.front_words.specs.Trips.{Command, IsTimed, Trip}
pub use Rattle.front_words.specs.Plan.{Plan, plan_usage, to_plan}
pub use Rattle.front_words.specs.Check.{Check, check_usage, to_check}
pub use Rattle.front_words.specs.Bans.{Bans, bans_usage, to_bans}
pub use Rattle.front_words.specs.Batch.{Batch, batch_usage, to_batch}
pub use Rattle.front_words.specs.Gen.{Gen, gen_usage, to_gen}
pub use Rattle.front_words.specs.Latest.{Latest, latest_usage, to_latest}
pub use Rattle.front_words.specs.Tour.{HasGoodTourRule, RestedTour, Tour, to_rested_tour, to_tour, tour_usage}
pub use Rattle.front_words.specs.Breaks.{Breaks, HasGoodRule, breaks_usage, to_breaks}
pub use Rattle.front_words.specs.Explain.{Explain, explain_usage, to_explain}
use Rattle.front_words.specs.declared.flat.Command.{Command as FlatCommand}
use Rattle.front_words.specs.declared.flat.Command.TheVariants as flat
use Rattle.front_words.specs.declared.limits.TheConstants.{MOST_WORKERS}
use Rattle.net_generator.specs.Sizes.{IsDrawable}

-- the commands, in the order of their table
abbrev pub usages : List (Usage Command)
usages =
    plan_usage ∷ check_usage ∷ bans_usage ∷ batch_usage ∷ gen_usage ∷ latest_usage ∷ tour_usage ∷ breaks_usage ∷ explain_usage ∷ []

-- the command of words: its name and then its own words; nothing for words that are no command
abbrev pub command_of : List (List ℕ) → Option Command
command_of [] = None
command_of (name ∷ words) = made_in usages name words

-- the command that the code holds with all its words side by side
abbrev pub command_in : FlatCommand → Command
command_in (flat.Plan dir lorry from to start end form name) =
    to_plan (record { dir = dir; trip = trip_to lorry from to start end; form = form; certificate = name })
command_in (flat.Check dir lorry from to start end name) = to_check (record { dir = dir; trip = trip_to lorry from to start end; name = name })
command_in (flat.Bans dir lorry arc start end) = to_bans (record { dir = dir; vehicle = lorry; arc = arc; depart = start; until = end })
command_in (flat.Batch dir name workers) = to_batch (record { dir = dir; jobs = name; workers = workers })
command_in (flat.Gen dir from rows columns) = to_gen (record { dir = dir; number = from; rows = rows; columns = columns })
command_in (flat.Latest dir lorry from to start end) = to_latest (record { dir = dir; trip = trip_to lorry from to start end })
command_in (flat.Tour dir lorry from to start end stops) = to_tour (record { dir = dir; trip = trip_to lorry from to start end; stops = stops })
command_in (flat.RestedTour dir lorry from to start end stops drive rest) =
    to_rested_tour (record { tour = record { dir = dir; trip = trip_to lorry from to start end; stops = stops }; drive = drive; rest = rest })
command_in (flat.Breaks dir lorry from to start end drive rest) =
    to_breaks (record { dir = dir; trip = trip_to lorry from to start end; drive = drive; rest = rest })
command_in (flat.Explain dir lorry from to start end name) =
    to_explain (record { dir = dir; trip = trip_to lorry from to start end; itinerary = name })

-- all minutes that the command names are instants, the workers are as many as there may be, the network can be drawn, and the break
-- rule is one
abbrev pub AsksSupported : Command → Type 0
AsksSupported (to_plan p) = IsTimed p.trip
AsksSupported (to_check c) = IsTimed c.trip
AsksSupported (to_bans b) = IsInstant b.depart × IsInstant b.until
AsksSupported (to_batch b) = (1 ≤ b.workers) × (b.workers ≤ MOST_WORKERS)
AsksSupported (to_gen g) = IsDrawable g.number g.rows g.columns
AsksSupported (to_latest l) = IsTimed l.trip
AsksSupported (to_tour t) = IsTimed t.trip
AsksSupported (to_rested_tour t) = IsTimed t.tour.trip × HasGoodTourRule t
AsksSupported (to_breaks b) = IsTimed b.trip × HasGoodRule b
AsksSupported (to_explain e) = IsTimed e.trip
