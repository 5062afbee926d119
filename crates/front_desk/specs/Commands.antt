-- The meaning of each command: one line a command (source: own).
use Rattle.std.specs.Prelude.{⊤, Option, Some, None}
use Rattle.route_base.specs.FolderState.{FolderState, KeepsFiles}
use Rattle.route_base.specs.declared.status.Status.{Status}
use Rattle.front_words.specs.declared.commands.Invocation.{Invocation as Command}
use Rattle.front_words.specs.declared.commands.Invocation.TheVariants as command
use Rattle.front_desk.specs.Bans.{bans_meaning}
use Rattle.front_desk.specs.Batch.{batch_meaning}
use Rattle.front_desk.specs.Breaks.{breaks_meaning}
use Rattle.front_desk.specs.Check.{check_meaning}
use Rattle.front_desk.specs.Explain.{explain_meaning}
use Rattle.front_desk.specs.Gen.{gen_meaning}
use Rattle.front_desk.specs.Latest.{latest_meaning}
use Rattle.front_desk.specs.Meaning.{Meaning}
use Rattle.front_desk.specs.Plan.{plan_meaning}
use Rattle.front_desk.specs.RestedTour.{rested_tour_meaning}
use Rattle.front_desk.specs.Tour.{tour_meaning}

-- the meaning of a command
abbrev pub meaning_of : Command → Meaning
meaning_of (command.Plan p) = plan_meaning p
meaning_of (command.Check c) = check_meaning c
meaning_of (command.Bans b) = bans_meaning b
meaning_of (command.Batch b) = batch_meaning b
meaning_of (command.Gen g) = gen_meaning g
meaning_of (command.Latest l) = latest_meaning l
meaning_of (command.Tour t) = tour_meaning t
meaning_of (command.RestedTour t) = rested_tour_meaning t
meaning_of (command.Breaks b) = breaks_meaning b
meaning_of (command.Explain e) = explain_meaning e

-- words that read no file: those that are no command, and those of a command that reads none
abbrev pub ReadsNothing : Option Command → Type 0
ReadsNothing None = ⊤
ReadsNothing (Some command) = (meaning_of command).reads_nothing

-- the state in which the words leave the folder: words that are no command leave all files as they are
abbrev pub LeavesFiles : Option Command → FolderState → FolderState → Status → Type 0
LeavesFiles None old new status = KeepsFiles old new
LeavesFiles (Some command) old new status = (meaning_of command).leaves old new status
