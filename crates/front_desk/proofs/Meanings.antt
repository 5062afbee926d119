-- The meaning of each command is sound: one line a command.
use Rattle.front_words.specs.declared.commands.Invocation.{Invocation as Command}
use Rattle.front_words.specs.declared.commands.Invocation.TheVariants as command
use Rattle.front_desk.specs.Commands.{meaning_of}
use Rattle.front_desk.specs.Inside.Sound.{IsSound}
use Rattle.front_desk.proofs.Batches.{batch_sound}
use Rattle.front_desk.proofs.Drawn.{gen_sound}
use Rattle.front_desk.proofs.Handing.{plan_sound}
use Rattle.front_desk.proofs.Judgements.{check_sound}
use Rattle.front_desk.proofs.ReportedBans.{bans_sound}
use Rattle.front_desk.proofs.ReportedBreaks.{breaks_sound}
use Rattle.front_desk.proofs.ReportedExplain.{explain_sound}
use Rattle.front_desk.proofs.ReportedLate.{latest_sound}
use Rattle.front_desk.proofs.ReportedRestedTours.{rested_tour_sound}
use Rattle.front_desk.proofs.ReportedTours.{tour_sound}

pub sound : (command : Command) → IsSound (meaning_of command)
sound (command.Plan p) = plan_sound p
sound (command.Check c) = check_sound c
sound (command.Bans b) = bans_sound b
sound (command.Batch b) = batch_sound b
sound (command.Gen g) = gen_sound g
sound (command.Latest l) = latest_sound l
sound (command.Tour t) = tour_sound t
sound (command.RestedTour t) = rested_tour_sound t
sound (command.Breaks b) = breaks_sound b
sound (command.Explain e) = explain_sound e
