-- What the function of a command makes of the values that `clap` found; no law.
use Rattle.std.specs.Prelude.{IfOk, Result}
use Rattle.clap.specs.declared.parser.matches.ArgMatches.{ArgMatches}
use Rattle.front_words.specs.ClapCommands.{made_at}
use Rattle.front_words.specs.Commands.{AsksSupported, Command}
use Rattle.front_words.specs.Inside.{IsAnswer, choices_in, ids_in, usage_in}
use Rattle.front_words.specs.declared.commands.WordsFault.{WordsFault}
use Rattle.front_words.specs.declared.table.CommandName.{CommandName}
pub use Rattle.front_words.specs.declared.table.CommandName.TheVariants.{Bans as bans_row, Batch as batch_row, Breaks as breaks_row, Check as check_row}
pub use Rattle.front_words.specs.declared.table.CommandName.TheVariants.{Explain as explain_row, Gen as gen_row, Latest as latest_row}
pub use Rattle.front_words.specs.declared.table.CommandName.TheVariants.{Plan as plan_row, Tour as tour_row}

-- the command that the values make in the command's row, or out of memory; it asks for what is supported
pub record IsFound (matches : ArgMatches) (command : CommandName) (result : Result Command WordsFault) : Type 0 where
  pub made : IsAnswer (made_at matches (usage_in command) (ids_in command) (choices_in command)) result
  pub supported : IfOk result AsksSupported
