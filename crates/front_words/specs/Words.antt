-- The names of this crate's law, for the clauses of those above.
pub use Rattle.front_words.specs.Commands.{AsksSupported, HasGoodRule, IsTimed, command_of, to_bans, to_batch, to_breaks, to_check, to_gen}
pub use Rattle.front_words.specs.Commands.{HasGoodTourRule, to_explain, to_latest, to_plan, to_rested_tour, to_tour}
pub use Rattle.front_words.specs.Forms.{count_of, is_certificate_name, is_folder_name, node_of, report_of}
