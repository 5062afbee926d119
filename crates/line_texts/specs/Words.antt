-- The names of this crate's law, for its clauses and for those of the crates above (source: own).
pub use Rattle.line_texts.specs.Begun.{IsBegun}
pub use Rattle.line_texts.specs.Costs.{thousandths_of, three_digits}
pub use Rattle.line_texts.specs.Legs.{plain_leg_text}
