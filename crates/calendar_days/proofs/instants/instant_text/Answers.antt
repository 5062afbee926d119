use Rattle.std.proofs.Common.{◌∙◌, ap, inl, refl}
use Rattle.calendar_days.specs.Texts.{instant_of, instant_text_of}
use Rattle.calendar_days.proofs.InstantForms.{instant-read}
use Rattle.calendar_days.proofs.instants.instant_text.Goals as goal

pub returns-clause-text : goal.returns-clause-text
unfolding instant_text_of
returns-clause-text c =
    rw (
      c.two_digits.ensures,
      c.two_digits-2.ensures,
      c.two_digits-3.ensures,
      c.two_digits-4.ensures,
      c.two_digits-5.ensures,
      c.two_digits-6.ensures,
      c.date_of-date.ensures.value,
    ) refl

pub returns-clause-read : goal.returns-clause-read
returns-clause-read c =
    ap instant_of (returns-clause-text c) ∙ instant-read (instant_text_of c.args.t) c.args.t c.requires (inl refl)
