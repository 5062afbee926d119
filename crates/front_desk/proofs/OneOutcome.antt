-- The status and the text that are due follow from the words and the files.
use Rattle.std.proofs.Common.{◌≡◌, ℕ, None, Some, Option, List, refl, sym, ◌∙◌, ap, subst}
use Rattle.std.proofs.lemmas.Option.{none-some, same_Some}
use Rattle.route_base.specs.Contents.{Contents}
use Rattle.route_base.specs.FolderState.{FolderState}
use Rattle.route_base.specs.declared.faults.BadInput.{BadInput}
use Rattle.route_base.specs.declared.faults.RequestFault.{RequestFault}
use Rattle.route_base.specs.declared.status.Status.{Status}
use Rattle.route_base.specs.declared.status.Status.TheVariants.{Done, Rejected, Usage, BadInput as BadInputStatus, ReadFault}
use Rattle.route_base.specs.declared.status.Status.TheVariants.{WriteFault, NoMemory, BadRequest}
use Rattle.plan_report.specs.Refusals.{refusal_text_of}
use Rattle.plan_report.specs.declared.outcomes.Refusal.{Refusal}
use Rattle.plan_report.specs.declared.outcomes.Refusal.TheVariants.{Usage as UsageRefusal, Input, Request as RequestRefusal}
use Rattle.front_words.specs.Commands.{command_of}
use Rattle.front_words.specs.declared.commands.Invocation.{Invocation as Command}
use Rattle.front_desk.specs.Commands.{meaning_of}
use Rattle.front_desk.specs.Inside.Sound.{IsSound}
use Rattle.front_desk.specs.Meaning.{Meaning}
use Rattle.front_desk.specs.Outcomes.{IsAnsweredBy, IsRejectedBy}
use Rattle.front_desk.specs.Run.{IsCause, IsDue, Refuses, status_of}
use Rattle.front_desk.proofs.Meanings.{sound}

-- a text of a command over these files, by its status
data Outcome (m : Meaning) (held : Contents) (x : List ℕ) : Status → Type 0 where
  bad_input : (fault : BadInput) → m.fault held ≡ Some fault → x ≡ refusal_text_of (Input fault) → Outcome m held x BadInputStatus
  bad_request : (fault : RequestFault) → m.fault held ≡ None → m.fails held fault → x ≡ refusal_text_of (RequestRefusal fault)
      → Outcome m held x BadRequest
  rejected : IsRejectedBy m held x → Outcome m held x Rejected
  done : (after : Option Contents) → IsAnsweredBy m held after x → Outcome m held x Done

module _ (m : Meaning) (fine : IsSound m) (held : Contents) where
  -- a command has one status and one text
  one_outcome : (x y : List ℕ) (j k : Status) → Outcome m held x j → Outcome m held y k → (j ≡ k) × (x ≡ y)
  one_outcome x y _ _ (bad_input f is text) (bad_input g is_too text_too) =
      (refl, text ∙ ap (λ (w : BadInput). refusal_text_of (Input w)) (same_Some f g (sym is ∙ is_too)) ∙ sym text_too)
  one_outcome x y _ _ (bad_input f is text) (bad_request g none fails text_too) = absurd (none-some f (sym none ∙ is))
  one_outcome x y _ _ (bad_input f is text) (rejected by) = absurd (none-some f (sym by.faultless ∙ is))
  one_outcome x y _ _ (bad_input f is text) (done after by) = absurd (none-some f (sym by.faultless ∙ is))
  one_outcome x y _ _ (bad_request f none fails text) (bad_input g is text_too) = absurd (none-some g (sym none ∙ is))
  one_outcome x y _ _ (bad_request f none fails text) (bad_request g none_too fails_too text_too) =
      (refl, text ∙ ap (λ (w : RequestFault). refusal_text_of (RequestRefusal w)) (fine.one_fault held f g fails fails_too) ∙ sym text_too)
  one_outcome x y _ _ (bad_request f none fails text) (rejected by) = absurd (fine.never_both held f fails by.good)
  one_outcome x y _ _ (bad_request f none fails text) (done after by) = absurd (fine.never_both held f fails by.good)
  one_outcome x y _ _ (rejected by) (bad_input g is text_too) = absurd (none-some g (sym by.faultless ∙ is))
  one_outcome x y _ _ (rejected by) (bad_request g none fails text_too) = absurd (fine.never_both held g fails by.good)
  one_outcome x y _ _ (rejected by) (rejected too) = (refl, fine.one_rejection held x y by.rejects too.rejects)
  one_outcome x y _ _ (rejected by) (done after too) = absurd (fine.never_rejects held after y x too.answer by.rejects)
  one_outcome x y _ _ (done after by) (bad_input g is text_too) = absurd (none-some g (sym by.faultless ∙ is))
  one_outcome x y _ _ (done after by) (bad_request g none fails text_too) = absurd (fine.never_both held g fails by.good)
  one_outcome x y _ _ (done after by) (rejected too) = absurd (fine.never_rejects held after x y by.answer too.rejects)
  one_outcome x y _ _ (done after by) (done other too) = (refl, fine.one held after other x y by.answer too.answer)

-- a text of these words over these files, by its status
data WordsOutcome (words : List (List ℕ)) (held : Contents) (x : List ℕ) (status : Status) : Type 0 where
  no_command : command_of words ≡ None → status ≡ Usage → x ≡ refusal_text_of UsageRefusal → WordsOutcome words held x status
  of_command : (command : Command) → command_of words ≡ Some command → Outcome (meaning_of command) held x status
      → WordsOutcome words held x status

module _ (words : List (List ℕ)) (held : Contents) where
  module _ (old new : FolderState) (is : old.contents ≡ Some held) (x : List ℕ) where
    by_refusal : (refusal : Refusal) → IsCause words old new refusal → x ≡ refusal_text_of refusal → WordsOutcome words held x (status_of refusal)
    by_refusal UsageRefusal cause is_text = no_command cause refl is_text
    by_refusal (Input fault) cause is_text = of_command cause.command cause.is_command (bad_input fault (cause.cause.first held is) is_text)
    by_refusal (RequestRefusal fault) cause is_text =
        of_command cause.command cause.is_command (bad_request fault (cause.cause.faultless held is) (cause.cause.first held is) is_text)

    refused : (status : Status) → Refuses words old new status x → WordsOutcome words held x status
    refused status due = subst (λ (k : Status). WordsOutcome words held x k) due.has_status (by_refusal due.refusal due.cause due.is_text)

    outcome : (status : Status) → IsDue words old new status x → WordsOutcome words held x status
    outcome Done due = of_command due.command due.is_command (done new.contents (due.answered held is))
    outcome Rejected due = of_command due.command due.is_command (rejected (due.rejected held is))
    outcome Usage due = refused Usage due
    outcome BadInputStatus due = refused BadInputStatus due
    outcome BadRequest due = refused BadRequest due
    outcome ReadFault due = absurd due
    outcome WriteFault due = absurd due
    outcome NoMemory due = absurd due

  one_for_words : (x y : List ℕ) (j k : Status) → WordsOutcome words held x j → WordsOutcome words held y k → (j ≡ k) × (x ≡ y)
  one_for_words x y j k (no_command none status text) (no_command none_too status_too text_too) =
      (status ∙ sym status_too, text ∙ sym text_too)
  one_for_words x y j k (no_command none status text) (of_command d is_d by) = absurd (none-some d (sym none ∙ is_d))
  one_for_words x y j k (of_command c is_c by) (no_command none status text) = absurd (none-some c (sym none ∙ is_c))
  one_for_words x y j k (of_command c is_c by) (of_command d is_d by_too) =
      one_outcome (meaning_of c) (sound c) held x y j k by
      (subst (λ (w : Command). Outcome (meaning_of w) held y k) (same_Some d c (sym is_d ∙ is_c)) by_too)

-- the status and the text that are due follow from the words and the files
pub one_due : (words : List (List ℕ)) (held : Contents) (old new before after : FolderState) (status other : Status) (x y : List ℕ)
    → old.contents ≡ Some held → before.contents ≡ Some held → IsDue words old new status x → IsDue words before after other y
    → (status ≡ other) × (x ≡ y)
one_due words held old new before after status other x y is is_too first second =
    one_for_words words held x y status other (outcome words held old new is x status first) (outcome words held before after is_too y other second)
