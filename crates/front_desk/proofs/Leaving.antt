-- The text that is due with a report, and the files that a status leaves.
use Rattle.std.proofs.Common.{◌≡◌, ◌≢◌, ◌⊎◌, ⊎_elim, ℕ, Bool, true, false, cond}
use Rattle.std.proofs.Common.{Some, None, Option, List, Result, Ok, Err, refl, sym, subst, arith}
use Rattle.route_base.specs.FolderState.{FolderState}
use Rattle.route_base.specs.declared.status.Status.{Status}
use Rattle.route_base.specs.declared.status.Status.TheVariants.{Done, Rejected, Usage, WriteFault, NoMemory}
use Rattle.front_words.specs.declared.commands.Invocation.{Invocation as Command}
use Rattle.front_words.specs.Commands.{command_of}
use Rattle.front_desk.specs.Commands.{LeavesFiles, ReadsNothing, meaning_of}
use Rattle.front_desk.specs.Inside.Sound.{StaysLeft}
use Rattle.front_desk.specs.Outcomes.{IsAnsweredBy, IsRejectedBy, IsCauseFor}
use Rattle.front_desk.proofs.Meanings.{sound}
use Rattle.front_desk.proofs.Sound.{same_state}
use Rattle.network_folder.specs.Files.{IfTold}
use Rattle.plan_report.specs.declared.outcomes.Refusal.{Refusal}
use Rattle.plan_report.specs.declared.outcomes.Refusal.TheVariants as refusal
use Rattle.front_desk.specs.Inside.Ending.{Concludes, ConcludesWords, Ends, EndsWords, ReportsOn, StopsCommand, StopsWords, status_of_end, status_of_report}
use Rattle.front_desk.specs.Run.{IsCause, IsDue}
use Rattle.front_desk.specs.declared.outcome.Halt.{Halt}
use Rattle.front_desk.specs.declared.outcome.Halt.TheVariants as halt
use Rattle.front_desk.specs.declared.outcome.Report.{Report}

module _ (words : List (List ℕ)) (command : Command) (is : command_of words ≡ Some command) (old new : FolderState) where
  due_by : (text : List ℕ) (rejects : Bool) → (rejects ≡ false → IfTold old (λ held. IsAnsweredBy (meaning_of command) held new.contents text))
      → (rejects ≡ true → (meaning_of command).judges) → (rejects ≡ true → IfTold old (λ held. IsRejectedBy (meaning_of command) held text))
      → IsDue words old new (cond rejects Rejected Done) text
  due_by text true answered judges rejected =
      record { command = command; is_command = is; judges = judges refl; rejected = rejected refl }
  due_by text false answered judges rejected = record { command = command; is_command = is; answered = answered refl }

  -- a report on the command of the words is due with its status
  pub report_due : (report : Report) → ReportsOn (meaning_of command) old new report → IsDue words old new (status_of_report report) report.text.items
  report_due report reports = due_by report.text.items report.rejects reports.answered reports.judges reports.rejected

module _ (old new : FolderState) where
  files_left : (command : Option Command) (due : Status) → LeavesFiles command old new due → StaysLeft (LeavesFiles command old new) due
  files_left None due left = (λ _. left, λ _. left)
  files_left (Some command) due left = (sound command).stays old new due left

  -- where a text couldn't be written, the files are as its command left them
  pub still_left : (command : Option Command) (due status : Status) → (due ≡ WriteFault → ⊥) → (due ≡ NoMemory → ⊥)
      → (status ≡ due) ⊎ ((status ≡ WriteFault) ⊎ (status ≡ NoMemory)) → LeavesFiles command old new due
      → LeavesFiles command old new status
  still_left command due status not_fault not_memory others left =
      ⊎_elim
      (λ (same : status ≡ due). subst (λ (k : Status). LeavesFiles command old new k) (sym same) left)
      (λ (failed : (status ≡ WriteFault) ⊎ (status ≡ NoMemory)).
      ⊎_elim
      (λ (fault : status ≡ WriteFault).
      subst (λ (k : Status). LeavesFiles command old new k) (sym fault) ((files_left command due left).0 not_memory))
      (λ (memory : status ≡ NoMemory).
      subst (λ (k : Status). LeavesFiles command old new k) (sym memory) ((files_left command due left).1 not_fault))
      failed)
      others

-- the status of a report is that of neither a failed write nor of want of memory
reported : (rejects : Bool) → (cond rejects Rejected Done ≡ WriteFault → ⊥) × (cond rejects Rejected Done ≡ NoMemory → ⊥)
reported true = (λ same. cc, λ same. cc)
reported false = (λ same. cc, λ same. cc)

pub never_fault : (report : Report) → status_of_report report ≡ WriteFault → ⊥
never_fault report = (reported report.rejects).0

pub never_memory : (report : Report) → status_of_report report ≡ NoMemory → ⊥
never_memory report = (reported report.rejects).1

-- how words end by the end of their command
module _ (words : List (List ℕ)) (command : Command) (is : command_of words ≡ Some command) (old new : FolderState) where
  -- a command that reads nothing never ends at a failed read
  never_read : (end : Result Report Halt) → (meaning_of command).reads_nothing → (meaning_of command).leaves old new (status_of_end end)
      → end ≢ Err halt.ReadFault
  never_read end nothing left = λ same.
      (sound command).unread nothing old new
      (subst (λ (e : Result Report Halt). (meaning_of command).leaves old new (status_of_end e)) same left)

  refused_words : (refusal : Refusal) → IsCauseFor (meaning_of command) old new refusal → IsCause words old new refusal
  refused_words refusal.Usage why = absurd why
  refused_words (refusal.Input fault) why = record { command = command; is_command = is; cause = why }
  refused_words (refusal.Request fault) why = record { command = command; is_command = is; cause = why }

  stops_words : (halt : Halt) → StopsCommand (meaning_of command) old new halt → StopsWords words old new halt
  stops_words (halt.Refused refused) why = refused_words refused why
  stops_words halt.ReadFault why = why
  stops_words halt.WriteFault why = record { command = command; is_command = is; stops = why }
  stops_words halt.NoMemory why = tt

  concludes_words : (end : Result Report Halt) → Concludes (meaning_of command) old new end → ConcludesWords words old new end
  concludes_words (Ok report) reports = report_due words command is old new report reports
  concludes_words (Err halt) why = stops_words halt why

  pub ends_words : (end : Result Report Halt) → Ends (meaning_of command) old new end → EndsWords words old new end
  ends_words end e = record {
    concludes = concludes_words end e.concludes;
    unread = λ nothing. never_read end (subst (λ (c : Option Command). ReadsNothing c) is nothing) e.left;
    left = subst (λ (c : Option Command). LeavesFiles c old new (status_of_end end)) (sym is) e.left;
    counts = e.counts;
  }

-- nothing was read or written yet, and memory has run out
short_leaves : (command : Option Command) (old : FolderState) → LeavesFiles command old old NoMemory
short_leaves None old = same_state old
short_leaves (Some command) old = (sound command).short old

ends_short : (words : List (List ℕ)) (old : FolderState) → EndsWords words old old (Err halt.NoMemory)
ends_short words old = record {
  concludes = tt;
  unread = λ nothing same. cc;
  left = short_leaves (command_of words) old;
  counts = record { missing = omega arith; read_faults = omega arith; write_faults = omega arith };
}

ends_unknown : (words : List (List ℕ)) (old : FolderState) → command_of words ≡ None → EndsWords words old old (Err (halt.Refused refusal.Usage))
ends_unknown words old none = record {
  concludes = none;
  unread = λ nothing same. cc;
  left = subst (λ (c : Option Command). LeavesFiles c old old Usage) (sym none) (same_state old);
  counts = record { missing = omega arith; read_faults = omega arith; write_faults = omega arith };
}

-- words that are no command, or whose command memory can't hold, end at once
pub ends_no_command : (words : List (List ℕ)) (old : FolderState) (why : Halt)
    → (why ≡ halt.NoMemory) ⊎ ((why ≡ halt.Refused refusal.Usage) × (command_of words ≡ None)) → EndsWords words old old (Err why)
ends_no_command words old why causes =
    ⊎_elim
    (λ (short : why ≡ halt.NoMemory). subst (λ (h : Halt). EndsWords words old old (Err h)) (sym short) (ends_short words old))
    (λ (none : (why ≡ halt.Refused refusal.Usage) × (command_of words ≡ None)).
    subst (λ (h : Halt). EndsWords words old old (Err h)) (sym none.0) (ends_unknown words old none.1))
    causes
