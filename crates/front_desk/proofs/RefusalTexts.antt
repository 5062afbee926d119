-- The text that is due with a refusal.
use Rattle.std.proofs.Common.{◌≢◌, ℕ, List, refl}
use Rattle.route_base.specs.FolderState.{FolderState}
use Rattle.route_base.specs.declared.status.Status.TheVariants.{WriteFault}
use Rattle.plan_report.specs.Refusals.{refusal_text_of}
use Rattle.plan_report.specs.declared.outcomes.Refusal.{Refusal}
use Rattle.plan_report.specs.declared.outcomes.Refusal.TheVariants.{Usage, Input, Request}
use Rattle.front_desk.specs.Run.{IsCause, IsDue, status_of}

pub refusal_due : (words : List (List ℕ)) (old new : FolderState) (refusal : Refusal) → IsCause words old new refusal
    → IsDue words old new (status_of refusal) (refusal_text_of refusal)
refusal_due words old new Usage cause = record { refusal = Usage; has_status = refl; cause = cause; is_text = refl }
refusal_due words old new (Input fault) cause = record { refusal = Input fault; has_status = refl; cause = cause; is_text = refl }
refusal_due words old new (Request fault) cause = record { refusal = Request fault; has_status = refl; cause = cause; is_text = refl }

-- no refusal has the status of a failed write
pub no_write_fault : (refusal : Refusal) → status_of refusal ≢ WriteFault
no_write_fault Usage same = cc
no_write_fault (Input fault) same = cc
no_write_fault (Request fault) same = cc
