-- The report of the closed minutes of an arc is that of its command.
use Rattle.std.proofs.Common.{◌≡◌, false, None, Ok, subst}
use Rattle.route_base.specs.FolderState.{FolderState, KeepsFiles}
use Rattle.network_tables.specs.NetworkModel.{NetworkModel}
use Rattle.network_folder.specs.Files.{IfTold}
use Rattle.network_folder.specs.ReadingOrder.{network_held}
use Rattle.front_desk.specs.Bans.{IsBansText, bans_fault, failed_bans_check}
use Rattle.front_words.specs.declared.bans.Bans.{Bans}
use Rattle.front_desk.specs.Bans.{bans_meaning}
use Rattle.front_desk.specs.Inside.Ending.{Ends}
use Rattle.front_desk.specs.declared.outcome.Report.{Report}
use Rattle.front_desk.proofs.Ending.{kept_rises, reports}
use Rattle.front_desk.specs.Inside.Sound.{IsSound}
use Rattle.front_desk.specs.Bans.{IsBansReport, bans_check}
use Rattle.front_desk.proofs.OneText.{one_bans}
use Rattle.front_desk.proofs.Sound.{reads_sound}

module _ (b : Bans) (old new : FolderState) (network : NetworkModel) (faultless : IfTold old (λ held. bans_fault b held ≡ None))
    (found : IfTold old (λ held. network ≡ network_held held b.dir)) (passed : failed_bans_check network b ≡ None) where
  -- a report of the closed minutes over the folder's network is that of the command
  pub ends_bans : (report : Report) → report.rejects ≡ false → IsBansText network b report.text.items → KeepsFiles old new
      → Ends (bans_meaning b) old new (Ok report)
  ends_bans report accepts right kept = record {
    concludes = reports (bans_meaning b) old new report accepts (λ held is. record {
      faultless = faultless held is;
      good = subst (λ (n : NetworkModel). failed_bans_check n b ≡ None) (found held is) passed;
      answer = subst (λ (n : NetworkModel). IsBansText n b report.text.items) (found held is) right;
    });
    left = kept;
    counts = kept_rises old new kept;
  }

-- the meaning of the command is sound
pub bans_sound : (b : Bans) → IsSound (bans_meaning b)
bans_sound b = reads_sound (bans_fault b) (bans_check b) (IsBansReport b) (λ held x y. one_bans _ b x y)
