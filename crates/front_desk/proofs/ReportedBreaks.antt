-- The report of a trip with driver breaks is that of its command.
use Rattle.std.proofs.Common.{◌≡◌, inr, ⊎_elim, false, None, Some, Ok, refl, ap, sym, subst, ◌∙◌}
use Rattle.std.proofs.lemmas.Option.{same_Some}
use Rattle.route_base.specs.FolderState.{FolderState, KeepsFiles}
use Rattle.route_base.specs.declared.faults.RequestFault.TheVariants.{TooManyStates}
use Rattle.network_tables.specs.NetworkModel.{NetworkModel}
use Rattle.front_words.specs.declared.breaks.Breaks.{Breaks}
use Rattle.front_desk.specs.Breaks.{breaks_meaning}
use Rattle.network_folder.specs.Files.{IfTold}
use Rattle.network_folder.specs.ReadingOrder.{network_held}
use Rattle.front_desk.specs.Breaks.{IsBreaksText, HasManyStates, breaks_fault, breaks_check}
use Rattle.front_desk.specs.Inside.Ending.{Ends}
use Rattle.front_desk.specs.Plan.{trip_setting}
use Rattle.front_desk.specs.Trips.{failed_check}
use Rattle.front_desk.specs.declared.outcome.Report.{Report}
use Rattle.front_desk.proofs.Ending.{kept_rises, reports}
use Rattle.front_desk.proofs.OneText.{one_breaks}
use Rattle.route_base.specs.Contents.{Contents}
use Rattle.route_base.specs.declared.faults.RequestFault.{RequestFault}
use Rattle.front_desk.specs.Inside.Sound.{IsSound}
use Rattle.front_desk.specs.Breaks.{ExceedsStates, FailsBreaks, IsBreaksReport, PassesBreaks}
use Rattle.front_desk.proofs.Sound.{never_some, reads_sound}

module _ (b : Breaks) (old new : FolderState) (network : NetworkModel) (found : IfTold old (λ held. network ≡ network_held held b.dir))
    (passed : failed_check network b.trip ≡ None) where
  passes : IfTold old (λ held. breaks_check b held ≡ None)
  passes held is = ap (λ (n : NetworkModel). failed_check n b.trip) (sym (found held is)) ∙ passed

  -- states that are too many over the network are too many for the command
  pub exceeds : HasManyStates (trip_setting network b.trip) b → IfTold old (λ held. (breaks_meaning b).fails held TooManyStates)
  exceeds many held is = inr (record {
    passed = passes held is;
    many = subst (λ (n : NetworkModel). HasManyStates (trip_setting n b.trip) b) (found held is) many;
    is_fault = refl;
  })

  -- a report of right routes over the folder's network is that of the command
  pub ends_breaks : IfTold old (λ held. breaks_fault b held ≡ None) → (report : Report) → report.rejects ≡ false
      → IsBreaksText (trip_setting network b.trip) b report.text.items → (HasManyStates (trip_setting network b.trip) b → ⊥) → KeepsFiles old new
      → Ends (breaks_meaning b) old new (Ok report)
  ends_breaks faultless report accepts right few kept = record {
    concludes = reports (breaks_meaning b) old new report accepts (λ held is. record {
      faultless = faultless held is;
      good = record {
        passed = passes held is;
        few = subst (λ (n : NetworkModel). HasManyStates (trip_setting n b.trip) b → ⊥) (found held is) few;
      };
      answer = subst (λ (n : NetworkModel). IsBreaksText (trip_setting n b.trip) b report.text.items) (found held is) right;
    });
    left = kept;
    counts = kept_rises old new kept;
  }

-- a request that fails a check doesn't pass all of them
never_both : (b : Breaks) (held : Contents) (fault : RequestFault) → FailsBreaks b held fault → PassesBreaks b held → ⊥
never_both b held fault failed passes = ⊎_elim
    (λ (one : breaks_check b held ≡ Some fault). never_some (breaks_check b held) one passes.passed)
    (λ (too_many : ExceedsStates b held fault). passes.few too_many.many)
    failed

-- just one check is the first that fails
one_fault : (b : Breaks) (held : Contents) (fault other : RequestFault) → FailsBreaks b held fault → FailsBreaks b held other → fault ≡ other
one_fault b held fault other first second = ⊎_elim
    (λ (one : breaks_check b held ≡ Some fault). ⊎_elim
    (λ (two : breaks_check b held ≡ Some other). same_Some fault other (sym one ∙ two))
    (λ (two : ExceedsStates b held other). absurd (never_some (breaks_check b held) one two.passed))
    second)
    (λ (one : ExceedsStates b held fault). ⊎_elim
    (λ (two : breaks_check b held ≡ Some other). absurd (never_some (breaks_check b held) two one.passed))
    (λ (two : ExceedsStates b held other). one.is_fault ∙ sym two.is_fault)
    second)
    first

-- the meaning of the command is sound
pub breaks_sound : (b : Breaks) → IsSound (breaks_meaning b)
breaks_sound b =
    let reading = reads_sound (breaks_fault b) (breaks_check b) (IsBreaksReport b) (λ held x y. one_breaks _ b x y) in
    record {
      never_both = never_both b;
      stays = reading.stays;
      short = reading.short;
      unread = reading.unread;
      one = reading.one;
      one_fault = one_fault b;
      one_rejection = reading.one_rejection;
      never_rejects = reading.never_rejects;
    }
