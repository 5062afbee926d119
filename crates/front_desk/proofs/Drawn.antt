-- The trip over a drawn network passes all checks, and the drawn files are written.
use Rattle.std.proofs.Common.{◌≡◌, inl, inr, ℕ, ◌*◌, ◌≤◌, Bool, true, false, cond, Some, None, Option, List, [], Ok, Err}
use Rattle.std.proofs.Common.{codes, refl, ap, sym, subst, ◌∙◌, arith}
use Rattle.std.specs.Prelude.{not}
use Rattle.std.proofs.lemmas.Bool.{le-leb, and_from}
use Rattle.std.proofs.Math.Nat.{mul-le-mul_left}
use Rattle.route_base.specs.Contents.{Contents}
use Rattle.route_base.specs.FolderState.{FolderState, CountsRise}
use Rattle.route_base.specs.declared.sink.WriteError.{WriteError}
use Rattle.route_base.specs.declared.sink.WriteError.TheVariants.{Failed, OutOfMemory}
use Rattle.route_base.specs.declared.status.Status.{Status}
use Rattle.route_base.specs.declared.faults.RequestFault.TheVariants.{OriginRange, GoalRange}
use Rattle.network_tables.specs.NetworkModel.{NetworkModel}
use Rattle.net_generator.specs.Sizes.{IsDrawable}
use Rattle.drawn_network.specs.DrawnNetwork.{network_drawn}
use Rattle.front_words.specs.declared.generate.Gen.{Gen}
use Rattle.network_folder.specs.Writing.{FileToWrite, HoldsEach}
use Rattle.front_desk.specs.Gen.{IsSummary, LeavesGen, drawn_trip, gen_meaning, files_written, stated_network}
use Rattle.front_desk.specs.Inside.Ending.{Ends, halt_of_write}
use Rattle.front_desk.proofs.Ending.{reports, status_done}
use Rattle.network_folder.specs.Writing.{FailsToPutEach}
use Rattle.front_desk.specs.Trips.{failed_check, failed_check_over, is_node}
use Rattle.front_desk.specs.declared.outcome.Halt.TheVariants.{NoMemory}
use Rattle.front_desk.specs.declared.outcome.Report.{Report}
use Rattle.front_desk.specs.Inside.Sound.{IsSound, StaysLeft}
use Rattle.front_desk.proofs.OneText.{one_summary}
use Rattle.route_base.specs.declared.status.Status.TheVariants as status

-- a trip of 60 days from the first node to the last
last_passes : (n : ℕ) → 1 ≤ n
    → failed_check_over n (record { vehicle = codes "any"; origin = 1; goal = n; depart = 26563680; until = 26650080 }) ≡ None
last_passes n some =
    let origin : is_node n 1 ≡ true = and_from _ _ refl (le-leb 1 n some) in
    let goal : is_node n n ≡ true = and_from _ _ (le-leb 1 n some) (le-leb n n (omega arith)) in
    ap (λ (b : Bool). cond (not b) (Some OriginRange) (cond (not (is_node n n)) (Some GoalRange) None)) origin
    ∙ ap (λ (b : Bool). cond (not b) (Some GoalRange) None) goal

-- the trip is one of a vehicle that is known between nodes that are there
pub drawn_passes : (g : Gen) → IsDrawable g.number g.rows g.columns → stated_network g ≡ network_drawn g.number g.rows g.columns
    → failed_check (stated_network g) (drawn_trip g) ≡ None
drawn_passes g drawable same =
    subst (λ (network : NetworkModel). failed_check network (drawn_trip g) ≡ None) (sym same)
    (last_passes (g.rows * g.columns) (omega (arith, drawable.rows_low, mul-le-mul_left g.rows drawable.columns_low)))

module _ (g : Gen) (old new : FolderState) (counts : CountsRise old new) (files : List FileToWrite) (same : files ≡ files_written g) where
  -- a report that sums up the drawn network is that of its command, where the files were written
  pub ends_drawn : (report : Report) → report.rejects ≡ false → IsSummary g report.text.items → HoldsEach g.dir files old.contents new.contents
      → Ends (gen_meaning g) old new (Ok report)
  ends_drawn report accepts summary written =
      let all = subst (λ (fs : List FileToWrite). HoldsEach g.dir fs old.contents new.contents) same written in
      record {
        concludes = reports (gen_meaning g) old new report accepts (λ held is. record {
          faultless = refl;
          good = tt;
          answer = record { summary = summary; written = subst (λ (o : Option Contents). HoldsEach g.dir (files_written g) o new.contents) is all };
        });
        left = subst (λ (status : Status). LeavesGen g old new status) (sym (status_done report accepts)) all;
        counts = counts;
      }

  -- a file that couldn't be written stops the command
  pub ends_unwritten : (error : WriteError) → FailsToPutEach old new g.dir files error → Ends (gen_meaning g) old new (Err (halt_of_write error))
  ends_unwritten Failed why = record {
    concludes = record { writes = tt; faultless = λ held is. refl; good = λ held is. tt; counted = why.0 };
    left = inr (subst (λ (fs : List FileToWrite). FailsToPutEach old new g.dir fs Failed) same why);
    counts = counts;
  }
  ends_unwritten OutOfMemory why = record {
    concludes = tt;
    left = subst (λ (fs : List FileToWrite). FailsToPutEach old new g.dir fs OutOfMemory) same why;
    counts = counts;
  }

-- memory ran out before a file was written
pub ends_undrawn : (g : Gen) (old : FolderState) → Ends (gen_meaning g) old old (Err NoMemory)
ends_undrawn g old = record {
  concludes = tt;
  left = record { written = []; others = files_written g; parts = refl; held = refl };
  counts = record { missing = omega arith; read_faults = omega arith; write_faults = omega arith };
}

-- all drawn files were written before the text was handed over
gen_left : (g : Gen) (old new : FolderState) (due : Status) → LeavesGen g old new due → StaysLeft (LeavesGen g old new) due
gen_left g old new status.Done left = (λ _. inl left, λ _. record { written = files_written g; others = []; parts = refl; held = left })
gen_left g old new status.WriteFault left = (λ _. left, λ not. absurd (not refl))
gen_left g old new status.NoMemory left = (λ not. absurd (not refl), λ _. left)
gen_left g old new status.Rejected left = absurd left
gen_left g old new status.Usage left = absurd left
gen_left g old new status.BadInput left = absurd left
gen_left g old new status.ReadFault left = absurd left
gen_left g old new status.BadRequest left = absurd left

-- the meaning of the command is sound
pub gen_sound : (g : Gen) → IsSound (gen_meaning g)
gen_sound g = record {
  never_both = λ held failed fails passes. fails;
  stays = gen_left g;
  short = λ old. record { written = []; others = files_written g; parts = refl; held = refl };
  unread = λ nothing old new left. left;
  one = λ held after other x y first second. one_summary g x y first.summary second.summary;
  one_fault = λ held fault other first second. absurd first;
  one_rejection = λ held x y first second. absurd first;
  never_rejects = λ held after x y answers rejects. rejects;
}
