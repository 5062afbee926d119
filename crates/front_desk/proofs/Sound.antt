-- Meanings that are made from their parts are sound.
use Rattle.std.proofs.Common.{◌≡◌, ℕ, Some, None, Option, List, refl, sym, ◌∙◌, arith}
use Rattle.std.proofs.lemmas.Option.{same_Some}
use Rattle.route_base.specs.Contents.{Contents}
use Rattle.route_base.specs.FolderState.{FolderState, KeepsFiles}
use Rattle.route_base.specs.declared.faults.BadInput.{BadInput}
use Rattle.route_base.specs.declared.faults.RequestFault.{RequestFault}
use Rattle.front_desk.specs.Inside.Sound.{IsSound}
use Rattle.front_desk.specs.Meaning.{Meaning, reads, without_request}

pub same_state : (old : FolderState) → KeepsFiles old old
same_state old = record { contents = refl; missing = omega arith; read_faults = omega arith; write_faults = refl }

pub never_some : {fault : RequestFault} (check : Option RequestFault) → check ≡ Some fault → check ≡ None → ⊥
never_some check some none = cc

-- a command that reads and has one answer
pub reads_sound : (fault : Contents → Option BadInput) (check : Contents → Option RequestFault) (answers : Contents → List ℕ → Type 0)
    → ((held : Contents) (x y : List ℕ) → answers held x → answers held y → x ≡ y) → IsSound (reads fault check answers)
reads_sound fault check answers one = record {
  never_both = λ held failed some none. never_some (check held) some none;
  stays = λ old new due left. (λ _. left, λ _. left);
  short = same_state;
  unread = λ nothing old new left. nothing;
  one = λ held after other. one held;
  one_fault = λ held fault other first second. same_Some fault other (sym first ∙ second);
  one_rejection = λ held x y first second. absurd first;
  never_rejects = λ held after x y answers rejects. rejects;
}

-- the same command, which has no request
pub without_request_sound : (m : Meaning) → IsSound m → IsSound (without_request m)
without_request_sound m sound = record {
  never_both = λ held failed fails passes. fails;
  stays = sound.stays;
  short = sound.short;
  unread = sound.unread;
  one = sound.one;
  one_fault = λ held fault other first second. absurd first;
  one_rejection = sound.one_rejection;
  never_rejects = sound.never_rejects;
}
