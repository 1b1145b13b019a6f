-- What a pass learns that adds nothing.
use Rattle.std.proofs.Common.{◌≡◌, inl, ℕ, true, List, [], length, Option, Some, sym, ap, ◌∙◌, subst}
use Rattle.std.proofs.lemmas.List.{append-nil}
use Rattle.nvm_core.specs.memif.Told.{DeviceTold}
use Rattle.nvm_core.specs.memif.Clock.{Clock}
use Rattle.nvm_core.specs.block_machine.Words.{Entry}
use Rattle.nvm_core.specs.block_machine.StartUp.{at_first}
use Rattle.nvm_core.specs.ram_blocks.Told.{Told}
use Rattle.nvm_core.specs.nv_desk.Desk.{DeskState, state_of}
use Rattle.nvm_core.specs.nvm_laws.DueLaws.{NextIsPending}
use Rattle.nvm_core.specs.nvm_laws.Keeps.{StaysKept}
use Rattle.turn_gate.specs.Entries.{StartsWith, OpenFrom}
use Rattle.turn_gate.specs.Pass.{Has, IsKin, went_out}
use Rattle.nvm_shared.specs.StatusWords.{is_ask}
use Rattle.nvm_shared.specs.Written.{AreWritten}
use Rattle.nvm_shared.specs.Behind.{StandsBehind}
use Rattle.nvm_shared.specs.declared.terms.Terms.{Terms}
use Rattle.nvm_shared.specs.Locked.{LockedState, desk_with, terms_of}
use Rattle.nvm_shared.specs.Passes.{LearnsMore, LearnsTurn}
use Rattle.nvm_shared.specs.Driving.{DriverState, Drives, SeesRequests, TellsReady}
use Rattle.nvm_shared.proofs.Asking.{V}
use Rattle.nvm_shared.proofs.Turning.{replied_by, same_terms}
use Rattle.nvm_shared.proofs.WritingLegal.{rests_are_written}
use Rattle.nvm_shared.proofs.Opened.{open_are_asks}
use Rattle.nvm_shared.proofs.Standing.{asks_stand_behind}

-- the pass v found the list, knows it as u, and left it as it is
pub learns_more : (v u w : V) (log : List Entry) → u.seen ≡ log → StartsWith log v.seen → (v.mark ≡ true → OpenFrom is_ask log (length v.seen)) → IsKin v u → w ≡ went_out u → LearnsMore v w
learns_more v u w log seen starts since kin is =
    let same : w.seen ≡ log = ap (λ (z : V). z.seen) is ∙ seen in record {
      starts = subst (λ (l : List Entry). StartsWith l v.seen) (sym same) starts;
      open_since = λ mark.
          let (more, at) = starts in
          (more, open_are_asks v.seen more (subst (λ (l : List Entry). OpenFrom is_ask l (length v.seen)) at (since mark)), same ∙ at);
      own = ap (λ (z : V). z.own) is ∙ kin.1;
      notes = ap (λ (z : V). z.notes) is ∙ kin.2;
      heard = ap (λ (z : V). z.heard) is ∙ kin.5;
      mark = ap (λ (z : V). z.mark) is ∙ kin.3;
      parts = ap (λ (z : V). z.parts) is ∙ kin.4;
    }

-- the desk that it found is that of its terms with what it has seen then
pub desk_is : (t : Terms) (o : Option Terms) (x : LockedState) (seen : List Entry) → o ≡ Some t → o ≡ Some (terms_of x) → seen ≡ x.desk.entries → x.desk ≡ desk_with t seen
desk_is t o x seen own root entries = ap (λ (s : Terms). desk_with s x.desk.entries) (same_terms o (terms_of x) t root own) ∙ ap (desk_with t) (sym entries)

same_starts : {A : Type 0} (xs ys : List A) → ys ≡ xs → StartsWith ys xs
same_starts xs ys same = ([], same ∙ sym (append-nil xs))

pub more_learns : (v w : V) → LearnsMore v w → LearnsTurn v w
more_learns v w more = record { starts = more.starts; notes = same_starts v.notes w.notes more.notes; heard = same_starts v.heard w.heard more.heard; own = λ k has. inl (subst (λ (ks : List ℕ). Has ks k) more.own has) }

-- the driver's parts stay tied to it
module _ {D C : Type 0} (told : D → DeviceTold) (clock : D → Clock) (copies : C → List Told) (t : Terms) (v w : V) (s : DriverState D C) (learns : LearnsMore v w) (mark : v.mark ≡ true)
    (written : AreWritten t.tells t.config t.cap at_first w.seen) (drives : Drives told clock copies t.tells (desk_with t v.seen) s) where
  stands : StandsBehind (desk_with t v.seen) (desk_with t w.seen) s.hand (told s.device) (clock s.device)
  stands =
      let (more, are, is) = learns.open_since mark in
      subst (λ (x : DeskState). StandsBehind (desk_with t v.seen) x s.hand (told s.device) (clock s.device)) (ap (desk_with t) (sym is))
      (asks_stand_behind (told s.device) (clock s.device) t.tells (desk_with t v.seen) s.hand more are
      (rests_are_written t.tells t.config t.cap at_first v.seen more (subst (λ (l : List Entry). AreWritten t.tells t.config t.cap at_first l) is written)) drives.pending drives.tied)

  pub kept_on : StaysKept (desk_with t v.seen) s.hand (told s.device) (clock s.device) (desk_with t w.seen) s.hand (told s.device) (clock s.device)
  kept_on = stands.kept

  pub sees_requests : TellsReady (told s.device) (clock s.device) → SeesRequests told clock (desk_with t v.seen) (desk_with t w.seen) s
  sees_requests ready =
      let (more, are, is) = learns.open_since mark in record {
        asks = more;
        are = are;
        replied = replied_by t.tells t.config t.cap (state_of (desk_with t v.seen)) more are
            (rests_are_written t.tells t.config t.cap at_first v.seen more (subst (λ (l : List Entry). AreWritten t.tells t.config t.cap at_first l) is written));
        grows = ap (desk_with t) is;
        ready = ready;
      }

  pub drives_on : NextIsPending t.config (state_of (desk_with t w.seen)) → Drives told clock copies t.tells (desk_with t w.seen) s
  drives_on next = record {
    tied = stands.tied;
    pending = stands.pending;
    next = next;
    synchronized = drives.synchronized;
    kept = λ told_now. let (before, kept) = drives.kept told_now in (before, stands.kept.kept before kept);
  }
